-- Rings of characteristic p, for a prime p: a -> a^p keeps sums.
use Rattle.std.proofs.Common.{◌≡◌, ◌≢◌, ◌↔◌, ⊎_elim, mod-lt, eq-zero-or-pos, pos_of_ne-zero, ◌^◌, ◌<◌, ℕ, zero, suc, ◌+◌, ◌*◌, ◌/◌, ◌%◌, ◌<◌, List, [], ◌∷◌, length, slice_index_or, pred, refl, ap, ap₂, sym, ◌∙◌, arith, mul_comm}
use Rattle.std.proofs.Math.Nat.{zero-mod, div-add-mod, pow-zero, pow-suc}
use Rattle.alg_model.specs.Coefficients.{Ops, times, power, IsPrime}
use Rattle.alg_model.specs.Polynomials.{sum, scale, shift, product, leading, derivative, evaluate}
use Rattle.alg_rings.specs.Laws.{RingLaws}
use Rattle.alg_rings.proofs.Rings
use Rattle.alg_rings.proofs.Lists
use Rattle.alg_rings.proofs.Rings.{sorted, expanded}
use Rattle.alg_rings.proofs.Primes.{inverse_modulo}
use Rattle.alg_rings.proofs.Powers
use Rattle.alg_rings.proofs.Evaluation
use Rattle.alg_rings.proofs.Trims
use Rattle.alg_rings.proofs.Division
use Rattle.alg_fields.proofs.Derivatives
use Rattle.alg_fields.proofs.Derivatives.{raw_derivative}

module _ {A : Type 0} {o : Ops A} (R : RingLaws o) where
  open o use {zero as O, one as I, add as ◌⊕◌, mul as ◌⊗◌, neg}

  infixl 60 ◌⊕◌
  infixl 70 ◌⊗◌
  -- the coefficients of (b + a * x)^n
  abbrev powers_of_sum : A → A → ℕ → List A
  powers_of_sum a b zero = I ∷ []
  powers_of_sum a b (suc n) = product o (powers_of_sum a b n) (b ∷ a ∷ [])

  module _ (a b : A) where
    value_of_powers : (c : A) (n : ℕ) → evaluate o (powers_of_sum a b n) c ≡ power o (b ⊕ c ⊗ a) n
    value_of_powers c zero = Evaluation.value_of_constant R I c
    value_of_powers c (suc n) =
        Evaluation.value_of_product R (powers_of_sum a b n) (b ∷ a ∷ []) c
        ∙ ap₂ ◌⊗◌ (value_of_powers c n) (ap (λ w. b ⊕ c ⊗ w) (Evaluation.value_of_constant R a c))

    derivative_of_powers : (n : ℕ) → raw_derivative o (powers_of_sum a b (suc n)) ≡ scale o (times o (suc n) a) (powers_of_sum a b n)
    derivative_of_powers zero =
        ap (raw_derivative o) (Lists.one_product R (b ∷ a ∷ [])) ∙ ap (λ w. w ∷ []) (sym (Rings.mul_one R (times o 1 a)))
    derivative_of_powers (suc n) =
        Derivatives.raw_derivative_product R (powers_of_sum a b (suc n)) (b ∷ a ∷ [])
        ∙ ap₂ (sum o)
        (ap (λ w. product o w (b ∷ a ∷ [])) (derivative_of_powers n)
        ∙ Lists.scale_product R (times o (suc n) a) (powers_of_sum a b n) (b ∷ a ∷ []))
        (Lists.product_comm R (powers_of_sum a b (suc n)) (times o 1 a ∷ [])
        ∙ Lists.constant_product R (times o 1 a) (powers_of_sum a b (suc n))
        ∙ ap (λ c. scale o c (powers_of_sum a b (suc n))) (Rings.add_zero R a))
        ∙ sym (Lists.scale_add R (times o (suc n) a) a (powers_of_sum a b (suc n)))
        ∙ ap (λ c. scale o c (powers_of_sum a b (suc n))) (R.add_comm (times o (suc n) a) a)

    next : (n : ℕ) → powers_of_sum a b (suc n) ≡ sum o (scale o b (powers_of_sum a b n)) (shift o (scale o a (powers_of_sum a b n)))
    next n =
        Lists.product_comm R (powers_of_sum a b n) (b ∷ a ∷ [])
        ∙ ap (λ w. sum o (scale o b (powers_of_sum a b n)) (shift o w)) (Lists.constant_product R a (powers_of_sum a b n))

    longer : (f : List A) (n : ℕ) → length f ≡ suc n → length (sum o (scale o b f) (shift o (scale o a f))) ≡ suc (suc n)
    longer [] n e = absurd (omega arith)
    longer (x ∷ xs) n e =
        omega (arith, Lists.length_sum o (scale o b (x ∷ xs)) (shift o (scale o a (x ∷ xs))), Lists.length_scale o b xs, Lists.length_scale o a xs)

    leading_next : (f : List A) (n : ℕ) → length f ≡ suc n → leading o (sum o (scale o b f) (shift o (scale o a f))) ≡ a ⊗ leading o f
    leading_next [] n e = absurd (omega arith)
    leading_next (x ∷ xs) n e =
        Trims.leading_sum_longer o (scale o b (x ∷ xs)) (O ∷ scale o a (x ∷ xs)) (omega (arith, Lists.length_scale o b xs, Lists.length_scale o a xs))
        ∙ Division.leading_scale R a (x ∷ xs)

    length_of_powers : (n : ℕ) → length (powers_of_sum a b n) ≡ suc n
    length_of_powers zero = refl
    length_of_powers (suc n) = ap length (next n) ∙ longer (powers_of_sum a b n) n (length_of_powers n)

    leading_of_powers : (n : ℕ) → leading o (powers_of_sum a b n) ≡ power o a n
    leading_of_powers zero = refl
    leading_of_powers (suc n) =
        ap (leading o) (next n) ∙ leading_next (powers_of_sum a b n) n (length_of_powers n)
        ∙ ap (λ w. a ⊗ w) (leading_of_powers n) ∙ R.mul_comm a (power o a n)

  -- where all places but the last are zero
  value_of_last : (f : List A) → ((k : ℕ) → suc k < length f → slice_index_or f k O ≡ O) → evaluate o f I ≡ leading o f
  value_of_last [] h = refl
  value_of_last (x ∷ []) h = Evaluation.value_of_constant R x I
  value_of_last (x ∷ y ∷ ys) h =
      ap₂ ◌⊕◌ (h 0 (omega arith)) (R.one_mul (evaluate o (y ∷ ys) I) ∙ value_of_last (y ∷ ys) (λ k l. h (suc k) (omega arith)))
      ∙ R.zero_add (leading o (y ∷ ys))

  module _ (p : ℕ) (prime : IsPrime p) (characteristic : times o p I ≡ O) where
    pub times_characteristic : (a : A) → times o p a ≡ O
    times_characteristic a = Powers.times_one R p a ∙ ap (λ w. w ⊗ a) characteristic ∙ Rings.zero_mul R a

    pub times_multiple : (m : ℕ) (a : A) → times o (p * m) a ≡ O
    times_multiple m a = Powers.times_times R p m a ∙ times_characteristic (times o m a)

    pub times_remainder : (n : ℕ) (a : A) → times o n a ≡ times o (n % p) a
    times_remainder n a =
        ap (λ k. times o k a) (sym (div-add-mod n p)) ∙ Powers.times_add R (p * (n / p)) (n % p) a
        ∙ ap (λ w. w ⊕ times o (n % p) a) (times_multiple (n / p) a) ∙ R.zero_add (times o (n % p) a)

    -- a multiple that isn't one of p is zero of zero alone
    pub zero_from_times : (k : ℕ) (a : A) → 0 < k → k < p → times o k a ≡ O → a ≡ O
    zero_from_times k a l h e =
        let (u, is_inverse) = inverse_modulo p prime k l h in
        sym (Rings.add_zero R a) ∙ ap (λ n. times o n a) (sym (ap (λ m. m % p) (mul_comm u k) ∙ is_inverse)) ∙ sym (times_remainder (u * k) a)
        ∙ Powers.times_times R u k a ∙ ap (times o u) e ∙ Powers.times_zero R u

    -- where the derivative is zero, a list of p + 1 coefficients has none between the first and the last
    value_of_ends : (f : List A) → length f ≡ suc p → ((k : ℕ) → slice_index_or (raw_derivative o f) k O ≡ O)
        → evaluate o f I ≡ evaluate o f O ⊕ leading o f
    value_of_ends [] e h = absurd (omega arith)
    value_of_ends (x ∷ []) e h = absurd (omega (arith, prime.above_one))
    value_of_ends (x ∷ y ∷ ys) e h =
        let zeros : (k : ℕ) → suc k < length (y ∷ ys) → slice_index_or (y ∷ ys) k O ≡ O =
        λ k l. zero_from_times (1 + k) (slice_index_or (y ∷ ys) k O) (omega arith) (omega arith)
        (sym (Derivatives.multiples_from_at R 1 (y ∷ ys) k) ∙ h k) in
        ap₂ ◌⊕◌ (sym (ap (λ w. x ⊕ w) (Rings.zero_mul R (evaluate o (y ∷ ys) O)) ∙ Rings.add_zero R x))
        (R.one_mul (evaluate o (y ∷ ys) I) ∙ value_of_last (y ∷ ys) zeros)

    ends_of_powers : (a b : A) (n : ℕ) → p ≡ suc n
        → evaluate o (powers_of_sum b a p) I ≡ evaluate o (powers_of_sum b a p) O ⊕ leading o (powers_of_sum b a p)
    ends_of_powers a b n e = value_of_ends (powers_of_sum b a p) (length_of_powers b a p) zeros
      where
        zeros : (k : ℕ) → slice_index_or (raw_derivative o (powers_of_sum b a p)) k O ≡ O
        zeros k =
            ap (λ m. slice_index_or (raw_derivative o (powers_of_sum b a m)) k O) e
            ∙ ap (λ f. slice_index_or f k O) (derivative_of_powers b a n)
            ∙ ap (λ m. slice_index_or (scale o (times o m b) (powers_of_sum b a n)) k O) (sym e)
            ∙ Lists.scale_at R (times o p b) (powers_of_sum b a n) k
            ∙ ap (λ w. w ⊗ slice_index_or (powers_of_sum b a n) k O) (times_characteristic b)
            ∙ Rings.zero_mul R (slice_index_or (powers_of_sum b a n) k O)

    -- **(a + b)^p = a^p + b^p**
    pub power_of_sum : (a b : A) → power o (a ⊕ b) p ≡ power o a p ⊕ power o b p
    power_of_sum a b =
        ap (λ w. power o (a ⊕ w) p) (sym (R.one_mul b)) ∙ sym (value_of_powers b a I p)
        ∙ ends_of_powers a b (pred p) (omega (arith, prime.above_one))
        ∙ ap₂ ◌⊕◌ (value_of_powers b a O p ∙ ap (λ w. power o w p) (ap (λ w. a ⊕ w) (Rings.zero_mul R b) ∙ Rings.add_zero R a))
        (leading_of_powers b a p)

    pub power_of_zero : power o O p ≡ O
    power_of_zero = ap (power o O) positive ∙ Powers.power_of_zero R (pred p)
      where
        positive : p ≡ suc (pred p)
        positive = let l : 1 < p = prime.above_one in omega arith

    pub power_of_negative : (a : A) → power o (neg a) p ≡ neg (power o a p)
    power_of_negative a =
        Rings.neg_unique R (power o a p) (power o (neg a) p)
        (sym (power_of_sum a (neg a)) ∙ ap (λ w. power o w p) (R.add_neg a) ∙ power_of_zero)

    pub power_of_difference : (a b : A) → power o (a ⊕ neg b) p ≡ power o a p ⊕ neg (power o b p)
    power_of_difference a b = power_of_sum a (neg b) ∙ ap (λ w. power o a p ⊕ w) (power_of_negative b)

    -- a multiple of one is its own power p
    pub power_of_multiple : (n : ℕ) → power o (times o n I) p ≡ times o n I
    power_of_multiple zero = power_of_zero
    power_of_multiple (suc n) = power_of_sum I (times o n I) ∙ ap₂ ◌⊕◌ (Powers.power_of_one R p) (power_of_multiple n)

    -- the same for p^k in place of p
    pub power_of_sum_iterated : (k : ℕ) (a b : A) → power o (a ⊕ b) (p ^ k) ≡ power o a (p ^ k) ⊕ power o b (p ^ k)
    power_of_sum_iterated zero a b =
        ap (power o (a ⊕ b)) (pow-zero p) ∙ Powers.power_one R (a ⊕ b)
        ∙ sym (ap₂ ◌⊕◌ (ap (power o a) (pow-zero p) ∙ Powers.power_one R a) (ap (power o b) (pow-zero p) ∙ Powers.power_one R b))
    power_of_sum_iterated (suc k) a b =
        further (a ⊕ b) ∙ ap (λ w. power o w p) (power_of_sum_iterated k a b) ∙ power_of_sum (power o a (p ^ k)) (power o b (p ^ k))
        ∙ sym (ap₂ ◌⊕◌ (further a) (further b))
      where
        further : (c : A) → power o c (p ^ suc k) ≡ power o (power o c (p ^ k)) p
        further c = ap (power o c) (pow-suc p k) ∙ sym (Powers.power_power R c (p ^ k) p)

    -- **the derivative is zero exactly if each place that is no multiple of p is zero**
    pub derivative_zero_iff_places : (f : List A) → (derivative o f ≡ []) ↔ ((k : ℕ) → k % p ≢ 0 → slice_index_or f k O ≡ O)
    derivative_zero_iff_places f = (to, λ h. Derivatives.derivative_is_trimmed R f ∙ Trims.trim_zeros o R.zero_test (raw_derivative o f) (from h))
      where
        to : derivative o f ≡ [] → (k : ℕ) → k % p ≢ 0 → slice_index_or f k O ≡ O
        to e zero n = absurd (n (zero-mod p))
        to e (suc k) n = zero_from_times (suc k % p) (slice_index_or f (suc k) O) (pos_of_ne-zero n) (mod-lt (suc k) (omega (arith, prime.above_one)))
            (sym (times_remainder (suc k) (slice_index_or f (suc k) O)) ∙ sym (Derivatives.raw_derivative_at R f k)
            ∙ Trims.places_of_trim o R.zero_test (raw_derivative o f) [] (sym (Derivatives.derivative_is_trimmed R f) ∙ e) k)

        from : ((k : ℕ) → k % p ≢ 0 → slice_index_or f k O ≡ O) → (k : ℕ) → slice_index_or (raw_derivative o f) k O ≡ O
        from h k = Derivatives.raw_derivative_at R f k ∙ ⊎_elim
            (λ z. times_remainder (suc k) (slice_index_or f (suc k) O) ∙ ap (λ m. times o m (slice_index_or f (suc k) O)) z)
            (λ l. ap (times o (suc k)) (h (suc k) (λ e. omega (arith, e, l))) ∙ Powers.times_zero R (suc k)) (eq-zero-or-pos (suc k % p))
