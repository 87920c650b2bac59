-- Rings with division with remainder by size, and a choice of one associate of each element: polynomials over a field,
-- with the number of coefficients for a size and the monic ones for that choice.
--     EuclideanLaws o size Monic     the laws
use Rattle.std.proofs.Common.{◌≡◌, ◌≢◌, ◌⊎◌, ⊎_elim, inl, inr, ℕ, zero, suc, ◌+◌, ◌<◌, ◌≤◌, sym, refl, ap, ap₂, ◌∙◌, subst, arith}
use Rattle.alg_model.specs.Coefficients.{Ops}
use Rattle.alg_rings.specs.Laws.{RingLaws}
use Rattle.alg_rings.proofs.Divisibility.{Divides, divides_same, one_divides, divides_zero, divides_trans, divides_product, divides_rest}
use Rattle.alg_rings.proofs.Rings.{zero_or_not, mul_zero, zero_mul, mul_neg, add_zero, same_from_difference}

pub record EuclideanLaws {R : Type 0} (o : Ops R) (size : R → ℕ) (Monic : R → Type 0) : Type 0 where
  pub ring : RingLaws o
  pub divide : (a d : R) → d ≢ o.zero → (q : R) × (r : R) × (a ≡ o.add (o.mul q d) r) × (size r < size d)
  pub size_zero : size o.zero ≡ 0
  pub size_one : size o.one ≡ 1
  pub zero_from_size : (a : R) → size a ≡ 0 → a ≡ o.zero
  pub size_mul : (a b : R) → a ≢ o.zero → b ≢ o.zero → suc (size (o.mul a b)) ≡ size a + size b
  pub zero_not_monic : Monic o.zero → ⊥
  pub one_monic : Monic o.one
  pub monic_mul : (a b : R) → Monic a → Monic b → Monic (o.mul a b)
  pub monic_quotient : (a b : R) → Monic (o.mul a b) → Monic b → Monic a
  pub monic_unit : (u : R) → Monic u → size u ≡ 1 → u ≡ o.one
  pub normalize : (a : R) → a ≢ o.zero → (u : R) × (size u ≡ 1) × Monic (o.mul u a)

module _ {R : Type 0} {o : Ops R} {size : R → ℕ} {Monic : R → Type 0} (E : EuclideanLaws o size Monic) where
  open o use {zero as O, one as I, add as ◌⊕◌, mul as ◌⊗◌, neg}

  infixl 60 ◌⊕◌
  infixl 70 ◌⊗◌
  pub size_of_zero : (a : R) → a ≡ O → size a ≡ 0
  size_of_zero a e = ap size e ∙ E.size_zero

  pub not_zero_from_size : (a : R) → 0 < size a → a ≢ O
  not_zero_from_size a h e = let k : size a ≡ 0 = size_of_zero a e in omega arith

  pub size_positive : (a : R) → a ≢ O → 0 < size a
  size_positive a n = go (size a) refl
    where
      go : (k : ℕ) → size a ≡ k → 0 < size a
      go zero e = absurd (n (E.zero_from_size a e))
      go (suc k) e = omega arith

  pub one_not_zero : I ≢ O
  one_not_zero = not_zero_from_size I (let e : size I ≡ 1 = E.size_one in omega arith)

  pub product_not_zero : (a b : R) → a ≢ O → b ≢ O → a ⊗ b ≢ O
  product_not_zero a b m n = not_zero_from_size (a ⊗ b)
      (let e : suc (size (a ⊗ b)) ≡ size a + size b = E.size_mul a b m n in
      let f : 0 < size a = size_positive a m in
      let g : 0 < size b = size_positive b n in omega arith)

  pub factor_zero : (a b : R) → a ≢ O → a ⊗ b ≡ O → b ≡ O
  factor_zero a b n e = ⊎_elim (λ z. z) (λ m. absurd (product_not_zero a b n m e)) (zero_or_not o E.ring.zero_test b)

  pub mul_cancel : (a b c : R) → a ≢ O → a ⊗ b ≡ a ⊗ c → b ≡ c
  mul_cancel a b c n e = same_from_difference E.ring b c (factor_zero a (b ⊕ neg c) n
      (E.ring.mul_add a b (neg c) ∙ ap₂ ◌⊕◌ e (mul_neg E.ring a c) ∙ E.ring.add_neg (a ⊗ c)))

  pub mul_cancel_right : (a b c : R) → a ≢ O → b ⊗ a ≡ c ⊗ a → b ≡ c
  mul_cancel_right a b c n e = mul_cancel a b c n (E.ring.mul_comm a b ∙ e ∙ E.ring.mul_comm c a)

  pub left_not_zero : (a b : R) → a ⊗ b ≢ O → a ≢ O
  left_not_zero a b n e = n (ap (λ t. t ⊗ b) e ∙ zero_mul E.ring b)

  pub right_not_zero : (a b : R) → a ⊗ b ≢ O → b ≢ O
  right_not_zero a b n e = n (ap (λ t. a ⊗ t) e ∙ mul_zero E.ring a)

  pub monic_not_zero : (a : R) → Monic a → a ≢ O
  monic_not_zero a m e = E.zero_not_monic (subst Monic e m)

  -- a divisor of what isn't zero
  pub divisor_not_zero : {d a : R} → Divides o d a → a ≢ O → d ≢ O
  divisor_not_zero {d} {a} h n = right_not_zero h.quotient d (λ e. n (sym h.identity ∙ e))

  pub quotient_not_zero : {d a : R} → (h : Divides o d a) → a ≢ O → h.quotient ≢ O
  quotient_not_zero {d} {a} h n = left_not_zero h.quotient d (λ e. n (sym h.identity ∙ e))

  pub size_of_quotient : {d a : R} → (h : Divides o d a) → a ≢ O → suc (size a) ≡ size h.quotient + size d
  size_of_quotient {d} {a} h n = ap (λ t. suc (size t)) (sym h.identity)
      ∙ E.size_mul h.quotient d (quotient_not_zero h n) (divisor_not_zero h n)

  pub size_of_divisor : {d a : R} → Divides o d a → a ≢ O → size d ≤ size a
  size_of_divisor {d} {a} h n =
      let e : suc (size a) ≡ size h.quotient + size d = size_of_quotient h n in
      let p : 0 < size h.quotient = size_positive h.quotient (quotient_not_zero h n) in omega arith

  -- Elements of size 1 are the units.
  pub inverse_of_unit : (u : R) → size u ≡ 1 → Divides o u I
  inverse_of_unit u e = record { quotient = d.0; identity = sym (d.2 ∙ ap (λ t. d.0 ⊗ u ⊕ t) z ∙ add_zero E.ring (d.0 ⊗ u)) }
    where
      d : (q : R) × (r : R) × (I ≡ q ⊗ u ⊕ r) × (size r < size u)
      d = E.divide I u (not_zero_from_size u (omega arith))

      z : d.1 ≡ O
      z = E.zero_from_size d.1 (let h : size d.1 < size u = d.3 in omega arith)

  pub unit_divides : (u a : R) → size u ≡ 1 → Divides o u a
  unit_divides u a e = divides_trans E.ring (inverse_of_unit u e) (one_divides E.ring a)

  pub unit_from_divisor : (u : R) → Divides o u I → size u ≡ 1
  unit_from_divisor u h =
      let e : size I ≡ 1 = E.size_one in
      let l : size u ≤ size I = size_of_divisor h one_not_zero in
      let p : 0 < size u = size_positive u (divisor_not_zero h one_not_zero) in omega arith

  -- a divisor as large as what it divides is divided by it
  pub associate : {d a : R} → Divides o d a → a ≢ O → size a ≤ size d → Divides o a d
  associate {d} {a} h n le = record { quotient = v.quotient; identity = back }
    where
      unit : size h.quotient ≡ 1
      unit = let e : suc (size a) ≡ size h.quotient + size d = size_of_quotient h n in
          let p : 0 < size h.quotient = size_positive h.quotient (quotient_not_zero h n) in
          let l : size d ≤ size a = size_of_divisor h n in omega arith

      v : Divides o h.quotient I
      v = inverse_of_unit h.quotient unit

      back : v.quotient ⊗ a ≡ d
      back = ap (λ t. v.quotient ⊗ t) (sym h.identity) ∙ sym (E.ring.mul_assoc v.quotient h.quotient d)
          ∙ ap (λ t. t ⊗ d) v.identity ∙ E.ring.one_mul d

  -- of monic elements one that divides another of the same size is it
  pub monic_same : {d a : R} → Divides o d a → Monic d → Monic a → size a ≤ size d → d ≡ a
  monic_same {d} {a} h md ma le = sym (sym h.identity ∙ ap (λ t. t ⊗ d) one ∙ E.ring.one_mul d)
    where
      n : a ≢ O
      n = monic_not_zero a ma

      unit : size h.quotient ≡ 1
      unit = let e : suc (size a) ≡ size h.quotient + size d = size_of_quotient h n in
          let p : 0 < size h.quotient = size_positive h.quotient (quotient_not_zero h n) in
          let l : size d ≤ size a = size_of_divisor h n in omega arith

      one : h.quotient ≡ I
      one = E.monic_unit h.quotient (E.monic_quotient h.quotient d (subst Monic (sym h.identity) ma) md) unit

  -- the monic associate divides all that it is associated with, and is divided by it
  pub normal : (a : R) → a ≢ O → (m : R) × Monic m × Divides o a m × Divides o m a
  normal a n = (v.0 ⊗ a, v.2, divides_product E.ring a v.0, associate (divides_product E.ring a v.0) p le)
    where
      v : (u : R) × (size u ≡ 1) × Monic (u ⊗ a)
      v = E.normalize a n

      p : v.0 ⊗ a ≢ O
      p = monic_not_zero (v.0 ⊗ a) v.2

      le : size (v.0 ⊗ a) ≤ size a
      le = let s : suc (size (v.0 ⊗ a)) ≡ size v.0 + size a = E.size_mul v.0 a (left_not_zero v.0 a p) n in
          let t : size v.0 ≡ 1 = v.1 in omega arith

  -- two monic elements that divide one another are the same
  pub monic_unique : {a b : R} → Divides o a b → Divides o b a → Monic a → Monic b → a ≡ b
  monic_unique {a} {b} h k ma mb = monic_same h ma mb (size_of_divisor k (monic_not_zero a ma))

  -- a divides b, or leaves a remainder
  pub divides_or_not : (a b : R) → Divides o a b ⊎ (Divides o a b → ⊥)
  divides_or_not a b = ⊎_elim at_zero at_other (zero_or_not o E.ring.zero_test a)
    where
      at_zero : a ≡ O → Divides o a b ⊎ (Divides o a b → ⊥)
      at_zero e = ⊎_elim
          (λ z. inl (subst (λ t. Divides o a t) (sym z) (divides_zero E.ring a)))
          (λ n. inr (λ h. divisor_not_zero h n e)) (zero_or_not o E.ring.zero_test b)

      at_other : a ≢ O → Divides o a b ⊎ (Divides o a b → ⊥)
      at_other n = ⊎_elim
          (λ z. inl (record { quotient = d.0; identity = sym (d.2 ∙ ap (λ t. d.0 ⊗ a ⊕ t) z ∙ add_zero E.ring (d.0 ⊗ a)) }))
          (λ m. inr (λ h. left h m)) (zero_or_not o E.ring.zero_test d.1)
        where
          d : (q : R) × (r : R) × (b ≡ q ⊗ a ⊕ r) × (size r < size a)
          d = E.divide b a n

          left : Divides o a b → d.1 ≢ O → ⊥
          left h m =
              let k : size a ≤ size d.1 = size_of_divisor (divides_rest E.ring (divides_same E.ring d.2 h) (divides_product E.ring a d.0)) m in
              let l : size d.1 < size a = d.3 in omega arith
