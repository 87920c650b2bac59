-- The remainder by a monic polynomial, as `remainder` computes it, on coefficient lists over a commutative ring.
use Rattle.std.proofs.Common.{eq-or-lt_of_le, ◌≡◌, ℕ, suc, ◌-◌, ◌<◌, ◌≤◌, List, [], ◌∷◌, ◌++◌, length, take, replicate, slice_index_or, refl, ap, ap₂, sym, ◌∙◌, arith, ⊎_elim, length-take, get_or-take}
use Rattle.std.proofs.lemmas.List.{get_or-replicate, length-replicate, get_or_past}
use Rattle.std.proofs.lemmas.Bool.{cases_lt}
use Rattle.alg_model.specs.Coefficients.{Ops}
use Rattle.alg_model.specs.Polynomials.{sum, scale, shift, product, cons_trimmed, trim, leading}
use Rattle.alg_model.specs.Values.{degree, padded, times_x, remainder}
use Rattle.alg_rings.specs.Laws.{RingLaws}
use Rattle.alg_rings.proofs.Rings
use Rattle.alg_rings.proofs.Lists
use Rattle.alg_rings.proofs.Trims

-- the quotient beside `remainder`
abbrev pub quotient_by : {A : Type 0} → Ops A → List A → List A → List A
quotient_by o f [] = []
quotient_by o f (c ∷ g) = slice_index_or (remainder o f g) (degree f - 1) o.zero ∷ quotient_by o f g

pub zeros_at : {A : Type 0} (z : A) (n k : ℕ) → slice_index_or (replicate n z) k z ≡ z
zeros_at z n k =
    ⊎_elim (λ l. get_or-replicate n k z z l) (λ l. get_or_past (replicate n z) k z (omega (arith, length-replicate n z))) (cases_lt k n)

module _ {A : Type 0} (o : Ops A) (f : List A) (not_constant : 1 < length f) where
  open o use {zero as O, neg}

  length_padded : (c : A) → length (padded o (degree f) (c ∷ [])) ≡ degree f
  length_padded c = omega (arith, length-replicate (degree f - 1) O)

  length_times_x : (r : List A) → length r ≡ degree f → length (times_x o f r) ≡ degree f
  length_times_x r e =
      let t = neg (slice_index_or r (degree f - 1) O) in
      length-take (degree f) (sum o (O ∷ r) (scale o t f))
      ∙ omega (arith, Lists.length_sum o (O ∷ r) (scale o t f), Lists.length_scale o t f)

  pub length_remainder : (g : List A) → length (remainder o f g) ≡ degree f
  length_remainder [] = length-replicate (degree f) O
  length_remainder (c ∷ g) =
      omega (
        arith,
        Lists.length_sum o (padded o (degree f) (c ∷ [])) (times_x o f (remainder o f g)),
        length_padded c,
        length_times_x (remainder o f g) (length_remainder g),
      )

module _ {A : Type 0} {o : Ops A} (R : RingLaws o) where
  open o use {zero as O, one as I, add as ◌⊕◌, mul as ◌⊗◌, neg}

  infixl 60 ◌⊕◌
  infixl 70 ◌⊗◌
  trim_append_zeros : (xs : List A) (n : ℕ) → trim o (xs ++ replicate n O) ≡ trim o xs
  trim_append_zeros [] n = Trims.trim_zeros o R.zero_test (replicate n O) (zeros_at O n)
  trim_append_zeros (x ∷ xs) n = ap (cons_trimmed o x) (trim_append_zeros xs n)

  pub trim_padded : (n : ℕ) (xs : List A) → trim o (padded o n xs) ≡ trim o xs
  trim_padded n xs = trim_append_zeros xs (n - length xs)

  module _ (f : List A) (not_constant : 1 < length f) (monic : leading o f ≡ I) where
    above : (r : List A) → length r ≡ degree f → (k : ℕ) → degree f ≤ k
        → slice_index_or (sum o (O ∷ r) (scale o (neg (slice_index_or r (degree f - 1) O)) f)) k O ≡ O
    above r e k h =
        let t = slice_index_or r (degree f - 1) O in
        Lists.sum_at R (O ∷ r) (scale o (neg t) f) k ∙ ap (λ w. slice_index_or (O ∷ r) k O ⊕ w) (Lists.scale_at R (neg t) f k)
        ∙ ⊎_elim at_top past_top (eq-or-lt_of_le h)
      where
        at_top : degree f ≡ k → slice_index_or (O ∷ r) k O ⊕ neg (slice_index_or r (degree f - 1) O) ⊗ slice_index_or f k O ≡ O
        at_top i =
            let t = slice_index_or r (degree f - 1) O in
            let next : k ≡ suc (degree f - 1) = omega arith in
            ap₂ (λ u v. u ⊕ neg t ⊗ v) (ap (λ j. slice_index_or (O ∷ r) j O) next)
            (ap (λ j. slice_index_or f j O) (sym i) ∙ sym (Trims.leading_at o f) ∙ monic)
            ∙ ap (λ w. t ⊕ w) (Rings.mul_one R (neg t)) ∙ R.add_neg t

        past_top : degree f < k → slice_index_or (O ∷ r) k O ⊕ neg (slice_index_or r (degree f - 1) O) ⊗ slice_index_or f k O ≡ O
        past_top l =
            let t = slice_index_or r (degree f - 1) O in
            ap₂ (λ u v. u ⊕ neg t ⊗ v) (get_or_past (O ∷ r) k O (omega arith)) (get_or_past f k O (omega arith))
            ∙ ap (λ w. O ⊕ w) (Rings.mul_zero R (neg t)) ∙ R.zero_add O

    -- what is dropped is zero
    trim_times_x : (r : List A) → length r ≡ degree f
        → trim o (times_x o f r) ≡ trim o (sum o (O ∷ r) (scale o (neg (slice_index_or r (degree f - 1) O)) f))
    trim_times_x r e = Trims.trim_same o R.zero_test (times_x o f r) whole each
      where
        whole : List A
        whole = sum o (O ∷ r) (scale o (neg (slice_index_or r (degree f - 1) O)) f)

        each : (k : ℕ) → slice_index_or (take (degree f) whole) k O ≡ slice_index_or whole k O
        each k = ⊎_elim (λ h. get_or-take (degree f) whole k O h)
            (λ h. get_or_past (take (degree f) whole) k O (omega (arith, length-take (degree f) whole)) ∙ sym (above r e k h))
            (cases_lt k (degree f))

    -- **g = quotient * f + remainder g**
    pub remainder_identity : (g : List A) → trim o (sum o (product o (quotient_by o f g) f) (remainder o f g)) ≡ trim o g
    remainder_identity [] = Trims.trim_zeros o R.zero_test (replicate (degree f) O) (zeros_at O (degree f))
    remainder_identity (c ∷ g) = next (quotient_by o f g) (remainder o f g) (length_remainder o f not_constant g) (remainder_identity g)
      where
        gather : (a b x y d : List A) → sum o (sum o a b) (sum o x (sum o y d)) ≡ sum o (sum o a d) (sum o x (sum o y b))
        gather a b x y d =
            ap (λ w. sum o (sum o a b) w) (sym (Lists.sum_assoc R x y d) ∙ Lists.sum_comm R (sum o x y) d)
            ∙ Lists.sum_swap R a b d (sum o x y)
            ∙ ap (sum o (sum o a d)) (Lists.sum_comm R b (sum o x y) ∙ Lists.sum_assoc R x y b)

        cancel : (t : A) → trim o (sum o (scale o t f) (scale o (neg t) f)) ≡ []
        cancel t = Trims.trim_zeros o R.zero_test (sum o (scale o t f) (scale o (neg t) f))
            (λ k. Lists.sum_at R (scale o t f) (scale o (neg t) f) k ∙ ap₂ ◌⊕◌ (Lists.scale_at R t f k) (Lists.scale_at R (neg t) f k)
            ∙ sym (Rings.add_mul R t (neg t) (slice_index_or f k O)) ∙ ap (λ w. w ⊗ slice_index_or f k O) (R.add_neg t)
            ∙ Rings.zero_mul R (slice_index_or f k O))

        below : (r p : List A) → sum o (c ∷ []) (sum o (O ∷ r) (shift o p)) ≡ c ∷ sum o p r
        below r p = ap (sum o (c ∷ [])) (Lists.sum_cons_shift R O r p) ∙ ap₂ ◌∷◌ (Rings.add_zero R c) (Lists.sum_comm R r p)

        next : (q r : List A) → length r ≡ degree f → trim o (sum o (product o q f) r) ≡ trim o g
            → trim o (sum o (product o (slice_index_or r (degree f - 1) O ∷ q) f) (sum o (padded o (degree f) (c ∷ [])) (times_x o f r)))
            ≡ trim o (c ∷ g)
        next q r l e =
            let t = slice_index_or r (degree f - 1) O in
            Trims.trim_sum_same R (product o (t ∷ q) f) (product o (t ∷ q) f) (sum o (padded o (degree f) (c ∷ [])) (times_x o f r))
            (sum o (c ∷ []) (sum o (O ∷ r) (scale o (neg t) f))) refl
            (Trims.trim_sum_same R (padded o (degree f) (c ∷ [])) (c ∷ []) (times_x o f r) (sum o (O ∷ r) (scale o (neg t) f))
            (trim_padded (degree f) (c ∷ [])) (trim_times_x r l))
            ∙ ap (trim o) (gather (scale o t f) (shift o (product o q f)) (c ∷ []) (O ∷ r) (scale o (neg t) f))
            ∙ Trims.trim_sum_same R (sum o (scale o t f) (scale o (neg t) f)) [] (sum o (c ∷ []) (sum o (O ∷ r) (shift o (product o q f))))
            (c ∷ sum o (product o q f) r) (cancel t) (ap (trim o) (below r (product o q f)))
            ∙ ap (cons_trimmed o c) e
