-- Multiples t * x ^ i * d, and one step of long division: q grows by t * x ^ i while r shrinks by t * x ^ i * d.
use Rattle.std.proofs.Common.{◌≡◌, ◌≢◌, ℕ, zero, suc, ◌+◌, ◌-◌, ◌<◌, List, [], ◌∷◌, map, slice_index_or, refl, ap, ap₂, sym, ◌∙◌, arith, subst, ⊎_elim}
use Rattle.std.proofs.lemmas.Bool.{cases_lt, cases_eq}
use Rattle.alg_model.specs.Coefficients.{Ops}
use Rattle.alg_model.specs.Polynomials.{sum, scale, shift, product, trim}
use Rattle.alg_rings.specs.Laws.{RingLaws}
use Rattle.alg_rings.proofs.Rings
use Rattle.alg_rings.proofs.Lists
use Rattle.alg_rings.proofs.Trims

-- t * x ^ i
abbrev pub monomial : {A : Type 0} → Ops A → A → ℕ → List A
monomial o t zero = t ∷ []
monomial o t (suc i) = o.zero ∷ monomial o t i

module _ {A : Type 0} (o : Ops A) where
  open o use {zero as O}

  pub monomial_at : (t : A) (i : ℕ) → slice_index_or (monomial o t i) i O ≡ t
  monomial_at t zero = refl
  monomial_at t (suc i) = monomial_at t i

  pub monomial_elsewhere : (t : A) (i k : ℕ) → k ≢ i → slice_index_or (monomial o t i) k O ≡ O
  monomial_elsewhere t zero zero h = absurd (h refl)
  monomial_elsewhere t zero (suc k) h = refl
  monomial_elsewhere t (suc i) zero h = refl
  monomial_elsewhere t (suc i) (suc k) h = monomial_elsewhere t i k (λ e. h (ap suc e))

module _ {A : Type 0} {o : Ops A} (R : RingLaws o) where
  open o use {zero as O, add as ◌⊕◌, mul as ◌⊗◌, neg}

  infixl 60 ◌⊕◌
  infixl 70 ◌⊗◌
  zero_cons_product_at : (m d : List A) (k : ℕ)
      → slice_index_or (product o (O ∷ m) d) (suc k) O ≡ slice_index_or (product o m d) k O
  zero_cons_product_at m d k =
      Lists.sum_at R (scale o O d) (shift o (product o m d)) (suc k)
      ∙ ap₂ ◌⊕◌ (Lists.scale_at R O d (suc k) ∙ Rings.zero_mul R (slice_index_or d (suc k) O)) (Lists.shift_at o (product o m d) k)
      ∙ R.zero_add (slice_index_or (product o m d) k O)

  zero_cons_product_at_zero : (m d : List A) → slice_index_or (product o (O ∷ m) d) 0 O ≡ O
  zero_cons_product_at_zero m d =
      Lists.sum_at R (scale o O d) (shift o (product o m d)) 0
      ∙ ap₂ ◌⊕◌ (Lists.scale_at R O d 0 ∙ Rings.zero_mul R (slice_index_or d 0 O)) (Lists.shift_at_zero o (product o m d))
      ∙ R.zero_add O

  pub monomial_product_below : (t : A) (i : ℕ) (d : List A) (k : ℕ) → k < i → slice_index_or (product o (monomial o t i) d) k O ≡ O
  monomial_product_below t zero d k l = absurd (omega arith)
  monomial_product_below t (suc i) d zero l = zero_cons_product_at_zero (monomial o t i) d
  monomial_product_below t (suc i) d (suc k) l =
      zero_cons_product_at (monomial o t i) d k ∙ monomial_product_below t i d k (omega arith)

  pub monomial_product_at : (t : A) (i : ℕ) (d : List A) (k : ℕ)
      → slice_index_or (product o (monomial o t i) d) (i + k) O ≡ t ⊗ slice_index_or d k O
  monomial_product_at t zero d k =
      ap (λ j. slice_index_or (product o (t ∷ []) d) j O) (zero_plus k)
      ∙ ap (λ w. slice_index_or w k O) (Lists.constant_product R t d) ∙ Lists.scale_at R t d k
    where
      zero_plus : (k : ℕ) → 0 + k ≡ k
      zero_plus k = omega arith
  monomial_product_at t (suc i) d k =
      ap (λ j. slice_index_or (product o (O ∷ monomial o t i) d) j O) (suc_plus i k)
      ∙ zero_cons_product_at (monomial o t i) d (i + k) ∙ monomial_product_at t i d k
    where
      suc_plus : (i k : ℕ) → suc i + k ≡ suc (i + k)
      suc_plus i k = omega arith

  -- q + m and r - m * d for q and r
  pub exchange : (q d r m : List A)
      → trim o (sum o (product o (sum o q m) d) (sum o r (map neg (product o m d)))) ≡ trim o (sum o (product o q d) r)
  exchange q d r m =
      ap (λ w. trim o (sum o w (sum o r (map neg (product o m d))))) (Lists.sum_product R q m d)
      ∙ ap (trim o) (Lists.sum_swap R (product o q d) (product o m d) r (map neg (product o m d)))
      ∙ Trims.trim_sum_same R (sum o (product o q d) r) (sum o (product o q d) r)
      (sum o (product o m d) (map neg (product o m d))) [] refl (vanishing (product o m d))
      ∙ ap (trim o) (Lists.sum_nil o (sum o (product o q d) r))
    where
      vanishing : (f : List A) → trim o (sum o f (map neg f)) ≡ []
      vanishing f = Trims.trim_zeros o R.zero_test (sum o f (map neg f))
          (λ k. Lists.sum_at R f (map neg f) k ∙ ap (λ w. slice_index_or f k O ⊕ w) (Lists.negatives_at R f k)
          ∙ R.add_neg (slice_index_or f k O))

  -- a step of long division, place by place
  pub division_step : (q q' d r r' : List A) (t : A) (i : ℕ)
      → ((k : ℕ) → k ≢ i → slice_index_or q' k O ≡ slice_index_or q k O)
      → slice_index_or q' i O ≡ slice_index_or q i O ⊕ t
      → ((k : ℕ) → k < i → slice_index_or r' k O ≡ slice_index_or r k O)
      → ((k : ℕ) → slice_index_or r' (i + k) O ≡ slice_index_or r (i + k) O ⊕ neg (t ⊗ slice_index_or d k O))
      → trim o (sum o (product o q' d) r') ≡ trim o (sum o (product o q d) r)
  division_step q q' d r r' t i other here low high =
      Trims.trim_sum_same R (product o q' d) (product o (sum o q m) d) r' (sum o r (map neg (product o m d)))
      (Trims.trim_product_same R q' (sum o q m) d d (Trims.trim_same o R.zero_test q' (sum o q m) quotient) refl)
      (Trims.trim_same o R.zero_test r' (sum o r (map neg (product o m d))) rest)
      ∙ exchange q d r m
    where
      m : List A
      m = monomial o t i

      quotient : (k : ℕ) → slice_index_or q' k O ≡ slice_index_or (sum o q m) k O
      quotient k = ⊎_elim
          (λ e. subst (λ j. slice_index_or q' j O ≡ slice_index_or (sum o q m) j O) (sym e)
          (here ∙ sym (Lists.sum_at R q m i ∙ ap (λ w. slice_index_or q i O ⊕ w) (monomial_at o t i))))
          (λ h. other k h ∙ sym (Lists.sum_at R q m k ∙ ap (λ w. slice_index_or q k O ⊕ w) (monomial_elsewhere o t i k h)
          ∙ Rings.add_zero R (slice_index_or q k O)))
          (cases_eq k i)

      rest : (k : ℕ) → slice_index_or r' k O ≡ slice_index_or (sum o r (map neg (product o m d))) k O
      rest k = ⊎_elim
          (λ l. low k l ∙ sym (Lists.sum_at R r (map neg (product o m d)) k
          ∙ ap (λ w. slice_index_or r k O ⊕ w)
          (Lists.negatives_at R (product o m d) k ∙ ap neg (monomial_product_below t i d k l) ∙ Rings.neg_zero R)
          ∙ Rings.add_zero R (slice_index_or r k O)))
          (λ l. let e : i + (k - i) ≡ k = omega arith in
          subst (λ j. slice_index_or r' j O ≡ slice_index_or (sum o r (map neg (product o m d))) j O) e
          (high (k - i) ∙ sym (Lists.sum_at R r (map neg (product o m d)) (i + (k - i))
          ∙ ap (λ w. slice_index_or r (i + (k - i)) O ⊕ w)
          (Lists.negatives_at R (product o m d) (i + (k - i)) ∙ ap neg (monomial_product_at t i d (k - i))))))
          (cases_lt k i)
