-- In a ring without zero divisors: v^q - v is the product of v - a over q distinct elements a with a^q = a.
use Rattle.std.proofs.Common.{slice_index_or, ◌≡◌, ◌≢◌, ℕ, zero, suc, ◌<◌, List, [], ◌∷◌, length, All, AllPairs, refl, ap, ap₂, sym, ◌∙◌, arith}
use Rattle.alg_model.specs.Coefficients.{Ops, power}
use Rattle.alg_model.specs.Polynomials.{sum, scale, leading, evaluate}
use Rattle.alg_rings.specs.Laws.{RingLaws}
use Rattle.alg_rings.proofs.Rings
use Rattle.alg_rings.proofs.Lists
use Rattle.alg_rings.proofs.Trims
use Rattle.alg_rings.proofs.Monomials.{monomial}
use Rattle.alg_divisors.proofs.Factorization
use Rattle.alg_rings.proofs.Evaluation
use Rattle.alg_fields.proofs.Roots
use Rattle.alg_fields.proofs.Roots.{IsDomain, linear, linear_product}
use Rattle.alg_fields.proofs.Berlekamp.{differences}

-- x^n - x
abbrev pub fixing : {A : Type 0} → Ops A → ℕ → List A
fixing o n = sum o (o.zero ∷ o.neg o.one ∷ []) (monomial o o.one n)

module _ {A : Type 0} (o : Ops A) where
  pub length_monomial : (t : A) (n : ℕ) → length (monomial o t n) ≡ suc n
  length_monomial t zero = refl
  length_monomial t (suc n) = ap suc (length_monomial t n)

  pub leading_monomial : (t : A) (n : ℕ) → leading o (monomial o t n) ≡ t
  leading_monomial t zero = refl
  leading_monomial t (suc n) = Trims.leading_cons o o.zero (monomial o t n) (omega (arith, length_monomial t n)) ∙ leading_monomial t n

  pub length_fixing : (n : ℕ) → 1 < n → length (fixing o n) ≡ suc n
  length_fixing n l = omega (arith, Lists.length_sum o (o.zero ∷ o.neg o.one ∷ []) (monomial o o.one n), length_monomial o.one n)

  pub leading_fixing : (n : ℕ) → 1 < n → leading o (fixing o n) ≡ o.one
  leading_fixing n l =
      Trims.leading_sum_longer o (o.zero ∷ o.neg o.one ∷ []) (monomial o o.one n) (omega (arith, length_monomial o.one n)) ∙ leading_monomial o.one n

module _ {A : Type 0} {o : Ops A} (R : RingLaws o) where
  open o use {zero as O, one as I, add as ◌⊕◌, mul as ◌⊗◌, neg}

  infixl 60 ◌⊕◌
  infixl 70 ◌⊗◌
  pub value_of_monomial : (t : A) (n : ℕ) (a : A) → evaluate o (monomial o t n) a ≡ t ⊗ power o a n
  value_of_monomial t zero a = Evaluation.value_of_constant R t a ∙ sym (Rings.mul_one R t)
  value_of_monomial t (suc n) a =
      R.zero_add (a ⊗ evaluate o (monomial o t n) a) ∙ ap (λ w. a ⊗ w) (value_of_monomial t n a)
      ∙ R.mul_comm a (t ⊗ power o a n) ∙ R.mul_assoc t (power o a n) a

  pub value_of_fixing : (n : ℕ) (a : A) → evaluate o (fixing o n) a ≡ power o a n ⊕ neg a
  value_of_fixing n a =
      Evaluation.value_of_sum R (O ∷ neg I ∷ []) (monomial o o.one n) a
      ∙ ap₂ ◌⊕◌
      (R.zero_add (a ⊗ evaluate o (neg I ∷ []) a) ∙ ap (λ w. a ⊗ w) (Evaluation.value_of_constant R (neg I) a)
      ∙ Rings.mul_neg R a I ∙ ap neg (Rings.mul_one R a))
      (value_of_monomial I n a ∙ R.one_mul (power o a n))
      ∙ R.add_comm (neg a) (power o a n)

  pub value_of_linear_product : (roots : List A) (v : A) → evaluate o (linear_product o roots) v ≡ Factorization.product o (differences o v roots)
  value_of_linear_product [] v = Evaluation.value_of_constant R I v
  value_of_linear_product (a ∷ roots) v =
      Evaluation.value_of_product R (linear o a) (linear_product o roots) v
      ∙ ap₂ ◌⊗◌ (Roots.value_of_linear R a v) (value_of_linear_product roots v)

  -- **v^q - v = product of v - a**
  pub fermat_product : IsDomain o → (q : ℕ) → 1 < q → (roots : List A) → length roots ≡ q → AllPairs (λ a b. a ≢ b) roots
      → All (λ a. power o a q ≡ a) roots → (v : A) → Factorization.product o (differences o v roots) ≡ power o v q ⊕ neg v
  fermat_product domain q l roots e d fixed v =
      sym (value_of_linear_product roots v)
      ∙ ap (λ g. evaluate o g v) (sym (Roots.split_at_roots R domain (fixing o q) roots (length_fixing o q l ∙ ap suc (sym e)) d zeros
      ∙ ap (λ c. scale o c (linear_product o roots)) (leading_fixing o q l) ∙ Lists.scale_one R (linear_product o roots)))
      ∙ value_of_fixing q v
    where
      zeros : All (λ a. evaluate o (fixing o q) a ≡ O) roots
      zeros k c h = value_of_fixing q (slice_index_or roots k c) ∙ ap (λ w. w ⊕ neg (slice_index_or roots k c)) (fixed k c h) ∙ R.add_neg (slice_index_or roots k c)
