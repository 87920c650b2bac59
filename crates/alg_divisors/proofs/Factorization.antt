-- Factorization into monic irreducible elements: it exists, and is one up to order.
use Rattle.std.proofs.Common.{◌≡◌, ⊎_elim, ℕ, zero, suc, ◌+◌, ◌<◌, sym, refl, ap, ◌∙◌, subst, arith, List, [], ◌∷◌, ◌++◌, All, IsPermutation, eq-or-lt_of_le}
use Rattle.std.proofs.lemmas.List.Sorted.{IsPermutation-refl, IsPermutation-cons, IsPermutation-sym, IsPermutation-middle, IsPermutation-trans, All-permutation}
use Rattle.std.proofs.lemmas.List.Elements.{All-nil, All-cons, All-head, All-tail}
use Rattle.alg_model.specs.Coefficients.{Ops}
use Rattle.alg_rings.specs.Laws.{RingLaws}
use Rattle.alg_rings.proofs.Rings.{mul_left_comm}
use Rattle.alg_rings.proofs.Divisibility.{Divides, divides_trans, divides_same, divides_product_left}
use Rattle.alg_divisors.proofs.Euclidean.{EuclideanLaws, mul_cancel, monic_not_zero, unit_from_divisor, size_of_quotient, size_positive, not_zero_from_size, normal}
use Rattle.alg_divisors.proofs.Gcd.{coprime_cancel, combination_swap}
use Rattle.alg_divisors.proofs.Irreducible.{ProperFactor, Irreducible, FactorOrNone, euclid, irreducible_same, irreducible_not_zero, irreducible_associate, coprime_or_divides}

abbrev pub product : {R : Type 0} → Ops R → List R → R
product o [] = o.one
product o (f ∷ fs) = o.mul f (product o fs)

pub record MonicIrreducible {R : Type 0} (o : Ops R) (size : R → ℕ) (Monic : R → Type 0) (f : R) : Type 0 where
  pub monic : Monic f
  pub irreducible : Irreducible o size Monic f

-- f as a product of monic irreducible elements
pub record Factored {R : Type 0} (o : Ops R) (size : R → ℕ) (Monic : R → Type 0) (f : R) : Type 0 where
  pub factors : List R
  pub irreducible : All (MonicIrreducible o size Monic) factors
  pub product_is : product o factors ≡ f

module _ {R : Type 0} {o : Ops R} (L : RingLaws o) where
  open o use {zero as O, one as I, add as ◌⊕◌, mul as ◌⊗◌, neg}

  infixl 60 ◌⊕◌
  infixl 70 ◌⊗◌
  pub product-append : (fs gs : List R) → product o (fs ++ gs) ≡ product o fs ⊗ product o gs
  product-append [] gs = sym (L.one_mul (product o gs))
  product-append (f ∷ fs) gs = ap (λ t. f ⊗ t) (product-append fs gs) ∙ sym (L.mul_assoc f (product o fs) (product o gs))

  pub product_middle : (xs : List R) (f : R) (ys : List R) → product o (xs ++ f ∷ ys) ≡ f ⊗ product o (xs ++ ys)
  product_middle [] f ys = refl
  product_middle (x ∷ xs) f ys = ap (λ t. x ⊗ t) (product_middle xs f ys) ∙ mul_left_comm L x f (product o (xs ++ ys))

module _ {R : Type 0} {o : Ops R} {size : R → ℕ} {Monic : R → Type 0} (E : EuclideanLaws o size Monic) where
  open o use {zero as O, one as I, add as ◌⊕◌, mul as ◌⊗◌, neg}

  infixl 60 ◌⊕◌
  infixl 70 ◌⊗◌
  pub monic_product : (fs : List R) → All (MonicIrreducible o size Monic) fs → Monic (product o fs)
  monic_product [] h = E.one_monic
  monic_product (f ∷ fs) h = E.monic_mul f (product o fs)
      (All-head (MonicIrreducible o size Monic) f fs h).monic
      (monic_product fs (All-tail (MonicIrreducible o size Monic) f fs h))

  pub irreducible_not_unit : {p : R} → Irreducible o size Monic p → Divides o p I → ⊥
  irreducible_not_unit {p} i h =
      let e : size p ≡ 1 = unit_from_divisor E p h in
      let l : 1 < size p = i.not_constant in omega arith

  -- an irreducible element that divides a product of such elements is among them
  pub irreducible_among : {p : R} → MonicIrreducible o size Monic p → (gs : List R) → All (MonicIrreducible o size Monic) gs
      → Divides o p (product o gs) → (xs : List R) × (ys : List R) × (gs ≡ xs ++ p ∷ ys)
  irreducible_among {p} i [] h d = absurd (irreducible_not_unit i.irreducible d)
  irreducible_among {p} i (g ∷ gs) h d = ⊎_elim
      (λ k. ([], gs, ap (λ t. t ∷ gs) (sym (irreducible_same E i.monic i.irreducible head.monic head.irreducible k))))
      (λ k. further (irreducible_among i gs (All-tail (MonicIrreducible o size Monic) g gs h) k))
      (euclid E i.irreducible d)
    where
      head : MonicIrreducible o size Monic g
      head = All-head (MonicIrreducible o size Monic) g gs h

      further : (xs : List R) × (ys : List R) × (gs ≡ xs ++ p ∷ ys) → (xs : List R) × (ys : List R) × (g ∷ gs ≡ xs ++ p ∷ ys)
      further s = (g ∷ s.0, s.1, ap (λ t. g ∷ t) s.2)

  -- lists of monic irreducible elements with one product are permutations of one another
  pub factorization_unique : (fs gs : List R) → All (MonicIrreducible o size Monic) fs → All (MonicIrreducible o size Monic) gs
      → product o fs ≡ product o gs → IsPermutation fs gs
  factorization_unique [] [] h k e = IsPermutation-refl []
  factorization_unique [] (g ∷ gs) h k e = absurd (irreducible_not_unit
      (All-head (MonicIrreducible o size Monic) g gs k).irreducible
      (divides_same E.ring (sym e) (divides_product_left E.ring g (product o gs))))
  factorization_unique (f ∷ fs) gs h k e = IsPermutation-trans (f ∷ fs) (f ∷ (s.0 ++ s.1)) gs
      (IsPermutation-cons f fs (s.0 ++ s.1) (factorization_unique fs (s.0 ++ s.1)
      (All-tail (MonicIrreducible o size Monic) f fs h) rest same))
      (IsPermutation-sym gs (f ∷ (s.0 ++ s.1)) moved)
    where
      i : MonicIrreducible o size Monic f
      i = All-head (MonicIrreducible o size Monic) f fs h

      s : (xs : List R) × (ys : List R) × (gs ≡ xs ++ f ∷ ys)
      s = irreducible_among i gs k (divides_same E.ring e (divides_product_left E.ring f (product o fs)))

      moved : IsPermutation gs (f ∷ (s.0 ++ s.1))
      moved = subst (λ t. IsPermutation t (f ∷ (s.0 ++ s.1))) (sym s.2) (IsPermutation-middle s.0 f s.1)

      rest : All (MonicIrreducible o size Monic) (s.0 ++ s.1)
      rest = All-tail (MonicIrreducible o size Monic) f (s.0 ++ s.1)
          (All-permutation (MonicIrreducible o size Monic) gs (f ∷ (s.0 ++ s.1)) moved k)

      same : product o fs ≡ product o (s.0 ++ s.1)
      same = mul_cancel E f (product o fs) (product o (s.0 ++ s.1)) (irreducible_not_zero E i.irreducible)
          (e ∙ ap (λ t. product o t) s.2 ∙ product_middle E.ring s.0 f s.1)

  -- each element larger than a unit has a monic irreducible divisor, where each has a proper factor or none
  irreducible_divisor_below : (n : ℕ) → ((f : R) → FactorOrNone o size Monic f) → (f : R) → size f < n → 1 < size f
      → (p : R) × MonicIrreducible o size Monic p × Divides o p f
  irreducible_divisor_below zero decide f h l = absurd (omega arith)
  irreducible_divisor_below (suc n) decide f h l = ⊎_elim
      (λ g. larger g (irreducible_divisor_below n decide g.0 (lower g) g.1.not_constant)) none (decide f)
    where
      lower : (g : (g : R) × ProperFactor o size Monic f g) → size g.0 < n
      lower g = let k : size g.0 < size f = g.1.smaller in omega arith

      larger : (g : (g : R) × ProperFactor o size Monic f g) → (p : R) × MonicIrreducible o size Monic p × Divides o p g.0
          → (p : R) × MonicIrreducible o size Monic p × Divides o p f
      larger g p = (p.0, p.1, divides_trans E.ring p.2 g.1.divides)

      none : ((g : R) → ProperFactor o size Monic f g → ⊥) → (p : R) × MonicIrreducible o size Monic p × Divides o p f
      none no_factor = (m.0, record { monic = m.1; irreducible = irreducible_associate E m.2 m.3 (record { not_constant = l; no_factor = no_factor }) }, m.3)
        where
          m : (m : R) × Monic m × Divides o f m × Divides o m f
          m = normal E f (not_zero_from_size E f (omega arith))

  pub irreducible_divisor : ((f : R) → FactorOrNone o size Monic f) → (f : R) → 1 < size f
      → (p : R) × MonicIrreducible o size Monic p × Divides o p f
  irreducible_divisor decide f l = irreducible_divisor_below (suc (size f)) decide f (omega arith) l

  -- each monic element is a product of monic irreducible ones
  factorization_below : (n : ℕ) → ((f : R) → FactorOrNone o size Monic f) → (f : R) → Monic f → size f < n → Factored o size Monic f
  factorization_below zero decide f m h = absurd (omega arith)
  factorization_below (suc n) decide f m h = ⊎_elim unit
      (λ l. proper (irreducible_divisor decide f l) (λ q k j. factorization_below n decide q k j))
      (eq-or-lt_of_le (size_positive E f (monic_not_zero E f m)))
    where
      unit : 1 ≡ size f → Factored o size Monic f
      unit e = record {
        factors = [];
        irreducible = All-nil (MonicIrreducible o size Monic);
        product_is = sym (E.monic_unit f m (sym e));
      }

      proper : (p : R) × MonicIrreducible o size Monic p × Divides o p f
          → ((q : R) → Monic q → size q < n → Factored o size Monic q) → Factored o size Monic f
      proper p rec = further (rec p.2.quotient
          (E.monic_quotient p.2.quotient p.0 (subst Monic (sym p.2.identity) m) p.1.monic) smaller)
        where
          smaller : size p.2.quotient < n
          smaller =
              let e : suc (size f) ≡ size p.2.quotient + size p.0 = size_of_quotient E p.2 (monic_not_zero E f m) in
              let k : 1 < size p.0 = p.1.irreducible.not_constant in omega arith

          further : Factored o size Monic p.2.quotient → Factored o size Monic f
          further r = record {
            factors = p.0 ∷ r.factors;
            irreducible = All-cons (MonicIrreducible o size Monic) p.0 r.factors p.1 r.irreducible;
            product_is = ap (λ t. p.0 ⊗ t) r.product_is ∙ E.ring.mul_comm p.0 p.2.quotient ∙ p.2.identity;
          }

  pub factorization_exists : ((f : R) → FactorOrNone o size Monic f) → (f : R) → Monic f → Factored o size Monic f
  factorization_exists decide f m = factorization_below (suc (size f)) decide f m (omega arith)

  -- what is coprime to each member is coprime to the product, so a divisor larger than a unit shares a member
  pub member_divides : (fs : List R) → All (MonicIrreducible o size Monic) fs → (h : R) → 1 < size h → Divides o h (product o fs)
      → (xs : List R) × (p : R) × (ys : List R) × (fs ≡ xs ++ p ∷ ys) × Divides o p h
  member_divides [] a h l d = absurd (let e : size h ≡ 1 = unit_from_divisor E h d in omega arith)
  member_divides (f ∷ fs) a h l d = ⊎_elim
      (λ k. further (member_divides fs (All-tail (MonicIrreducible o size Monic) f fs a) h l (coprime_cancel E.ring (combination_swap E.ring k) d)))
      (λ k. ([], f, fs, refl, k))
      (coprime_or_divides E (All-head (MonicIrreducible o size Monic) f fs a).irreducible h)
    where
      further : (xs : List R) × (p : R) × (ys : List R) × (fs ≡ xs ++ p ∷ ys) × Divides o p h
          → (xs : List R) × (p : R) × (ys : List R) × (f ∷ fs ≡ xs ++ p ∷ ys) × Divides o p h
      further s = (f ∷ s.0, s.1, s.2, ap (λ t. f ∷ t) s.3, s.4)
