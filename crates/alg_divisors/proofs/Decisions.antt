-- Whether an element has a proper factor, where the smaller elements stand in a list.
use Rattle.std.proofs.Common.{◌≢◌, ◌⊎◌, ⊎_elim, inl, inr, ℕ, ◌<◌, sym, subst, arith, List, [], ◌∷◌, Contains}
use Rattle.std.proofs.lemmas.Bool.{cases_lt}
use Rattle.std.proofs.lemmas.List.Elements.{Contains-append_cases}
use Rattle.alg_model.specs.Coefficients.{Ops}
use Rattle.alg_rings.proofs.Rings.{zero_or_not, equal_or_not}
use Rattle.alg_rings.proofs.Divisibility.{Divides}
use Rattle.alg_divisors.proofs.Euclidean.{EuclideanLaws, normal, monic_unique, divides_or_not}
use Rattle.alg_divisors.proofs.Irreducible.{ProperFactor, FactorOrNone}
use Rattle.alg_divisors.proofs.Least.{contains_one}

module _ {R : Type 0} {o : Ops R} {size : R → ℕ} {Monic : R → Type 0} (E : EuclideanLaws o size Monic) where
  open o use {zero as O, one as I, add as ◌⊕◌, mul as ◌⊗◌, neg}

  infixl 60 ◌⊕◌
  infixl 70 ◌⊗◌
  pub monic_or_not : (x : R) → Monic x ⊎ (Monic x → ⊥)
  monic_or_not x = ⊎_elim
      (λ e. inr (λ m. E.zero_not_monic (subst Monic e m)))
      (λ n. other n (normal E x n))
      (zero_or_not o E.ring.zero_test x)
    where
      other : x ≢ O → (m : R) × Monic m × Divides o x m × Divides o m x → Monic x ⊎ (Monic x → ⊥)
      other n m = ⊎_elim
          (λ e. inl (subst Monic (sym e) m.1))
          (λ d. inr (λ k. d (monic_unique E m.2 m.3 k m.1)))
          (equal_or_not E.ring x m.0)

  pub proper_or_not : (f g : R) → ProperFactor o size Monic f g ⊎ (ProperFactor o size Monic f g → ⊥)
  proper_or_not f g = ⊎_elim
      (λ l. ⊎_elim
      (λ k. ⊎_elim
      (λ m. ⊎_elim
      (λ d. inl (record { monic = m; not_constant = l; smaller = k; divides = d }))
      (λ n. inr (λ p. n p.divides)) (divides_or_not E g f))
      (λ n. inr (λ p. n p.monic)) (monic_or_not g))
      (λ k. inr (λ p. let j : size g < size f = p.smaller in omega arith)) (cases_lt (size g) (size f)))
      (λ l. inr (λ p. let j : 1 < size g = p.not_constant in omega arith)) (cases_lt 1 (size g))

  factor_in_list : (f : R) (cs : List R) → ((g : R) × ProperFactor o size Monic f g) ⊎ ((g : R) → Contains cs g → ProperFactor o size Monic f g → ⊥)
  factor_in_list f [] = inr (λ g i p. let l : i.0 < 0 = i.1 in omega arith)
  factor_in_list f (x ∷ cs) = ⊎_elim
      (λ p. inl (x, p))
      (λ n. ⊎_elim inl (λ m. inr (neither n m)) (factor_in_list f cs)) (proper_or_not f x)
    where
      neither : (ProperFactor o size Monic f x → ⊥) → ((g : R) → Contains cs g → ProperFactor o size Monic f g → ⊥)
          → (g : R) → Contains (x ∷ cs) g → ProperFactor o size Monic f g → ⊥
      neither n m g i p = ⊎_elim
          (λ j. n (subst (λ t. ProperFactor o size Monic f t) (sym (contains_one x g j)) p))
          (λ j. m g j p) (Contains-append_cases (x ∷ []) cs g i)

  pub decided_by_list : (f : R) (cs : List R) → ((x : R) → size x < size f → Contains cs x) → FactorOrNone o size Monic f
  decided_by_list f cs h = ⊎_elim inl (λ n. inr (λ g p. n g (h g p.smaller) p)) (factor_in_list f cs)
