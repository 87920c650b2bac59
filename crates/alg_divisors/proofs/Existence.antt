-- Over a field with finitely many elements: each monic polynomial has a factorization, and one with a proper factor has a
-- least factor.
use Rattle.std.proofs.Common.{◌≡◌, ◌⊎◌, ⊎_elim, inl, inr, ℕ, ◌<◌, sym, refl, ap, ◌∙◌, subst, List, [], ◌∷◌, length, map, All, Contains, Ordering, Less}
use Rattle.std.proofs.lemmas.List.Elements.{All-nil, All-cons, All-head, All-tail, All-map, All-weaker}
use Rattle.std.proofs.lemmas.Cmp.{on_total}
use Rattle.std.specs.Cmp.{IsTotalOrder}
use Rattle.alg_model.specs.Coefficients.{Carrier}
use Rattle.alg_model.specs.Polynomials.{trim}
use Rattle.alg_model.specs.Factors.{IsPolynomial, IsMonic, Divides, IsProperFactor, IsIrreducible, IsLeastFactor, order_by}
use Rattle.alg_model.specs.Fields.{IsField}
use Rattle.alg_rings.specs.Laws.{IsPropositional}
use Rattle.alg_rings.proofs.CarrierPolynomials.{trim_polynomial}
use Rattle.alg_rings.proofs.Divisors.{Polynomial, same_polynomial}
use Rattle.alg_rings.proofs.Divisibility
use Rattle.alg_rings.proofs.PolynomialOrder.{order_by_total}
use Rattle.alg_divisors.specs.Factorization.{IsFactorization}
use Rattle.alg_divisors.proofs.Irreducible.{FactorOrNone}
use Rattle.alg_divisors.proofs.Factorization
use Rattle.alg_divisors.proofs.Least
use Rattle.alg_divisors.proofs.Decisions.{decided_by_list}
use Rattle.alg_divisors.proofs.EuclideanPolynomials.{over_field}
use Rattle.alg_divisors.proofs.PolynomialFactors.{divides_to, proper_to, proper_from, irreducible_to, MonicIrreducible, product_of-map}
use Rattle.alg_divisors.proofs.LeastFactors.{contains-map, contains_from_map, smaller_first, least_to}
use Rattle.alg_divisors.proofs.Finite.{IsFinite, lists_below, lists_below_all, lists_below_contain}

module _ {A : Type 0} {c : Carrier A} (P : IsPropositional c) (F : IsField c) (K : IsFinite c) where
  open over_field P F use {ops as Q, size, Monic, laws as E}

  -- ---- the polynomials of fewer than n coefficients
  all_below : ℕ → List (List A)
  all_below n = map (trim c.ops) (lists_below K.elements n)

  all_below_polynomials : (n : ℕ) → All (IsPolynomial c) (all_below n)
  unfolding all_below
  all_below_polynomials n = All-map (IsPolynomial c) (trim c.ops) (lists_below K.elements n)
      (All-weaker (All c.Valid) (λ l. IsPolynomial c (trim c.ops l)) (trim_polynomial P F.ring) (lists_below K.elements n)
      (lists_below_all c.Valid K.elements K.valid n))

  all_below_contain : (n : ℕ) (f : Polynomial c) → length f.0 < n → Contains (all_below n) f.0
  unfolding all_below
  all_below_contain n f l = subst (Contains (map (trim c.ops) (lists_below K.elements n))) f.1.1
      (contains-map (trim c.ops) (lists_below K.elements n) f.0
      (lists_below_contain K.elements f.0 n (All-weaker c.Valid (Contains K.elements) K.complete f.0 f.1.0) l))

  polynomials_in : (fs : List (List A)) → All (IsPolynomial c) fs → (xs : List (Polynomial c)) × (map (λ f. f.0) xs ≡ fs)
  polynomials_in [] a = ([], refl)
  polynomials_in (f ∷ fs) a =
      let r : (xs : List (Polynomial c)) × (map (λ f. f.0) xs ≡ fs) = polynomials_in fs (All-tail (IsPolynomial c) f fs a) in
      ((f, All-head (IsPolynomial c) f fs a) ∷ r.0, ap (λ t. f ∷ t) r.1)

  -- it is decided whether a polynomial has a proper factor
  decide : (f : Polynomial c) → FactorOrNone Q size Monic f
  decide f = decided_by_list E f xs.0 inside
    where
      xs : (xs : List (Polynomial c)) × (map (λ f. f.0) xs ≡ all_below (length f.0))
      xs = polynomials_in (all_below (length f.0)) (all_below_polynomials (length f.0))

      inside : (g : Polynomial c) → length g.0 < length f.0 → Contains xs.0 g
      inside g l = found (contains_from_map (λ f. f.0) f xs.0 g.0 (subst (λ t. Contains t g.0) (sym xs.1) (all_below_contain (length f.0) g l)))
        where
          found : (y : Polynomial c) × Contains xs.0 y × (y.0 ≡ g.0) → Contains xs.0 g
          found y = subst (Contains xs.0) (same_polynomial P F.ring y.0 g y.2) y.1

  pub proper_factor_or_none : (f : List A) → IsPolynomial c f → ((g : List A) × IsProperFactor c f g) ⊎ ((g : List A) → IsProperFactor c f g → ⊥)
  proper_factor_or_none f p = ⊎_elim
      (λ g. inl (g.0.0, proper_to P F (f, p) g.0 g.1))
      (λ n. inr (λ g q. n (g, q.polynomial) (proper_from P F (f, p) (g, q.polynomial) q)))
      (decide (f, p))

  images_monic : (xs : List (Polynomial c)) → All (MonicIrreducible P F) xs → All (IsMonic c) (map (λ f. f.0) xs)
  images_monic [] a = All-nil (IsMonic c)
  images_monic (x ∷ xs) a = All-cons (IsMonic c) x.0 (map (λ f. f.0) xs)
      (All-head (MonicIrreducible P F) x xs a).monic (images_monic xs (All-tail (MonicIrreducible P F) x xs a))

  images_irreducible : (xs : List (Polynomial c)) → All (MonicIrreducible P F) xs → All (IsIrreducible c) (map (λ f. f.0) xs)
  images_irreducible [] a = All-nil (IsIrreducible c)
  images_irreducible (x ∷ xs) a = All-cons (IsIrreducible c) x.0 (map (λ f. f.0) xs)
      (irreducible_to P F x (All-head (MonicIrreducible P F) x xs a).irreducible)
      (images_irreducible xs (All-tail (MonicIrreducible P F) x xs a))

  factored : (f : Polynomial c) → IsMonic c f.0 → Factorization.Factored Q size Monic f
  factored f m = Factorization.factorization_exists E decide f m

  pub factorization_exists : (f : List A) → IsPolynomial c f → IsMonic c f → (fs : List (List A)) × IsFactorization c f fs
  factorization_exists f p m = let k : Factorization.Factored Q size Monic (f, p) = factored (f, p) m in (
    map (λ f. f.0) k.factors,
    record {
      monic = images_monic k.factors k.irreducible;
      irreducible = images_irreducible k.factors k.irreducible;
      product_is = sym (product_of-map P F k.factors) ∙ ap (λ f. f.0) k.product_is;
    },
  )

  -- an irreducible monic divisor of what isn't constant
  pub irreducible_divisor_exists : (f : List A) → IsPolynomial c f → 1 < length f → (g : List A) × IsMonic c g × IsIrreducible c g × Divides c g f
  irreducible_divisor_exists f p l =
      let g : (g : Polynomial c) × Factorization.MonicIrreducible Q size Monic g × Divisibility.Divides Q g (f, p) = Factorization.irreducible_divisor E decide (f, p) l in
      (g.0.0, g.1.monic, irreducible_to P F g.0 g.1.irreducible, divides_to P F g.0 (f, p) g.2)

  -- a monic polynomial with a proper factor has a least factor
  pub least_factor_exists : {cmp : A → A → Ordering} → IsTotalOrder cmp → (f g : List A) → IsPolynomial c f → IsMonic c f → IsProperFactor c f g
      → (h : List A) × IsLeastFactor c cmp f h
  least_factor_exists {cmp} T f g p m k =
      let x : Polynomial c = (f, p) in
      let y : Polynomial c = (g, k.polynomial) in
      let l : (h : Polynomial c) × Least.LeastFactor Q size Monic (λ f g. order_by cmp f.0 g.0 ≡ Less) x h
      = Least.least_factor_exists E (on_total (λ f. f.0) (order_by_total T)) (smaller_first P F cmp) (factored x m) (proper_from P F x y k) in
      (l.0.0, least_to P F cmp x l.0 l.1)
