-- The least factor of a polynomial over a carrier: there is at most one, it is irreducible, and it is the first of the
-- factors in a factorization.
use Rattle.std.proofs.Common.{◌≡◌, ◌<◌, ◌≤◌, sym, refl, ap, ◌∙◌, subst, arith, List, length, map, get_or, Contains, Ordering, Less, Equal, Greater}
use Rattle.std.proofs.lemmas.List.{get_or-map, length-map}
use Rattle.std.proofs.lemmas.List.Elements.{Contains-get_or}
use Rattle.std.specs.Ordering.{ordering_reverse}
use Rattle.std.specs.Cmp.{IsTotalOrder}
use Rattle.alg_model.specs.Coefficients.{Carrier}
use Rattle.alg_model.specs.Factors.{IsMonic, IsIrreducible, IsLeastFactor, order_by}
use Rattle.alg_model.specs.Fields.{IsField}
use Rattle.alg_rings.specs.Laws.{IsPropositional}
use Rattle.alg_rings.proofs.Divisors.{Polynomial, polynomial_ops, divided_is_polynomial}
use Rattle.alg_rings.proofs.PolynomialOrder.{order_by_total, order_by_same, order_by_shorter, order_by_not_longer}
use Rattle.alg_divisors.specs.Factorization.{IsFactorization}
use Rattle.alg_divisors.proofs.Factorization
use Rattle.alg_divisors.proofs.Least
use Rattle.alg_divisors.proofs.EuclideanPolynomials.{polynomials_euclidean, over_field}
use Rattle.alg_divisors.proofs.PolynomialFactors.{Members, members_of_factorization, product_of_members, proper_to, proper_from, irreducible_to}

-- members of a list and of its image
pub contains-map : {X Y : Type 0} (f : X → Y) (xs : List X) (x : X) → Contains xs x → Contains (map f xs) (f x)
contains-map f xs x h = (h.0, omega (arith, length-map xs f, h.1), get_or-map f xs h.0 x (f x) h.1 ∙ ap f h.2)

pub contains_from_map : {X Y : Type 0} (f : X → Y) (d : X) (xs : List X) (y : Y) → Contains (map f xs) y → (x : X) × Contains xs x × (f x ≡ y)
contains_from_map f d xs y h = let l : h.0 < length xs = omega (arith, length-map xs f, h.1) in
    (get_or xs h.0 d, Contains-get_or xs h.0 d l, sym (get_or-map f xs h.0 d y l) ∙ h.2)

-- of two least factors neither comes before the other
pub least_factor_unique : {A : Type 0} {c : Carrier A} {cmp : A → A → Ordering} → IsTotalOrder cmp → ((x y : A) → cmp x y ≡ Equal → x ≡ y)
    → {f g h : List A} → IsLeastFactor c cmp f g → IsLeastFactor c cmp f h → g ≡ h
least_factor_unique {A} {c} {cmp} T same {f} {g} {h} p q = compared (order_by cmp g h) refl
  where
    compared : (r : Ordering) → order_by cmp g h ≡ r → g ≡ h
    compared Less e = absurd (q.least g p.factor e)
    compared Equal e = order_by_same same g h e
    compared Greater e = absurd (p.least h q.factor ((order_by_total T).antisymm h g ∙ ap ordering_reverse e))

module _ {A : Type 0} {c : Carrier A} (P : IsPropositional c) (F : IsField c) (cmp : A → A → Ordering) where
  open over_field P F use {ops as Q, size, Monic}

  abbrev pub Before : Polynomial c → Polynomial c → Type 0
  Before f g = order_by cmp f.0 g.0 ≡ Less

  pub smaller_first : Least.SmallerFirst (λ f. length f.0) Before
  smaller_first = record {
    smaller = λ f g l. order_by_shorter cmp f.0 g.0 l;
    not_larger = λ f g e. order_by_not_longer cmp f.0 g.0 e;
  }

  pub least_to : (f g : Polynomial c) → Least.LeastFactor (polynomial_ops P F.ring) (λ f. length f.0) (λ f. IsMonic c f.0) Before f g
      → IsLeastFactor c cmp f.0 g.0
  least_to f g l = record {
    factor = proper_to P F f g l.factor;
    least = λ h p b. l.least (h, p.polynomial) (proper_from P F f (h, p.polynomial) p) b;
  }

  least_from : (f g : Polynomial c) → IsLeastFactor c cmp f.0 g.0 → Least.LeastFactor Q size Monic Before f g
  least_from f g l = record {
    factor = proper_from P F f g l.factor;
    least = λ h p b. l.least h.0 (proper_to P F f h p) b;
  }

  pub least_factor_irreducible : {f g : List A} → IsLeastFactor c cmp f g → IsIrreducible c g
  least_factor_irreducible {f} {g} l =
      let y : Polynomial c = (g, l.factor.polynomial) in
      let x : Polynomial c = (f, divided_is_polynomial P F.ring g f l.factor.polynomial l.factor.divides) in
      irreducible_to P F y (Least.least_irreducible (polynomials_euclidean P F) smaller_first (least_from x y l))

  -- the first of two or more factors is the least factor
  pub least_of_factorization : {f g : List A} {fs : List (List A)} → IsFactorization c f fs → 2 ≤ length fs → Contains fs g
      → ((h : List A) → Contains fs h → order_by cmp h g ≡ Less → ⊥) → IsLeastFactor c cmp f g
  least_of_factorization {f} {g} {fs} k l m least = subst (λ t. IsLeastFactor c cmp t g) (product_of_members P F k n)
      (subst (λ t. IsLeastFactor c cmp (Factorization.product Q n.members).0 t) x.2
      (least_to (Factorization.product Q n.members) x.0
      (Least.least_member (polynomials_euclidean P F) smaller_first n.members x.0 n.irreducible enough (record { member = x.1; least = none }))))
    where
      n : Members P F fs
      n = members_of_factorization P F k

      x : (x : Polynomial c) × Contains n.members x × (x.0 ≡ g)
      x = contains_from_map (λ f. f.0) Q.zero n.members g (subst (λ t. Contains t g) (sym n.same) m)

      enough : 2 ≤ length n.members
      enough = omega (arith, length-map n.members (λ f. f.0), ap length n.same)

      none : (h : Polynomial c) → Contains n.members h → Before h x.0 → ⊥
      none h i b = least h.0 (subst (λ t. Contains t h.0) n.same (contains-map (λ f. f.0) n.members h i))
          (subst (λ t. order_by cmp h.0 t ≡ Less) x.2 b)
