-- The minimal polynomial of a member a of a finite field over a smaller one, c: the product of x -
-- b over the orbit of a. It
-- divides whatever vanishes at a, and is irreducible. So the roots of an irreducible polynomial
-- are one orbit.
use Rattle.std.proofs.Common.{◌≡◌, ◌≢◌, ⊎_elim, ℕ, suc, ◌^◌, ◌<◌, List, [], ◌∷◌, length, map, slice_index_or, ap, sym, ◌∙◌, arith}
use Rattle.std.proofs.lemmas.List.{length-map}
use Rattle.alg_model.specs.Coefficients.{Ops, Carrier}
use Rattle.alg_model.specs.Polynomials.{evaluate, leading}
use Rattle.alg_model.specs.Factors.{IsMonic, IsIrreducible, IsProperFactor}
use Rattle.alg_model.specs.Values.{degree}
use Rattle.alg_model.specs.Fields.{IsField}
use Rattle.alg_rings.proofs.Divisibility
use Rattle.alg_rings.specs.Laws.{FieldLaws, IsPropositional}
use Rattle.alg_rings.proofs.Rings
use Rattle.alg_rings.proofs.Division.{zero_from_product}
use Rattle.alg_rings.proofs.CarrierPolynomials.{leading_not_zero}
use Rattle.alg_rings.proofs.Elements.{Element, underlying, element_ops}
use Rattle.alg_rings.proofs.Homomorphisms.{Homomorphism}
use Rattle.alg_rings.proofs.Divisors.{Polynomial, polynomial_ops, same_polynomial}
use Rattle.alg_rings.proofs.Evaluation
use Rattle.alg_divisors.proofs.Euclidean
use Rattle.alg_divisors.proofs.Euclidean.{EuclideanLaws}
use Rattle.alg_divisors.proofs.EuclideanPolynomials.{over_field}
use Rattle.alg_divisors.proofs.PolynomialFactors.{divides_to, divides_from, irreducible_same}
use Rattle.alg_fields.proofs.Roots.{linear, linear_product, value_of_linear}
use Rattle.alg_finite.proofs.FiniteField.{FiniteField, frobenius}
use Rattle.alg_finite.proofs.Orbits.{Orbit, Period, orbit, orbit_of, orbit_at, length_orbit, length_orbit_polynomial, leading_orbit_polynomial, orbit_polynomial_vanishes, vanishing_is_long}
use Rattle.alg_finite.proofs.Evaluation.{coefficients, evaluate_by, polynomial_of, coefficients_of, length_coefficients, leading_coefficients, evaluate_sum, evaluate_product}

-- where a product of x - b is zero, one of its factors is
pub root_of_linear_product : {A : Type 0} {o : Ops A} → FieldLaws o → (roots : List A) (b e : A)
    → evaluate o (linear_product o roots) b ≡ o.zero
    → (i : ℕ) × (i < length roots) × (slice_index_or roots i e ≡ b)
root_of_linear_product {A} {o} F [] b e z =
    absurd (F.one_not_zero (sym (Evaluation.value_of_constant F.ring o.one b) ∙ z))
root_of_linear_product {A} {o} F (a ∷ roots) b e z = ⊎_elim
    (λ s. (
      0,
      omega arith,
      sym
          (Rings.same_from_difference F.ring b a (sym (value_of_linear F.ring a b) ∙ s)),
    ))
    (λ n. let i : (i : ℕ) × (i < length roots) × (slice_index_or roots i e ≡ b) =
    root_of_linear_product F roots b e
    (zero_from_product F (evaluate o (linear o a) b) (evaluate o (linear_product o roots) b)
    (sym (Evaluation.value_of_product F.ring (linear o a) (linear_product o roots) b) ∙ z) n) in
    (suc i.0, omega (arith, i.1), i.2))
    (Rings.zero_or_not o F.ring.zero_test (evaluate o (linear o a) b))

module _ {X : Type 0} {c : Carrier X} (P : IsPropositional c) (Fc : IsField c) {p m : ℕ}
    (K : FiniteField (element_ops Fc.ring) p m)
    {A : Type 0} {o : Ops A} {n : ℕ} (F : FiniteField o p n) {h : Element c → A}
    (H : Homomorphism (element_ops Fc.ring) o h) where
  open over_field P Fc use {ops as Q, laws as EU}

  -- a polynomial that isn't zero and vanishes at a has more coefficients than the orbit of a has
  -- members
  pub vanishing_polynomial_is_long : (a : A) (O : Orbit o h (p ^ m) a) (f : Polynomial c)
      → f ≢ Q.zero → evaluate_by c h o f a ≡ o.zero → O.size < length f.0
  vanishing_polynomial_is_long a O f l e =
      omega (
        arith,
        length_coefficients P Fc.ring f,
        vanishing_is_long H K F a O (coefficients c f)
            (λ z. leading_not_zero P Fc.ring f.0 f.1 (λ s. l (same_polynomial P Fc.ring f Q.zero s))
            (sym (leading_coefficients P Fc.ring f) ∙ ap (underlying c) z)) e,
      )

  module _ (a : A) (O : Orbit o h (p ^ m) a) where
    -- the polynomial of the orbit isn't zero
    pub leading_polynomial_not_zero : leading (element_ops Fc.ring) O.polynomial
        ≢ (element_ops Fc.ring).zero
    leading_polynomial_not_zero z =
        K.field.one_not_zero (sym (leading_orbit_polynomial H K F a O) ∙ z)

    -- **the minimal polynomial of a**
    abbrev pub minimal : Polynomial c
    minimal = polynomial_of P Fc.ring O.polynomial leading_polynomial_not_zero

    -- its degree is the number of members of the orbit
    pub length_minimal : length minimal.0 ≡ suc O.size
    length_minimal = length-map O.polynomial (underlying c) ∙ length_orbit_polynomial H K F a O

    -- it is monic
    pub minimal_monic : IsMonic c minimal.0
    minimal_monic =
        sym (leading_coefficients P Fc.ring minimal)
        ∙ ap (underlying c) (ap (leading (element_ops Fc.ring))
        (coefficients_of P Fc.ring O.polynomial leading_polynomial_not_zero)
        ∙ leading_orbit_polynomial H K F a O)

    -- its value at b is the product of b less the members of the orbit
    pub minimal_value : (b : A)
        → evaluate_by c h o minimal b ≡ evaluate o (linear_product o (orbit o (p ^ m) O.size a)) b
    minimal_value b =
        ap (λ w. evaluate o (map h w) b)
        (coefficients_of P Fc.ring O.polynomial leading_polynomial_not_zero)
        ∙ ap (λ w. evaluate o w b) O.image

    -- it vanishes at a
    pub minimal_vanishes : evaluate_by c h o minimal a ≡ o.zero
    minimal_vanishes =
        ap (λ w. evaluate o (map h w) a)
        (coefficients_of P Fc.ring O.polynomial leading_polynomial_not_zero)
        ∙ orbit_polynomial_vanishes H K F a O

    -- **it divides what vanishes at a**
    pub minimal_divides : (f : Polynomial c) → evaluate_by c h o f a ≡ o.zero
        → Divisibility.Divides (polynomial_ops P Fc.ring) minimal f
    minimal_divides f e =
        let d : (q : Polynomial c) × (r : Polynomial c) × (f ≡ Q.add (Q.mul q minimal) r)
        × (length r.0 < length minimal.0) =
        EU.divide f minimal (Euclidean.monic_not_zero EU minimal minimal_monic) in
        let z : evaluate_by c h o d.1 a ≡ o.zero =
        sym (F.field.ring.zero_add (evaluate_by c h o d.1 a))
        ∙ ap (λ t. o.add t (evaluate_by c h o d.1 a))
        (sym (evaluate_product P Fc.ring F.field.ring H a d.0 minimal
        ∙ ap (o.mul (evaluate_by c h o d.0 a)) minimal_vanishes
        ∙ Rings.mul_zero F.field.ring (evaluate_by c h o d.0 a)))
        ∙ sym (evaluate_sum P Fc.ring F.field.ring H a (Q.mul d.0 minimal) d.1)
        ∙ ap (λ g. evaluate_by c h o g a) (sym d.2) ∙ e in
        ⊎_elim
        (λ s. record {
          quotient = d.0;
          identity = sym (d.2 ∙ ap (Q.add (Q.mul d.0 minimal)) s
              ∙ Rings.add_zero EU.ring (Q.mul d.0 minimal));
        })
        (λ s. absurd (omega (arith, vanishing_polynomial_is_long a O d.1 s z, d.3, length_minimal)))
        (Rings.zero_or_not Q EU.ring.zero_test d.1)

    -- **it is irreducible**
    pub minimal_irreducible : IsIrreducible c minimal.0
    minimal_irreducible = record {
      polynomial = minimal.1;
      not_constant = let l : 0 < O.size = O.period.positive in omega (arith, length_minimal);
      no_factor = none;
    }
      where
        none : (g : List X) → IsProperFactor c minimal.0 g → ⊥
        none g k =
            let y : Polynomial c = (g, k.polynomial) in
            let d : Divisibility.Divides (polynomial_ops P Fc.ring) y minimal =
            divides_from P Fc y minimal k.divides in
            let n : minimal ≢ Q.zero = Euclidean.monic_not_zero EU minimal minimal_monic in
            let s : Polynomial c = d.quotient in
            let z : o.mul (evaluate_by c h o s a) (evaluate_by c h o y a) ≡ o.zero =
            sym (evaluate_product P Fc.ring F.field.ring H a s y)
            ∙ ap (λ f. evaluate_by c h o f a) d.identity ∙ minimal_vanishes in
            ⊎_elim
            (λ e. omega (
              arith,
              vanishing_polynomial_is_long a O s
                  (Euclidean.quotient_not_zero EU d n) e,
              Euclidean.size_of_quotient EU d n,
              length_minimal,
              k.not_constant,
            ))
            (λ e. omega (
              arith,
              vanishing_polynomial_is_long a O y (Euclidean.divisor_not_zero EU d n)
                  (zero_from_product F.field (evaluate_by c h o s a) (evaluate_by c h o y a) z e),
              k.smaller,
              length_minimal,
            ))
            (Rings.zero_or_not o F.field.ring.zero_test (evaluate_by c h o s a))

    -- **a monic irreducible polynomial that vanishes at a is the minimal polynomial of a**
    pub irreducible_is_minimal : (f : Polynomial c) → IsMonic c f.0 → IsIrreducible c f.0
        → evaluate_by c h o f a ≡ o.zero → minimal ≡ f
    irreducible_is_minimal f mf i e = same_polynomial P Fc.ring minimal f
        (irreducible_same P Fc minimal.0 f.0 minimal_monic minimal_irreducible mf i
        (divides_to P Fc minimal f (minimal_divides f e)))

  -- ---- roots of an irreducible polynomial
  module _ (f : Polynomial c) (monic : IsMonic c f.0) (irreducible : IsIrreducible c f.0) (a : A)
      (root : evaluate_by c h o f a ≡ o.zero) where
    abbrev O : Orbit o h (p ^ m) a
    O = orbit_of H K F a

    same : minimal a (orbit_of H K F a) ≡ f
    same = irreducible_is_minimal a (orbit_of H K F a) f monic irreducible root

    size_is_degree : (orbit_of H K F a).size ≡ degree f.0
    size_is_degree = omega (arith, length_minimal a (orbit_of H K F a), ap (λ g. length g.0) same)

    -- **a root comes back after exactly as many powers of Frobenius as the degree**
    pub root_period : Period o (p ^ m) a (degree f.0)
    root_period = record {
      positive = omega (arith, size_is_degree, O.period.positive);
      returns = ap (λ d. frobenius o (p ^ m) d a) (sym size_is_degree) ∙ O.period.returns;
      least = λ j l e. omega (arith, size_is_degree, O.period.least j l e);
    }

    -- **each root is a power of Frobenius of one root**
    pub roots_are_orbit : (b : A) → evaluate_by c h o f b ≡ o.zero
        → (i : ℕ) × (i < degree f.0) × (frobenius o (p ^ m) i a ≡ b)
    roots_are_orbit b e =
        let r : (i : ℕ) × (i < length (orbit o (p ^ m) O.size a))
        × (slice_index_or (orbit o (p ^ m) O.size a) i b ≡ b) =
        root_of_linear_product F.field (orbit o (p ^ m) O.size a) b b
        (sym (minimal_value a O b) ∙ ap (λ g. evaluate_by c h o g b) same ∙ e) in
        let l : r.0 < O.size = omega (arith, r.1, length_orbit F.field.ring (p ^ m) O.size a) in (
          r.0,
          omega (arith, l, size_is_degree),
          sym (orbit_at F.field.ring (p ^ m) O.size a r.0 b l)
              ∙ r.2,
        )

    -- **f is the product of x - b over the orbit of a root**
    pub root_polynomial : map h (coefficients c f)
        ≡ linear_product o (orbit o (p ^ m) (degree f.0) a)
    root_polynomial =
        ap (λ g. map h (coefficients c g)) (sym same)
        ∙ ap (map h) (coefficients_of P Fc.ring O.polynomial (leading_polynomial_not_zero a O))
        ∙ O.image ∙ ap (λ d. linear_product o (orbit o (p ^ m) d a)) size_is_degree
