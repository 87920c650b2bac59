-- A monic irreducible polynomial of degree d over a field with q members has a root in a field
-- with q^e members exactly if d divides e.
use Rattle.std.proofs.Common.{◌≡◌, ◌≢◌, ◌⊎◌, ⊎_elim, ℕ, zero, suc, ◌*◌, ◌%◌, ◌^◌, ◌<◌, [], ◌∷◌, length, map, refl, ap, ap₂, sym, ◌∙◌, arith}
use Rattle.std.proofs.lemmas.List.{length-map}
use Rattle.alg_model.specs.Coefficients.{Ops, Carrier, power}
use Rattle.alg_model.specs.Polynomials.{leading, sum, evaluate}
use Rattle.alg_model.specs.Factors.{IsMonic, IsIrreducible, Divides}
use Rattle.alg_model.specs.Values.{degree, values}
use Rattle.alg_model.specs.Fields.{IsField}
use Rattle.alg_rings.proofs.Divisibility
use Rattle.alg_rings.specs.Laws.{RingLaws, FieldLaws, IsPropositional}
use Rattle.alg_rings.proofs.Rings
use Rattle.alg_rings.proofs.Monomials.{monomial}
use Rattle.alg_rings.proofs.Division.{zero_from_product}
use Rattle.alg_rings.proofs.CarrierPolynomials.{leading_not_zero}
use Rattle.alg_rings.proofs.Elements.{Element, underlying, element_ops, element_laws, on_elements}
use Rattle.alg_rings.proofs.Homomorphisms.{Homomorphism, sum-map, leading-map}
use Rattle.alg_rings.proofs.Divisors.{Polynomial, polynomial_ops, same_polynomial}
use Rattle.alg_rings.proofs.Decisions.{Least, search_below, fails_or_not}
use Rattle.alg_divisors.proofs.Euclidean
use Rattle.alg_divisors.proofs.Euclidean.{EuclideanLaws}
use Rattle.alg_divisors.proofs.EuclideanPolynomials.{over_field}
use Rattle.alg_divisors.proofs.PolynomialFactors.{divides_from}
use Rattle.alg_fields.proofs.Remainders.{divides_iff_remainder_zero}
use Rattle.alg_fields.proofs.FermatProduct.{fixing, length_fixing, leading_fixing, value_of_fixing}
use Rattle.alg_fields.proofs.ValueConstants.{constant_value, constant_value_homomorphism}
use Rattle.alg_finite.proofs.Enumerations.{members_distinct}
use Rattle.alg_finite.proofs.FieldMaps.{injective}
use Rattle.alg_finite.proofs.FiniteField.{FiniteField, frobenius_of_power, frobenius_multiple, root_bound_at, pow_mul, above_one}
use Rattle.alg_finite.proofs.Orbits.{period_divides}
use Rattle.alg_finite.proofs.Evaluation.{coefficients, evaluate_by, polynomial_of, coefficients_of, length_coefficients, leading_coefficients, evaluate_product}
use Rattle.alg_finite.proofs.MinimalPolynomials.{root_period}
use Rattle.alg_finite.proofs.Values
use Rattle.alg_finite.proofs.FiniteValues.{generator_returns}

monomial-map : {A B : Type 0} {k : Ops B} {o : Ops A} {h : B → A} → Homomorphism k o h
    → (t : B) (n : ℕ) → map h (monomial k t n) ≡ monomial o (h t) n
monomial-map H t zero = refl
monomial-map H t (suc n) = ap₂ ◌∷◌ H.zero (monomial-map H t n)

fixing-map : {A B : Type 0} {k : Ops B} {o : Ops A} {h : B → A} → Homomorphism k o h → (n : ℕ)
    → map h (fixing k n) ≡ fixing o n
fixing-map {A} {B} {k} {o} {h} H n =
    sum-map H (k.zero ∷ k.neg k.one ∷ []) (monomial k k.one n)
    ∙ ap₂ (sum o) (ap₂ (λ s t. s ∷ t ∷ []) H.zero (H.neg k.one ∙ ap o.neg H.one))
    (monomial-map H k.one n ∙ ap (λ t. monomial o t n) H.one)

module _ {X : Type 0} {c : Carrier X} (P : IsPropositional c) (Fc : IsField c) where
  open over_field P Fc use {ops as Q, laws as EU}
  open on_elements P Fc.ring use {ops as k}

  -- ---- the polynomial x^n - x
  pub leading_fixing_not_zero : (n : ℕ) → 1 < n
      → leading (element_ops Fc.ring) (fixing (element_ops Fc.ring) n) ≢ (element_ops Fc.ring).zero
  leading_fixing_not_zero n l z = Fc.one_not_zero (ap (underlying c) (sym (leading_fixing k n l) ∙ z))

  -- x^n - x over c
  abbrev pub fixing_polynomial : (n : ℕ) → 1 < n → Polynomial c
  fixing_polynomial n l = polynomial_of P Fc.ring (fixing (element_ops Fc.ring) n)
      (leading_fixing_not_zero n l)

  -- of degree n
  pub length_fixing_polynomial : (n : ℕ) (l : 1 < n) → length (fixing_polynomial n l).0 ≡ suc n
  length_fixing_polynomial n l = length-map (fixing k n) (underlying c) ∙ length_fixing k n l

  -- monic
  pub fixing_monic : (n : ℕ) (l : 1 < n) → IsMonic c (fixing_polynomial n l).0
  fixing_monic n l =
      sym (leading_coefficients P Fc.ring (fixing_polynomial n l))
      ∙ ap (underlying c) (ap (leading k)
      (coefficients_of P Fc.ring (fixing k n) (leading_fixing_not_zero n l)) ∙ leading_fixing k n l)

  -- its value is a^n - a
  pub evaluate_fixing : {A : Type 0} {o : Ops A} (L : RingLaws o) {h : Element c → A}
      (H : Homomorphism (element_ops Fc.ring) o h) (n : ℕ) (l : 1 < n) (a : A)
      → evaluate_by c h o (fixing_polynomial n l) a ≡ o.add (power o a n) (o.neg a)
  evaluate_fixing {A} {o} L {h} H n l a =
      ap (λ w. evaluate o (map h w) a)
      (coefficients_of P Fc.ring (fixing k n) (leading_fixing_not_zero n l))
      ∙ ap (λ w. evaluate o w a) (fixing-map H n) ∙ value_of_fixing L n a

  -- a polynomial that isn't zero and vanishes on all of a finite field has more coefficients than
  -- that has members
  pub vanishing_everywhere_is_long : {A : Type 0} {o : Ops A} {p n : ℕ} (F : FiniteField o p n)
      {h : Element c → A} (H : Homomorphism (element_ops Fc.ring) o h)
      (s : Polynomial c) → s ≢ (polynomial_ops P Fc.ring).zero
      → ((i : ℕ) → i < p ^ n → evaluate_by c h o s (F.members.at i) ≡ o.zero) → p ^ n < length s.0
  vanishing_everywhere_is_long {A} {o} {p} {n} F {h} H s ns all =
      omega (
        arith,
        length-map (coefficients c s) h,
        length_coefficients P Fc.ring s,
        root_bound_at F.field (map h (coefficients c s))
            (λ z. leading_not_zero P Fc.ring s.0 s.1
            (λ t. ns (same_polynomial P Fc.ring s Q.zero t))
            (sym (leading_coefficients P Fc.ring s)
            ∙ ap (underlying c) (injective (element_laws P Fc.ring) F.field.ring H
            (leading k (coefficients c s)) k.zero
            (leading-map H (coefficients c s) ∙ z ∙ sym H.zero))))
            F.members.at (p ^ n) (members_distinct F.members) all,
      )

  module _ {p m : ℕ} (K : FiniteField (element_ops Fc.ring) p m) (f : Polynomial c)
      (not_constant : 1 < length f.0)
      (monic : IsMonic c f.0) (irreducible : IsIrreducible c f.0) where
    -- **f divides x^(q^e) - x where its degree divides e**
    pub divides_fixing : (t : ℕ) (l : 1 < (p ^ m) ^ (degree f.0 * t))
        → Divides c f.0 (fixing_polynomial ((p ^ m) ^ (degree f.0 * t)) l).0
    divides_fixing t l =
        (divides_iff_remainder_zero P Fc f not_constant monic N).1
        (ap (underlying (values c f.0))
        (sym (Values.value_at_generator_element P Fc f not_constant monic N)
        ∙ evaluate_fixing laws.ring H ((p ^ m) ^ (degree f.0 * t)) l x
        ∙ ap (λ v. W.add v (W.neg x))
        (frobenius_multiple laws.ring (p ^ m) (degree f.0) x
        (generator_returns P Fc K f not_constant monic irreducible) t)
        ∙ laws.ring.add_neg x))
      where
        N : Polynomial c
        N = fixing_polynomial ((p ^ m) ^ (degree f.0 * t)) l

        W : Ops (Element (values c f.0))
        W = Values.value_element_ops P Fc f not_constant monic

        laws : FieldLaws (Values.value_element_ops P Fc f not_constant monic)
        laws = Values.value_laws P Fc f not_constant monic irreducible

        x : Element (values c f.0)
        x = Values.generator_element P Fc f not_constant monic

        H : Homomorphism (element_ops Fc.ring) (Values.value_element_ops P Fc f not_constant monic)
            (constant_value P Fc f not_constant monic)
        H = constant_value_homomorphism P Fc f not_constant monic

    module _ {A : Type 0} {o : Ops A} (e : ℕ) (F : FiniteField o p (m * e)) {h : Element c → A}
        (H : Homomorphism (element_ops Fc.ring) o h) where
      -- **a root exists where the degree divides**
      pub root_exists : (t : ℕ) → e ≡ degree f.0 * t → (a : A) × (evaluate_by c h o f a ≡ o.zero)
      root_exists t r = ⊎_elim
          (λ (i : Least (λ i. evaluate_by c h o s (F.members.at i) ≢ o.zero) (p ^ (m * e))). (
            F.members.at i.number,
            zero_from_product F.field (evaluate_by c h o s (F.members.at i.number))
                (evaluate_by c h o f (F.members.at i.number)) (product_zero (F.members.at i.number))
                i.holds,
          ))
          (λ none. absurd (omega (
            arith,
            size,
            length_fixing_polynomial ((p ^ m) ^ (degree f.0 * t)) l,
            Euclidean.size_of_quotient EU d n,
            not_constant,
            vanishing_everywhere_is_long F H s (Euclidean.quotient_not_zero EU d n)
                (λ i w. ⊎_elim (λ z. z) (λ z. absurd (none i w z)) (zero_or_not (F.members.at i))),
          )))
          (search_below (λ i. evaluate_by c h o s (F.members.at i) ≢ o.zero) (p ^ (m * e))
          (λ i r. fails_or_not (zero_or_not (F.members.at i))))
        where
          size : (p ^ m) ^ (degree f.0 * t) ≡ p ^ (m * e)
          size = ap (λ j. (p ^ m) ^ j) (sym r) ∙ pow_mul p m e

          l : 1 < (p ^ m) ^ (degree f.0 * t)
          l = omega (arith, size, above_one F)

          N : Polynomial c
          N = fixing_polynomial ((p ^ m) ^ (degree f.0 * t)) l

          n : N ≢ Q.zero
          n = Euclidean.monic_not_zero EU N (fixing_monic ((p ^ m) ^ (degree f.0 * t)) l)

          d : Divisibility.Divides (polynomial_ops P Fc.ring) f N
          d = divides_from P Fc f N (divides_fixing t l)

          s : Polynomial c
          s = d.quotient

          zero_or_not : (a : A) → (evaluate_by c h o s a ≡ o.zero) ⊎ (evaluate_by c h o s a ≢ o.zero)
          zero_or_not a = Rings.zero_or_not o F.field.ring.zero_test (evaluate_by c h o s a)

          product_zero : (a : A) → o.mul (evaluate_by c h o s a) (evaluate_by c h o f a) ≡ o.zero
          product_zero a =
              sym (evaluate_product P Fc.ring F.field.ring H a s f)
              ∙ ap (λ g. evaluate_by c h o g a) d.identity
              ∙ evaluate_fixing F.field.ring H ((p ^ m) ^ (degree f.0 * t)) l a
              ∙ ap (λ v. o.add v (o.neg a)) (ap (power o a) size ∙ F.fixed a)
              ∙ F.field.ring.add_neg a

      -- **and only there**
      pub degree_divides : (a : A) → evaluate_by c h o f a ≡ o.zero → e % degree f.0 ≡ 0
      degree_divides a z =
          period_divides F m a (degree f.0) (root_period P Fc K F H f monic irreducible a z) e
          (frobenius_of_power F.field.ring p m e a ∙ F.fixed a)
