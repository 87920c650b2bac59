-- Over a finite field c with q members there is a monic irreducible polynomial of each degree d
-- above 0: x^(q^d) - x has no square
-- factor, and an irreducible factor of it that divides no x^(q^k) - x with k < d has degree d.
use Rattle.std.proofs.Common.{◌≡◌, ◌≢◌, ⊎_elim, ℕ, zero, suc, ◌+◌, ◌*◌, ◌%◌, ◌^◌, ◌<◌, ◌≤◌, List, [], ◌∷◌, length, map, slice_index_or, refl, ap, ap₂, sym, ◌∙◌, subst, arith, pow-suc, cond}
use Rattle.std.specs.List.{range_with_len}
use Rattle.std.proofs.Math.Nat.{mul-le-mul_left}
use Rattle.std.proofs.lemmas.Bool.{cases_lt, cases_eq}
use Rattle.std.proofs.lemmas.List.FromFn.{length-map-range_with_len, get_or-map-range_with_len}
use Rattle.std.proofs.lemmas.List.Elements.{All-from_get_or}
use Rattle.std.proofs.lemmas.Nat.Gcd.{le_of_dvd, dvd_of_mod-eq-zero}
use Rattle.alg_model.specs.Coefficients.{Ops, Carrier, times}
use Rattle.alg_model.specs.Polynomials.{trim, derivative, poly_negative}
use Rattle.alg_model.specs.Factors.{IsMonic, IsIrreducible, Divides}
use Rattle.alg_model.specs.Values.{degree, values}
use Rattle.alg_model.specs.Fields.{IsField}
use Rattle.alg_rings.proofs.Divisibility
use Rattle.alg_rings.specs.Laws.{RingLaws, FieldLaws, IsPropositional}
use Rattle.alg_rings.proofs.Rings
use Rattle.alg_rings.proofs.Rings.{sorted}
use Rattle.alg_rings.proofs.Lists
use Rattle.alg_rings.proofs.Trims
use Rattle.alg_rings.proofs.Monomials.{monomial, monomial_at, monomial_elsewhere}
use Rattle.alg_rings.proofs.Elements.{Element, underlying, element_ops, underlying_homomorphism, on_elements}
use Rattle.alg_rings.proofs.Homomorphisms.{derivative-map}
use Rattle.alg_rings.proofs.Divisors.{Polynomial, polynomial_ops, same_polynomial}
use Rattle.alg_rings.proofs.Powers
use Rattle.alg_divisors.proofs.Euclidean
use Rattle.alg_divisors.proofs.Euclidean.{EuclideanLaws}
use Rattle.alg_divisors.proofs.Gcd
use Rattle.alg_divisors.proofs.Gcd.{Coprime, Gcd}
use Rattle.alg_divisors.proofs.EuclideanPolynomials.{over_field}
use Rattle.alg_divisors.proofs.PolynomialFactors.{divides_to, divides_from}
use Rattle.alg_divisors.proofs.Finite.{IsFinite}
use Rattle.alg_divisors.proofs.Existence.{irreducible_divisor_exists}
use Rattle.alg_fields.proofs.Derivatives
use Rattle.alg_fields.proofs.Derivatives.{raw_derivative}
use Rattle.alg_fields.proofs.Derivations.{derivative_of, product_rule}
use Rattle.alg_fields.proofs.Squares
use Rattle.alg_fields.proofs.Remainders.{divides_iff_remainder_zero}
use Rattle.alg_fields.proofs.FermatProduct.{fixing}
use Rattle.alg_fields.proofs.ValueConstants.{constant_value_homomorphism}
use Rattle.alg_finite.proofs.FiniteField.{FiniteField, frobenius, above_one, pow_strict, pow_positive}
use Rattle.alg_finite.proofs.Orbits.{period_divides}
use Rattle.alg_finite.proofs.RootExistence.{fixing_polynomial, length_fixing_polynomial, fixing_monic, evaluate_fixing, divides_fixing}
use Rattle.alg_finite.proofs.Values
use Rattle.alg_finite.proofs.FiniteValues.{values_finite, generator_returns, generator_period}

positive_suc : (j : ℕ) → 0 < suc j
positive_suc j = omega arith

-- ---- the derivative of x^n - x, where n times one is zero
module _ {A : Type 0} {o : Ops A} (R : RingLaws o) where
  open o use {zero as O, one as I, add as ◌⊕◌, mul as ◌⊗◌, neg}

  infixl 60 ◌⊕◌
  infixl 70 ◌⊗◌
  two_squares : (a b f : A) → a ⊗ b ⊗ (f ⊗ f) ≡ a ⊗ f ⊗ (b ⊗ f)
  two_squares a b f = simp (sorted, R)

  fixing_derivative_at : (n : ℕ) → 1 < n → times o n I ≡ O → (k : ℕ)
      → slice_index_or (raw_derivative o (fixing o n)) k O ≡ slice_index_or (neg I ∷ []) k O
  fixing_derivative_at n l z zero =
      Derivatives.raw_derivative_at R (fixing o n) 0
      ∙ ap (times o 1) (Lists.sum_at R (O ∷ neg I ∷ []) (monomial o I n) 1
      ∙ ap (λ t. neg I ⊕ t) (monomial_elsewhere o I n 1 (λ e. omega arith)))
      ∙ Rings.add_zero R (neg I ⊕ O) ∙ Rings.add_zero R (neg I)
  fixing_derivative_at n l z (suc k) =
      Derivatives.raw_derivative_at R (fixing o n) (suc k)
      ∙ ap (times o (suc (suc k)))
      (Lists.sum_at R (O ∷ neg I ∷ []) (monomial o I n) (suc (suc k)) ∙ R.zero_add _)
      ∙ ⊎_elim
      (λ e. ap₂ (λ i j. times o i (slice_index_or (monomial o I n) j O)) e e
      ∙ ap (times o n) (monomial_at o I n) ∙ z)
      (λ e. ap (times o (suc (suc k))) (monomial_elsewhere o I n (suc (suc k)) e)
      ∙ Powers.times_zero R (suc (suc k)))
      (cases_eq (suc (suc k)) n)

  -- a power of p times one is zero where p times one is
  pub times_power : (p j : ℕ) → times o p I ≡ O → 0 < j → times o (p ^ j) I ≡ O
  times_power p zero e l = absurd (omega arith)
  times_power p (suc j) e l =
      ap (λ n. times o n I) (pow-suc p j) ∙ Powers.times_times R (p ^ j) p I
      ∙ ap (times o (p ^ j)) e ∙ Powers.times_zero R (p ^ j)

  -- **the derivative of x^n - x is -1**
  fixing_derivative : o.one ≢ o.zero → (n : ℕ) → 1 < n → times o n I ≡ O
      → derivative o (fixing o n) ≡ neg I ∷ []
  fixing_derivative ne n l z =
      Derivatives.derivative_is_trimmed R (fixing o n)
      ∙ Trims.trim_is o R.zero_test (raw_derivative o (fixing o n)) (neg I ∷ [])
      (Trims.cons_trimmed_not_zero o R.zero_test (neg I)
      (λ s. ne (sym (Rings.neg_neg R I) ∙ ap neg s ∙ Rings.neg_zero R)))
      (fixing_derivative_at n l z)

module _ {X : Type 0} {c : Carrier X} (P : IsPropositional c) (Fc : IsField c) {p m : ℕ}
    (K : FiniteField (element_ops Fc.ring) p m) where
  open over_field P Fc use {ops as Q, laws as EU}
  open on_elements P Fc.ring use {ops as k}

  -- all elements stand in a list
  pub finite_carrier : IsFinite c
  finite_carrier = record {
    elements = map (λ i. (K.members.at i).0) (range_with_len 0 (p ^ m));
    valid = All-from_get_or c.Valid
        (map (λ i. (K.members.at i).0) (range_with_len 0 (p ^ m))) c.ops.zero (λ i l.
        let s : i < p ^ m = omega
        (arith, length-map-range_with_len (λ i. (K.members.at i).0) 0 (p ^ m)) in
        subst c.Valid (sym (get_or-map-range_with_len (λ i. (K.members.at i).0) 0
        (p ^ m) i i c.ops.zero s (omega arith))) (K.members.at i).1);
    complete = λ x v. (
      K.members.index (x, v),
      omega (
        arith,
        length-map-range_with_len (λ i. (K.members.at i).0) 0 (p ^ m),
        K.members.index_below (x, v),
      ),
      get_or-map-range_with_len (λ i. (K.members.at i).0) 0 (p ^ m) (K.members.index (x, v))
          (K.members.index (x, v)) x (K.members.index_below (x, v)) (omega arith)
          ∙ ap (underlying c) (K.members.at_index (x, v)),
    );
  }

  above : (j : ℕ) → 0 < j → 1 < (p ^ m) ^ j
  above j l = let a : (p ^ m) ^ 0 < (p ^ m) ^ j = pow_strict (p ^ m) 0 j (above_one K) l in
      let b : 0 < (p ^ m) ^ 0 = pow_positive (p ^ m) 0 (above_one K) in omega arith

  -- x^(q^j) - x
  abbrev N : (j : ℕ) → 0 < j → Polynomial c
  N j l = fixing_polynomial P Fc ((p ^ m) ^ j) (above j l)

  -- ---- it has no square factor
  derivative_is : (j : ℕ) (l : 0 < j) → derivative_of P Fc.ring (N j l) ≡ Q.neg Q.one
  derivative_is j l = same_polynomial P Fc.ring (derivative_of P Fc.ring (N j l)) (Q.neg Q.one)
      (sym (derivative-map (underlying_homomorphism Fc.ring) (fixing k ((p ^ m) ^ j)))
      ∙ ap (map (underlying c)) (fixing_derivative K.field.ring K.field.one_not_zero ((p ^ m) ^ j)
      (above j l)
      (times_power K.field.ring (p ^ m) j
      (times_power K.field.ring p m K.characteristic K.positive) l))
      ∙ ap (poly_negative c.ops) (sym one_is))
    where
      one_is : trim c.ops (c.ops.one ∷ []) ≡ c.ops.one ∷ []
      one_is = ap (λ b. cond b [] (c.ops.one ∷ []))
          (Rings.is_zero_of_not_zero k K.field.ring.zero_test k.one K.field.one_not_zero)

  fixing_square_free : (j : ℕ) (l : 0 < j) (g : Polynomial c)
      → Divisibility.Divides (polynomial_ops P Fc.ring) (Q.mul g g) (N j l) → length g.0 ≡ 1
  fixing_square_free j l g d = Squares.square_free EU (product_rule P Fc.ring) (record {
    first = Q.zero;
    second = Q.neg Q.one;
    identity = ap₂ Q.add (Rings.zero_mul EU.ring (N j l))
        (ap (Q.mul (Q.neg Q.one)) (derivative_is j l) ∙ Rings.neg_mul_neg EU.ring Q.one Q.one
        ∙ EU.ring.one_mul Q.one)
        ∙ EU.ring.zero_add Q.one;
  }) d

  -- ---- its irreducible factors
  module _ (f : Polynomial c) (monic : IsMonic c f.0) (irreducible : IsIrreducible c f.0) where
    -- **the degree of one divides j**
    factor_degree_divides : (j : ℕ) (l : 0 < j) → Divides c f.0 (N j l).0 → j % degree f.0 ≡ 0
    factor_degree_divides j l d =
        period_divides (values_finite P Fc K f irreducible.not_constant monic irreducible) m x
        (degree f.0)
        (record {
          positive = let n : 1 < length f.0 = irreducible.not_constant in omega arith;
          returns = generator_returns P Fc K f irreducible.not_constant monic irreducible;
          least = λ i w e. generator_period P Fc K f irreducible.not_constant monic irreducible i w
              e;
        })
        j (Rings.same_from_difference L.ring (frobenius W (p ^ m) j x) x
        (sym (evaluate_fixing P Fc L.ring
        (constant_value_homomorphism P Fc f irreducible.not_constant monic)
        ((p ^ m) ^ j) (above j l) x)
        ∙ Values.value_at_generator_element P Fc f irreducible.not_constant monic (N j l)
        ∙ Values.same_value P Fc f irreducible.not_constant monic _ _
        ((divides_iff_remainder_zero P Fc f irreducible.not_constant monic (N j l)).0 d)))
      where
        W : Ops (Element (values c f.0))
        W = Values.value_element_ops P Fc f irreducible.not_constant monic

        L : FieldLaws (Values.value_element_ops P Fc f irreducible.not_constant monic)
        L = Values.value_laws P Fc f irreducible.not_constant monic irreducible

        x : Element (values c f.0)
        x = Values.generator_element P Fc f irreducible.not_constant monic

    divides_own : (l : 0 < degree f.0) → Divides c f.0 (N (degree f.0) l).0
    divides_own l = subst (λ j. (r : 1 < (p ^ m) ^ j)
        → Divides c f.0 (fixing_polynomial P Fc ((p ^ m) ^ j) r).0) (omega arith)
        (divides_fixing P Fc K f irreducible.not_constant monic irreducible 1)
        (above (degree f.0) l)

  -- ---- the product of x^(q^j) - x over 0 < j < d
  lower : ℕ → Polynomial c
  lower zero = Q.one
  lower (suc zero) = Q.one
  lower (suc (suc j)) = Q.mul (N (suc j) (positive_suc j)) (lower (suc j))

  lower_monic : (d : ℕ) → IsMonic c (lower d).0
  unfolding lower
  lower_monic zero = EU.one_monic
  lower_monic (suc zero) = EU.one_monic
  lower_monic (suc (suc j)) =
      EU.monic_mul (N (suc j) (positive_suc j)) (lower (suc j))
      (fixing_monic P Fc ((p ^ m) ^ suc j) (above (suc j) (positive_suc j))) (lower_monic (suc j))

  lower_small : (d : ℕ) → 0 < d → length (lower d).0 ≤ (p ^ m) ^ d
  unfolding lower
  lower_small zero l = absurd (omega arith)
  lower_small (suc zero) l = omega (arith, EU.size_one, above 1 (omega arith))
  lower_small (suc (suc j)) l =
      let q : ℕ = p ^ m in
      let s : suc (length (Q.mul (N (suc j) (positive_suc j)) (lower (suc j))).0)
      ≡ length (N (suc j) (positive_suc j)).0 + length (lower (suc j)).0 =
      EU.size_mul (N (suc j) (positive_suc j)) (lower (suc j))
      (Euclidean.monic_not_zero EU (N (suc j) (positive_suc j))
      (fixing_monic P Fc (q ^ suc j) (above (suc j) (positive_suc j))))
      (Euclidean.monic_not_zero EU (lower (suc j)) (lower_monic (suc j))) in
      let r : q ^ suc j * 2 ≤ q ^ suc j * q = mul-le-mul_left (q ^ suc j) (above_one K) in
      omega (
        arith,
        s,
        r,
        length_fixing_polynomial P Fc (q ^ suc j)
            (above (suc j) (positive_suc j)),
        lower_small (suc j) (omega arith),
        pow-suc q (suc j),
      )

  lower_divided : (d j : ℕ) (l : 0 < j) → j < d
      → Divisibility.Divides (polynomial_ops P Fc.ring) (N j l) (lower d)
  unfolding lower
  lower_divided zero j l r = absurd (omega arith)
  lower_divided (suc zero) j l r = absurd (omega arith)
  lower_divided (suc (suc i)) j l r = ⊎_elim
      (λ e. Divisibility.divides_same EU.ring (ap₂ Q.mul (same_power e) refl)
      (Divisibility.divides_product_left EU.ring (N j l) (lower (suc i))))
      (λ n. Divisibility.divides_multiple EU.ring (N (suc i) (positive_suc i))
      (lower_divided (suc i) j l (omega arith)))
      (cases_eq j (suc i))
    where
      same_power : j ≡ suc i → N j l ≡ N (suc i) (positive_suc i)
      same_power e = same_polynomial P Fc.ring (N j l) (N (suc i) (positive_suc i))
          (ap (λ t. map (underlying c) (fixing k ((p ^ m) ^ t))) e)

  -- **there is a monic irreducible polynomial of each degree**
  pub irreducible_exists : (d : ℕ) → 0 < d
      → (f : Polynomial c) × IsMonic c f.0 × IsIrreducible c f.0 × (degree f.0 ≡ d)
  irreducible_exists d l = found (irreducible_divisor_exists P Fc finite_carrier s.0 s.1 large)
    where
      M : Polynomial c
      M = N d l

      not_zero : M ≢ Q.zero
      not_zero = Euclidean.monic_not_zero EU M (fixing_monic P Fc ((p ^ m) ^ d) (above d l))

      g : (g : Polynomial c) × Gcd Q M (lower d) g
      g = Gcd.gcd_exists EU M (lower d)

      s : Polynomial c
      s = g.1.divides_first.quotient

      large : 1 < length s.0
      large = omega (
        arith,
        Euclidean.size_of_quotient EU g.1.divides_first not_zero,
        length_fixing_polynomial P Fc ((p ^ m) ^ d) (above d l),
        lower_small d l,
        Euclidean.size_of_divisor EU g.1.divides_second
            (Euclidean.monic_not_zero EU (lower d) (lower_monic d)),
      )

      s_divides : Divisibility.Divides Q s M
      s_divides = Divisibility.divides_same EU.ring g.1.divides_first.identity
          (Divisibility.divides_product_left EU.ring s g.0)

      found : (e : List X) × IsMonic c e × IsIrreducible c e × Divides c e s.0
          → (f : Polynomial c) × IsMonic c f.0 × IsIrreducible c f.0 × (degree f.0 ≡ d)
      found e =
          let f : Polynomial c = (e.0, e.2.polynomial) in
          let df : Divisibility.Divides Q f s = divides_from P Fc f s e.3 in
          let dm : Divisibility.Divides Q f M = Divisibility.divides_trans EU.ring df s_divides in
          let r : d % degree e.0 ≡ 0 =
          factor_degree_divides f e.1 e.2 d l (divides_to P Fc f M dm) in
          let positive : 0 < degree e.0 = let n : 1 < length e.0 = e.2.not_constant in
          omega arith in
          ⊎_elim
          (λ w. absurd (let one : length e.0 ≡ 1 = fixing_square_free d l f (squared f df
          (Divisibility.divides_trans EU.ring
          (divides_from P Fc f (N (degree e.0) positive) (divides_own f e.1 e.2 positive))
          (lower_divided d (degree e.0) positive w)) dm) in
          let n : 1 < length e.0 = e.2.not_constant in omega arith))
          (λ w. (f, e.1, e.2, omega (arith, w, le_of_dvd l (dvd_of_mod-eq-zero (degree e.0) r))))
          (cases_lt (degree e.0) d)
        where
          -- a factor of s that divides the greatest common divisor too divides x^(q^d) - x twice
          squared : (f : Polynomial c) → Divisibility.Divides Q f s → Divisibility.Divides Q f (lower d)
              → Divisibility.Divides Q f M → Divisibility.Divides Q (Q.mul f f) M
          squared f df dl dm =
              let dg : Divisibility.Divides Q f g.0 = Gcd.gcd_greatest EU.ring g.1 dm dl in
              record {
                quotient = Q.mul df.quotient dg.quotient;
                identity = two_squares EU.ring df.quotient dg.quotient f
                    ∙ ap₂ Q.mul df.identity dg.identity ∙ g.1.divides_first.identity;
              }
