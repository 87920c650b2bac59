-- Polynomials modulo g, the powers y^(p^i) modulo g, and what of g splits.
use Rattle.std.proofs.Common.{◌≡◌, ◌≢◌, ◌↔◌, ℕ, zero, suc, ◌+◌, ◌*◌, ◌^◌, ◌<◌, List, [], ◌∷◌, All, AllPairs, length, map, slice_index_or, refl, ap, ap₂, sym, ◌∙◌, subst, arith, pow-suc, mul-zero, mul-suc}
use Rattle.std.specs.List.{Contains}
use Rattle.std.proofs.Math.Nat.{pow-zero}
use Rattle.std.proofs.lemmas.List.{length-map}
use Rattle.alg_model.specs.Coefficients.{Ops, power, times}
use Rattle.alg_model.specs.Polynomials.{scale, trim, poly_sum, poly_difference, poly_product, poly_power, evaluate}
use Rattle.alg_model.specs.Factors.{IsPolynomial, IsDivision, IsGreatestCommonDivisor, Divides}
use Rattle.alg_model.specs.Maps.{Field, IsFiniteField, field_values, degree_of}
use Rattle.alg_model.specs.Roots.{IsRoot}
use Rattle.alg_rings.specs.Laws.{RingLaws}
use Rattle.alg_rings.proofs.Rings
use Rattle.alg_rings.proofs.Powers
use Rattle.alg_rings.proofs.Lists
use Rattle.alg_rings.proofs.Modulo
use Rattle.alg_rings.proofs.Modulo.{Same}
use Rattle.alg_rings.proofs.Elements.{Element, underlying, element_ops, element_laws, underlying_injective, underlying_homomorphism, elements, elements_are}
use Rattle.alg_rings.proofs.Homomorphisms.{power-map, place-map}
use Rattle.alg_rings.proofs.Divisors.{Polynomial, polynomial_ops, polynomial_laws, same_polynomial, power_is, length_poly_product}
use Rattle.alg_rings.proofs.CarrierPolynomials.{nil_polynomial, poly_sum_polynomial, poly_difference_polynomial, poly_product_polynomial, poly_power_polynomial, trim_product_first, trim_polynomial}
use Rattle.alg_rings.proofs.Validity.{value_at_valid, scale_valid}
use Rattle.alg_rings.proofs.Trims.{length_poly_difference}
use Rattle.alg_divisors.proofs.EuclideanPolynomials.{one_is}
use Rattle.alg_divisors.proofs.PolynomialFactors.{divides_to, divides_from}
use Rattle.alg_fields.proofs.Constants.{constant, constant_homomorphism, alone}
use Rattle.alg_fields.proofs.Generator.{generator, polynomial_is_value}
use Rattle.alg_fields.proofs.Derivations.{polynomial_characteristic}
use Rattle.alg_linear.specs.PrivateGrids.{total}
use Rattle.alg_linear.proofs.Sums.{total_last, total_same}
use Rattle.alg_finite.proofs.FiniteField.{above_one, pow_one}
use Rattle.alg_galois.proofs.Fields.{modulus_of, finite}
use Rattle.alg_galois.proofs.FieldSizes.{all_values, power_of_size}
use Rattle.alg_splitting.specs.PrivateSearch.{Splits, variable, poly_total, AreCongruent, IsFrobeniusModulo, IsFrobeniusAtRoots}
use Rattle.alg_splitting.proofs.ValueLaws.{values_set, values_ring, values_field}
use Rattle.alg_splitting.proofs.PolynomialValues.{value_of_difference, value_of_power, value_of_variable, value_of_multiple, power_of_value}
use Rattle.alg_splitting.proofs.SplitPolynomials.{linear_splits, split_divisor, roots_bounded}
use Rattle.alg_splitting.proofs.RootDivisors.{divisor_root, gcd_root}

module _ (F : Field) (W : IsFiniteField F) where
  abbrev Q : Ops (Polynomial (field_values F))
  Q = polynomial_ops (values_set F) (values_ring F W)

  abbrev L : RingLaws (polynomial_ops (values_set F) (values_ring F W))
  L = polynomial_laws (values_set F) (values_ring F W)

  -- the polynomial y
  pub variable_polynomial : IsPolynomial (field_values F) (variable F)
  variable_polynomial =
      (linear_splits F W (field_values F).ops.zero (values_ring F W).zero_valid).polynomial

  abbrev y : Polynomial (field_values F)
  y = (variable F, variable_polynomial)

  -- congruence of lists, and in the ring of polynomials
  to_same : (g a b : Polynomial (field_values F)) → AreCongruent F g.0 a.0 b.0
      → Same (polynomial_ops (values_set F) (values_ring F W)) g a b
  to_same g a b (q, vq, e) = Modulo.same_from_divides L (record {
    quotient = (q, vq);
    identity = same_polynomial (values_set F) (values_ring F W) _ _ e;
  })

  from_same : (g a b : Polynomial (field_values F))
      → Same (polynomial_ops (values_set F) (values_ring F W)) g a b → AreCongruent F g.0 a.0 b.0
  from_same g a b s = let d = Modulo.divides_from_same L s in
      (d.quotient.0, d.quotient.1, ap (λ w. w.0) d.identity)

  -- the same for powers of y
  to_power : (g a : Polynomial (field_values F)) (m : ℕ)
      → AreCongruent F g.0 a.0 (poly_power (field_values F).ops (variable F) m)
      → Same (polynomial_ops (values_set F) (values_ring F W)) g a
      (power (polynomial_ops (values_set F) (values_ring F W)) (variable F, variable_polynomial) m)
  to_power g a m s = to_same g a (power Q y m)
      (subst (AreCongruent F g.0 a.0) (sym (power_is (values_set F) (values_ring F W) y m)) s)

  from_power : (g a : Polynomial (field_values F)) (m : ℕ)
      → Same (polynomial_ops (values_set F) (values_ring F W)) g a
      (power (polynomial_ops (values_set F) (values_ring F W)) (variable F, variable_polynomial) m)
      → AreCongruent F g.0 a.0 (poly_power (field_values F).ops (variable F) m)
  from_power g a m s = subst (AreCongruent F g.0 a.0)
      (power_is (values_set F) (values_ring F W) y m) (from_same g a (power Q y m) s)

  power_polynomial : (m : ℕ)
      → IsPolynomial (field_values F) (poly_power (field_values F).ops (variable F) m)
  power_polynomial m = poly_power_polynomial (values_set F) (values_ring F W) (variable F) m
      variable_polynomial

  -- a sum of polynomials, in the ring of polynomials and as lists
  total_list : (n : ℕ) (f : ℕ → Polynomial (field_values F))
      → (total (polynomial_ops (values_set F) (values_ring F W)) n f).0
      ≡ poly_total (field_values F).ops n (λ j. (f j).0)
  total_list zero f = refl
  total_list (suc n) f = ap (λ w. w.0) (total_last L n f)
      ∙ ap (λ w. poly_sum (field_values F).ops w (f n).0) (total_list n f)

  -- a multiple of a polynomial by a constant
  scaled : (b : Element (field_values F)) (f : Polynomial (field_values F))
      → (polynomial_ops (values_set F) (values_ring F W)).mul
      (constant (values_set F) (values_ring F W) b) f
      ≡ (
        trim (field_values F).ops (scale (field_values F).ops b.0 f.0),
        trim_polynomial (values_set F) (values_ring F W) (scale (field_values F).ops b.0 f.0)
            (scale_valid (values_ring F W) b.0 f.0 b.1 f.1.0),
      )
  scaled b f = same_polynomial (values_set F) (values_ring F W) _ _
      (trim_product_first (values_set F) (values_ring F W) (b.0 ∷ []) f.0
      (alone (values_set F) (values_ring F W) b) f.1.0
      ∙ ap (trim (field_values F).ops)
      (Lists.sum_nil (field_values F).ops (scale (field_values F).ops b.0 f.0)))

  -- **the power p of a polynomial has the powers p of its coefficients at the powers of y^p**
  module _ (a : Polynomial (field_values F)) where
    abbrev E : Ops (Element (field_values F))
    E = element_ops (values_ring F W)

    -- the power p of the coefficient at j
    coefficient_power : ℕ → Element (field_values F)
    coefficient_power j = power E
        (slice_index_or (elements (field_values F) a.0 a.1.0) j E.zero) F.characteristic

    coefficient_power_is : (j : ℕ) → (coefficient_power j).0
        ≡ power (field_values F).ops (slice_index_or a.0 j (field_values F).ops.zero)
        F.characteristic
    unfolding coefficient_power
    coefficient_power_is j =
        power-map (underlying_homomorphism (values_ring F W))
        (slice_index_or (elements (field_values F) a.0 a.1.0) j E.zero) F.characteristic
        ∙ ap (λ w. power (field_values F).ops w F.characteristic)
        (place-map (underlying_homomorphism (values_ring F W))
        (elements (field_values F) a.0 a.1.0) j
        ∙ ap (λ w. slice_index_or w j (field_values F).ops.zero)
        (elements_are (field_values F) a.0 a.1.0))

    -- times the power of y
    term : ℕ → Polynomial (field_values F)
    term j = Q.mul (constant (values_set F) (values_ring F W) (coefficient_power j))
        (power Q y (F.characteristic * j))

    power_by_terms : power (polynomial_ops (values_set F) (values_ring F W)) a F.characteristic
        ≡ total (polynomial_ops (values_set F) (values_ring F W)) (length a.0) term
    unfolding coefficient_power term
    power_by_terms =
        ap (λ w. power Q w F.characteristic)
        (sym (polynomial_is_value (values_set F) (values_ring F W) a))
        ∙ power_of_value L F.characteristic W.characteristic characteristic
        (map (constant (values_set F) (values_ring F W)) (elements (field_values F) a.0 a.1.0))
        (generator (values_set F) (values_ring F W))
        ∙ ap (λ n. total Q n (λ j. Q.mul (power Q
        (slice_index_or (map (constant (values_set F) (values_ring F W))
        (elements (field_values F) a.0 a.1.0)) j Q.zero) F.characteristic)
        (power Q (generator (values_set F) (values_ring F W)) (F.characteristic * j))))
        (length-map (elements (field_values F) a.0 a.1.0)
        (constant (values_set F) (values_ring F W))
        ∙ sym (length-map (elements (field_values F) a.0 a.1.0) (underlying (field_values F)))
        ∙ ap length (elements_are (field_values F) a.0 a.1.0))
        ∙ total_same Q (length a.0) _ _ (λ j l. ap₂ Q.mul
        (ap (λ w. power Q w F.characteristic)
        (sym (place-map (constant_homomorphism (values_set F) (values_ring F W))
        (elements (field_values F) a.0 a.1.0) j))
        ∙ sym (power-map (constant_homomorphism (values_set F) (values_ring F W))
        (slice_index_or (elements (field_values F) a.0 a.1.0) j E.zero) F.characteristic))
        (ap (λ w. power Q w (F.characteristic * j))
        (same_polynomial (values_set F) (values_ring F W)
        (generator (values_set F) (values_ring F W)) y variable_polynomial.1)))
      where
        characteristic : times Q F.characteristic Q.one ≡ Q.zero
        characteristic = polynomial_characteristic (values_set F) (values_ring F W) F.characteristic
            W.characteristic
            (finite F.characteristic W.characteristic F.polynomial (modulus_of F W)).characteristic

  -- a power of y has one coefficient more than its exponent
  length_power : (m : ℕ) → length (poly_power (field_values F).ops (variable F) m) ≡ suc m
  length_power zero = ap length (one_is (values_set F) (values_field F W))
  length_power (suc m) = omega (
    arith,
    length_poly_product (values_set F) (values_field F W)
        (poly_power (field_values F).ops (variable F) m) (variable F) (power_polynomial m)
        variable_polynomial
        (λ e. absurd (let l : suc m ≡ 0 = sym (length_power m) ∙ ap length e in omega arith))
        (λ e. absurd (let l : 2 ≡ 0 = ap length e in omega arith)),
    length_power m,
  )

  -- sums of polynomials are polynomials
  pub total_polynomial : (n : ℕ) (f : ℕ → List (List ℕ))
      → ((k : ℕ) → k < n → IsPolynomial (field_values F) (f k))
      → IsPolynomial (field_values F) (poly_total (field_values F).ops n f)
  total_polynomial zero f vf = nil_polynomial (values_set F) (values_ring F W)
  total_polynomial (suc n) f vf = poly_sum_polynomial (values_set F) (values_ring F W)
      (poly_total (field_values F).ops n f) (f n)
      (total_polynomial n f (λ k l. vf k (omega arith))) (vf n (omega arith))

  -- **each value is a root of y^(p^n) - y**
  pub all_values_are_roots : (v : List ℕ) → (field_values F).Valid v
      → IsRoot F (poly_difference (field_values F).ops
      (poly_power (field_values F).ops (variable F) (F.characteristic ^ degree_of F))
      (variable F)) v
  all_values_are_roots v vv = (
    vv,
    value_of_difference (values_set F) (values_ring F W) v vv
        (poly_power (field_values F).ops (variable F) (F.characteristic ^ degree_of F)) (variable F)
        (power_polynomial (F.characteristic ^ degree_of F)).0 variable_polynomial.0
        ∙ ap₂ (λ s t. (field_values F).ops.add s ((field_values F).ops.neg t))
        (value_of_power (values_set F) (values_ring F W) v vv (variable F) variable_polynomial.0
        (F.characteristic ^ degree_of F)
        ∙ ap (λ w. power (field_values F).ops w (F.characteristic ^ degree_of F))
        (value_of_variable (values_set F) (values_ring F W) v vv)
        ∙ power_of_size F W v vv)
        (value_of_variable (values_set F) (values_ring F W) v vv)
        ∙ (values_ring F W).add_neg v vv,
  )

  -- **which splits**
  pub all_values_split : Splits F (poly_difference (field_values F).ops
      (poly_power (field_values F).ops (variable F) (F.characteristic ^ degree_of F)) (variable F))
  all_values_split = record {
    polynomial = is_polynomial;
    not_zero = not_zero;
    roots = all.0;
    count = omega (
      arith,
      all.1,
      roots_bounded F W h is_polynomial not_zero all.0 all.3 are_roots,
      length_poly_difference (field_values F).ops
          (poly_power (field_values F).ops (variable F) q) (variable F),
      length_power q,
      large,
    );
    different = all.3;
    are_roots = are_roots;
  }
    where
      q : ℕ
      q = F.characteristic ^ degree_of F

      large : 1 < q
      large = above_one (finite F.characteristic W.characteristic F.polynomial (modulus_of F W))

      h : List (List ℕ)
      h = poly_difference (field_values F).ops (poly_power (field_values F).ops (variable F) q)
          (variable F)

      all : (xs : List (List ℕ)) × (length xs ≡ q) × All (field_values F).Valid xs
          × AllPairs (λ a b. a ≢ b) xs
          × ((a : List ℕ) → (field_values F).Valid a → Contains xs a)
      all = all_values F W

      is_polynomial : IsPolynomial (field_values F) h
      is_polynomial = poly_difference_polynomial (values_set F) (values_ring F W)
          (poly_power (field_values F).ops (variable F) q) (variable F) (power_polynomial q)
          variable_polynomial

      not_zero : h ≢ []
      not_zero e =
          let same : poly_power (field_values F).ops (variable F) q ≡ variable F =
          ap (λ w. w.0) (Rings.same_from_difference L
          (poly_power (field_values F).ops (variable F) q, power_polynomial q) y
          (same_polynomial (values_set F) (values_ring F W) _ _ e)) in
          let long : suc q ≡ 2 = sym (length_power q) ∙ ap length same in
          omega (arith, large)

      are_roots : All (IsRoot F h) all.0
      are_roots k d l = all_values_are_roots (slice_index_or all.0 k d) (all.2 k d l)

  module _ (g : List (List ℕ)) (vg : IsPolynomial (field_values F) g) where
    abbrev G : Polynomial (field_values F)
    G = (g, vg)

    -- congruence is reflexive,
    pub congruent_itself : (a : List (List ℕ)) → IsPolynomial (field_values F) a
        → AreCongruent F g a a
    congruent_itself a va = from_same G (a, va) (a, va) (Modulo.same_itself L G (a, va))

    -- symmetric
    pub congruent_back : (a b : List (List ℕ)) → IsPolynomial (field_values F) a
        → IsPolynomial (field_values F) b → AreCongruent F g a b → AreCongruent F g b a
    congruent_back a b va vb s = from_same G (b, vb) (a, va)
        (Modulo.same_back L (to_same G (a, va) (b, vb) s))

    -- and transitive
    pub congruent_through : (a b d : List (List ℕ)) → IsPolynomial (field_values F) a
        → IsPolynomial (field_values F) b → IsPolynomial (field_values F) d
        → AreCongruent F g a b → AreCongruent F g b d → AreCongruent F g a d
    congruent_through a b d va vb vd s t = from_same G (a, va) (d, vd)
        (Modulo.same_trans L (to_same G (a, va) (b, vb) s) (to_same G (b, vb) (d, vd) t))

    by_division : (a q r : List (List ℕ)) (va : IsPolynomial (field_values F) a)
        (D : IsDivision (field_values F) a g q r)
        → Same (polynomial_ops (values_set F) (values_ring F W)) (g, vg) (r, D.remainder) (a, va)
    by_division a q r va D = Modulo.same_back L (record {
      quotient = (q, D.quotient);
      identity = same_polynomial (values_set F) (values_ring F W) _ _ (sym D.identity);
    })

    -- a remainder by g is congruent to the dividend
    pub congruent_remainder : (a q r : List (List ℕ)) → IsPolynomial (field_values F) a
        → IsDivision (field_values F) a g q r → AreCongruent F g r a
    congruent_remainder a q r va D = from_same G (r, D.remainder) (a, va) (by_division a q r va D)

    -- products of congruent polynomials are congruent
    pub congruent_product : (a b d e : List (List ℕ)) → IsPolynomial (field_values F) a
        → IsPolynomial (field_values F) b → IsPolynomial (field_values F) d
        → IsPolynomial (field_values F) e → AreCongruent F g a b → AreCongruent F g d e
        → AreCongruent F g (poly_product (field_values F).ops a d)
        (poly_product (field_values F).ops b e)
    congruent_product a b d e va vb vd ve s t = from_same G (Q.mul (a, va) (d, vd))
        (Q.mul (b, vb) (e, ve))
        (Modulo.same_product L (to_same G (a, va) (b, vb) s) (to_same G (d, vd) (e, ve) t))

    -- so are sums
    pub congruent_sum : (a b d e : List (List ℕ)) → IsPolynomial (field_values F) a
        → IsPolynomial (field_values F) b → IsPolynomial (field_values F) d
        → IsPolynomial (field_values F) e → AreCongruent F g a b → AreCongruent F g d e
        → AreCongruent F g (poly_sum (field_values F).ops a d) (poly_sum (field_values F).ops b e)
    congruent_sum a b d e va vb vd ve s t = from_same G (Q.add (a, va) (d, vd))
        (Q.add (b, vb) (e, ve))
        (Modulo.same_sum L (to_same G (a, va) (b, vb) s) (to_same G (d, vd) (e, ve) t))

    -- sums of many
    pub congruent_total : (n : ℕ) (s t : ℕ → List (List ℕ))
        → ((k : ℕ) → k < n → IsPolynomial (field_values F) (s k))
        → ((k : ℕ) → k < n → IsPolynomial (field_values F) (t k))
        → ((k : ℕ) → k < n → AreCongruent F g (s k) (t k))
        → AreCongruent F g (poly_total (field_values F).ops n s)
        (poly_total (field_values F).ops n t)
    congruent_total zero s t vs vt c =
        congruent_itself [] (nil_polynomial (values_set F) (values_ring F W))
    congruent_total (suc n) s t vs vt c =
        congruent_sum (poly_total (field_values F).ops n s) (poly_total (field_values F).ops n t)
        (s n) (t n) (total_polynomial n s (λ k l. vs k (omega arith)))
        (total_polynomial n t (λ k l. vt k (omega arith))) (vs n (omega arith)) (vt n (omega arith))
        (congruent_total n s t (λ k l. vs k (omega arith)) (λ k l. vt k (omega arith))
        (λ k l. c k (omega arith))) (c n (omega arith))

    -- and powers
    pub congruent_power : (a b : List (List ℕ)) → IsPolynomial (field_values F) a
        → IsPolynomial (field_values F) b → AreCongruent F g a b → (n : ℕ)
        → AreCongruent F g (poly_power (field_values F).ops a n)
        (poly_power (field_values F).ops b n)
    congruent_power a b va vb s n =
        subst (λ w. AreCongruent F g w (poly_power (field_values F).ops b n))
        (power_is (values_set F) (values_ring F W) (a, va) n)
        (subst (AreCongruent F g (power Q (a, va) n).0)
        (power_is (values_set F) (values_ring F W) (b, vb) n)
        (from_same G (power Q (a, va) n) (power Q (b, vb) n)
        (Modulo.same_power L (to_same G (a, va) (b, vb) s) n)))

    -- **congruent polynomials have one value at each root of g**
    pub congruent_at_root : (a b : List (List ℕ)) → IsPolynomial (field_values F) a
        → IsPolynomial (field_values F) b → AreCongruent F g a b → (v : List ℕ) → IsRoot F g v
        → evaluate (field_values F).ops a v ≡ evaluate (field_values F).ops b v
    congruent_at_root a b va vb s v r = ap (λ w. w.0)
        (Rings.same_from_difference (element_laws (values_set F) (values_ring F W))
        (evaluate (field_values F).ops a v, value_at_valid (values_ring F W) a v va.0 r.0)
        (evaluate (field_values F).ops b v, value_at_valid (values_ring F W) b v vb.0 r.0)
        (underlying_injective (values_set F) _ _
        (sym (value_of_difference (values_set F) (values_ring F W) v r.0 a b va.0 vb.0)
        ∙ value_of_multiple (values_set F) (values_ring F W) v r.0 g
        (poly_difference (field_values F).ops a b) vg.0 s r.1)))

    -- ---- the powers y^(p^i)
    -- y is the first
    pub frobenius_start : IsFrobeniusModulo F g 0 (variable F)
    frobenius_start =
        subst (λ m. AreCongruent F g (variable F) (poly_power (field_values F).ops (variable F) m))
        (sym (pow-zero F.characteristic))
        (from_power G y 1 (Modulo.same_from_equal L (sym (Powers.power_one L y))))

    -- **the remainder of the power p is the next one**
    pub frobenius_next : (i : ℕ) (a q r : List (List ℕ)) → IsPolynomial (field_values F) a
        → IsFrobeniusModulo F g i a
        → IsDivision (field_values F) (poly_power (field_values F).ops a F.characteristic) g q r
        → IsFrobeniusModulo F g (suc i) r
    frobenius_next i a q r va s D =
        from_power G (r, D.remainder) (F.characteristic ^ suc i)
        (Modulo.same_trans L
        (by_division (poly_power (field_values F).ops a F.characteristic) q r
        (poly_power_polynomial (values_set F) (values_ring F W) a F.characteristic va) D)
        (Modulo.same_trans L
        (Modulo.same_from_equal L (same_polynomial (values_set F) (values_ring F W) _ _
        (sym (power_is (values_set F) (values_ring F W) (a, va) F.characteristic))))
        (Modulo.same_trans L
        (Modulo.same_power L (to_power G (a, va) (F.characteristic ^ i) s) F.characteristic)
        (Modulo.same_from_equal L (Powers.power_power L y (F.characteristic ^ i) F.characteristic
        ∙ ap (power Q y) (sym (pow-suc F.characteristic i)))))))

    -- a remainder of one is one
    pub frobenius_remainder : (i : ℕ) (a q r : List (List ℕ)) → IsPolynomial (field_values F) a
        → IsFrobeniusModulo F g i a → IsDivision (field_values F) a g q r
        → IsFrobeniusModulo F g i r
    frobenius_remainder i a q r va s D = from_power G (r, D.remainder) (F.characteristic ^ i)
        (Modulo.same_trans L (by_division a q r va D) (to_power G (a, va) (F.characteristic ^ i) s))

    -- ---- by a table of the powers of w = y^p
    -- one is the first
    pub table_start : AreCongruent F g ((field_values F).ops.one ∷ [])
        (poly_power (field_values F).ops (variable F) (F.characteristic * 0))
    table_start =
        subst (λ m. AreCongruent F g ((field_values F).ops.one ∷ [])
        (poly_power (field_values F).ops (variable F) m))
        (sym (mul-zero F.characteristic))
        (subst (λ w. AreCongruent F g w
        (trim (field_values F).ops ((field_values F).ops.one ∷ [])))
        (one_is (values_set F) (values_field F W))
        (congruent_itself (trim (field_values F).ops ((field_values F).ops.one ∷ []))
        (power_polynomial 0)))

    -- **the remainder of one times w is the next one**
    pub table_next : (j : ℕ) (t w q r : List (List ℕ)) → IsPolynomial (field_values F) t
        → IsPolynomial (field_values F) w
        → AreCongruent F g t (poly_power (field_values F).ops (variable F) (F.characteristic * j))
        → IsFrobeniusModulo F g 1 w
        → IsDivision (field_values F) (poly_product (field_values F).ops t w) g q r
        → AreCongruent F g r
        (poly_power (field_values F).ops (variable F) (F.characteristic * suc j))
    table_next j t w q r vt vw s f D =
        let sum_is : F.characteristic * j + F.characteristic ^ 1 ≡ F.characteristic * suc j =
        omega (arith, pow_one F.characteristic, mul-suc F.characteristic j) in
        from_power G (r, D.remainder) (F.characteristic * suc j)
        (Modulo.same_trans L
        (by_division (poly_product (field_values F).ops t w) q r
        (poly_product_polynomial (values_set F) (values_ring F W) t w vt vw) D)
        (Modulo.same_trans L
        (Modulo.same_from_equal L (same_polynomial (values_set F) (values_ring F W) _
        (Q.mul (t, vt) (w, vw)) refl))
        (Modulo.same_trans L
        (Modulo.same_product L (to_power G (t, vt) (F.characteristic * j) s)
        (to_power G (w, vw) (F.characteristic ^ 1) f))
        (Modulo.same_from_equal L
        (sym (Powers.power_add L y (F.characteristic * j) (F.characteristic ^ 1))
        ∙ ap (power Q y) sum_is)))))

    -- **the coefficients' powers p times the powers of y^p are the next one**
    pub frobenius_by_table : (i : ℕ) (a : List (List ℕ)) → IsPolynomial (field_values F) a
        → IsFrobeniusModulo F g i a → (t : ℕ → List (List ℕ))
        → ((j : ℕ) → j < length a → IsPolynomial (field_values F) (t j))
        → ((j : ℕ) → j < length a → AreCongruent F g (t j)
        (poly_power (field_values F).ops (variable F) (F.characteristic * j)))
        → IsFrobeniusModulo F g (suc i) (poly_total (field_values F).ops (length a)
        (λ j. trim (field_values F).ops (scale (field_values F).ops
        (power (field_values F).ops (slice_index_or a j (field_values F).ops.zero) F.characteristic)
        (t j))))
    unfolding term
    frobenius_by_table i a va s t vt st = congruent_through sums
        (poly_total (field_values F).ops (length a) (λ j. (term (a, va) j).0))
        (poly_power (field_values F).ops (variable F) (F.characteristic ^ suc i))
        (total_polynomial (length a) summand summand_polynomial)
        (total_polynomial (length a) (λ j. (term (a, va) j).0) (λ j l. (term (a, va) j).1))
        (power_polynomial (F.characteristic ^ suc i))
        (congruent_total (length a) summand (λ j. (term (a, va) j).0) summand_polynomial
        (λ j l. (term (a, va) j).1) summand_congruent)
        (subst (λ w. AreCongruent F g w
        (poly_power (field_values F).ops (variable F) (F.characteristic ^ suc i)))
        (ap (λ w. w.0) (power_by_terms (a, va)) ∙ total_list (length a) (term (a, va)))
        (from_power G (power Q (a, va) F.characteristic) (F.characteristic ^ suc i)
        (Modulo.same_trans L
        (Modulo.same_power L (to_power G (a, va) (F.characteristic ^ i) s) F.characteristic)
        (Modulo.same_from_equal L (Powers.power_power L y (F.characteristic ^ i) F.characteristic
        ∙ ap (power Q y) (sym (pow-suc F.characteristic i)))))))
      where
        summand : ℕ → List (List ℕ)
        summand j = trim (field_values F).ops (scale (field_values F).ops
            (power (field_values F).ops (slice_index_or a j (field_values F).ops.zero)
            F.characteristic) (t j))

        sums : List (List ℕ)
        sums = poly_total (field_values F).ops (length a) summand

        summand_is : (j : ℕ) (l : j < length a)
            → (Q.mul (constant (values_set F) (values_ring F W) (coefficient_power (a, va) j))
            (t j, vt j l)).0 ≡ summand j
        summand_is j l = ap (λ w. w.0) (scaled (coefficient_power (a, va) j) (t j, vt j l))
            ∙ ap (λ w. trim (field_values F).ops (scale (field_values F).ops w (t j)))
            (coefficient_power_is (a, va) j)

        summand_polynomial : (j : ℕ) → j < length a → IsPolynomial (field_values F) (summand j)
        summand_polynomial j l = subst (IsPolynomial (field_values F)) (summand_is j l)
            (Q.mul (constant (values_set F) (values_ring F W) (coefficient_power (a, va) j))
            (t j, vt j l)).1

        summand_congruent : (j : ℕ) → j < length a
            → AreCongruent F g (summand j) (term (a, va) j).0
        summand_congruent j l = subst (λ w. AreCongruent F g w (term (a, va) j).0) (summand_is j l)
            (from_same G (Q.mul (constant (values_set F) (values_ring F W)
            (coefficient_power (a, va) j)) (t j, vt j l)) (term (a, va) j)
            (Modulo.same_product L (Modulo.same_itself L G _)
            (to_power G (t j, vt j l) (F.characteristic * j) (st j l))))

    -- ---- what they are for
    -- **at the roots of g they have the values v^(p^i)**
    pub frobenius_at_roots : (i : ℕ) (a : List (List ℕ)) → IsPolynomial (field_values F) a
        → IsFrobeniusModulo F g i a → IsFrobeniusAtRoots F g i a
    frobenius_at_roots i a va s = λ v r.
        congruent_at_root a (poly_power (field_values F).ops (variable F) (F.characteristic ^ i)) va
        (power_polynomial (F.characteristic ^ i)) s v r
        ∙ value_of_power (values_set F) (values_ring F W) v r.0 (variable F) variable_polynomial.0
        (F.characteristic ^ i)
        ∙ ap (λ w. power (field_values F).ops w (F.characteristic ^ i))
        (value_of_variable (values_set F) (values_ring F W) v r.0)

    module _ (nonzero : g ≢ []) (a : List (List ℕ)) (va : IsPolynomial (field_values F) a)
        (s : IsFrobeniusModulo F g (degree_of F) a) (h : List (List ℕ))
        (D : IsGreatestCommonDivisor (field_values F) g
        (poly_difference (field_values F).ops a (variable F)) h) where
      -- **the greatest common divisor of g and y^(p^n) - y splits**
      pub split_part_splits : Splits F h
      split_part_splits = split_divisor F W
          (poly_difference (field_values F).ops
          (poly_power (field_values F).ops (variable F) (F.characteristic ^ degree_of F))
          (variable F)) h all_values_split D.polynomial
          (subst (λ w. Divides (field_values F) h
          (poly_difference (field_values F).ops w (variable F)))
          (power_is (values_set F) (values_ring F W) y (F.characteristic ^ degree_of F))
          (divides_to (values_set F) (values_field F W) H
          (Q.add (power Q y (F.characteristic ^ degree_of F)) (Q.neg y))
          (Modulo.divides_across L
          (Modulo.same_sum L (Modulo.same_back L (Modulo.same_for_divisor L
          (divides_from (values_set F) (values_field F W) H G D.divides_first)
          (to_power G (a, va) (F.characteristic ^ degree_of F) s)))
          (Modulo.same_itself L H (Q.neg y)))
          (divides_from (values_set F) (values_field F W) H (Q.add (a, va) (Q.neg y))
          D.divides_second))))
        where
          H : Polynomial (field_values F)
          H = (h, D.polynomial)

      -- **and has the roots of g**
      pub split_part_roots : (v : List ℕ) → IsRoot F h v ↔ IsRoot F g v
      split_part_roots v = (
        divisor_root F W h g D.polynomial.0 D.divides_first v,
        (λ r. (gcd_root F W g (poly_difference (field_values F).ops a (variable F)) h vg
            (poly_difference_polynomial (values_set F) (values_ring F W) a (variable F) va
            variable_polynomial) D v).1 (
              r,
              (
                r.0,
                value_of_difference (values_set F) (values_ring F W) v r.0 a (variable F) va.0
                    variable_polynomial.0
                    ∙ ap₂ (λ s t. (field_values F).ops.add s ((field_values F).ops.neg t))
                    (frobenius_at_roots (degree_of F) a va s v r ∙ power_of_size F W v r.0)
                    (value_of_variable (values_set F) (values_ring F W) v r.0)
                    ∙ (values_ring F W).add_neg v r.0,
              ),
            )),
      )
