-- The criterion at the residues modulo a characteristic.
use Rattle.std.proofs.Common.{◌≡◌, ◌≢◌, ⊎_elim, ℕ, ◌-◌, ◌*◌, ◌<◌, ◌≤◌, List, [], ◌∷◌, length, slice_index, All, ap, sym, ◌∙◌, arith, subst}
use Rattle.std.proofs.lemmas.List.FromFn.{length-map-range_with_len}
use Rattle.std.proofs.lemmas.List.Elements.{All-from_get_or, All-cons, All-nil}
use Rattle.alg_model.specs.Coefficients.{mod_ops, residues, times, power, IsCharacteristic}
use Rattle.alg_model.specs.Polynomials.{trim, poly_product, derivative}
use Rattle.alg_model.specs.Factors.{IsPolynomial, IsMonic, IsIrreducible, IsProperFactor, IsGreatestCommonDivisor, Divides}
use Rattle.alg_model.specs.Fields.{IsRing, IsField}
use Rattle.alg_model.specs.Values.{degree}
use Rattle.alg_model.specs.Matrices.{Matrix, identity_matrix, zero_column, IsColumn, IsMatrix, IsIndependent}
use Rattle.alg_rings.proofs.ResidueFields.{residues_field, residues_propositional, two_le_characteristic}
use Rattle.alg_rings.specs.Laws.{IsPropositional}
use Rattle.alg_rings.proofs.Elements.{Element, element_ops}
use Rattle.alg_rings.proofs.Rings
use Rattle.alg_rings.proofs.Trims
use Rattle.alg_rings.proofs.Lists.{product_nil}
use Rattle.alg_rings.proofs.Validity.{place_valid}
use Rattle.alg_rings.proofs.CarrierPolynomials
use Rattle.alg_rings.proofs.Divisors.{polynomial_laws, same_polynomial, length_divisor}
use Rattle.alg_divisors.specs.Factorization.{AreCoprime}
use Rattle.alg_linear.proofs.Kernels.{independent_from_left}
use Rattle.alg_fields.specs.Fixed.{IsFixed, less_constant}
use Rattle.alg_fields.proofs.Derivatives.{length_derivative}
use Rattle.alg_rings.proofs.Primes.{characteristic_is_prime}
use Rattle.alg_model.specs.Coefficients.{IsPrime}
use Rattle.alg_fields.proofs.FiniteFields.{residues_characteristic}
use Rattle.alg_fields.proofs.OverResidues.{size_at_residues}
use Rattle.alg_fields.proofs.Certificates.{irreducible_from_certificate, fixed_splits}
use Rattle.ff_poly.specs.Polynomial.{IsPoly}
use Rattle.ff_poly.specs.Polynomial as poly
use Rattle.ff_matrix.specs.ModularMatrix.{IsModularMatrix}
use Rattle.ff_factor.specs.declared.certificates.Cert.{Cert}
use Rattle.ff_factor.specs.Certificates.{berlekamp_column, berlekamp_matrix, Certifies}
use Rattle.ff_factor.specs.PrivateSplitting.{IsNonzeroKernelColumn}
use Rattle.ff_factor.proofs.Certifying
use Rattle.ff_factor.proofs.RootsOfPowers

module _ (p : ℕ) (h : IsCharacteristic p) where
  abbrev P : IsPropositional (residues p)
  P = residues_propositional p

  abbrev F : IsField (residues p)
  F = residues_field p h

  prime : IsPrime p
  prime = characteristic_is_prime p h

  characteristic : times (element_ops F.ring) p (element_ops F.ring).one ≡ (element_ops F.ring).zero
  characteristic = residues_characteristic p F.ring

  fixed : (a : Element (residues p)) → power (element_ops F.ring) a p ≡ a
  fixed = (size_at_residues p (characteristic_is_prime p h)).fixed

  -- the polynomial with the coefficients at 0, p, 2 p, .. of one with derivative zero
  pub root_is_factor : (f g : List ℕ) → IsPolynomial (residues p) f → IsPolynomial (residues p) g → IsMonic (residues p) f → 1 < length f
      → derivative (mod_ops p) f ≡ [] → ((i : ℕ) → slice_index g i ≡ slice_index f (i * p)) → IsProperFactor (residues p) f g
  root_is_factor f g vf vg m l e at = RootsOfPowers.root_is_factor P F p prime characteristic fixed (f, vf) (g, vg) m l e at

  module _ (f : List ℕ) (v : IsPolynomial (residues p) f) (monic : IsMonic (residues p) f) (not_constant : 1 < length f) where
    pub matrix_valid : IsMatrix (residues p) (berlekamp_matrix (mod_ops p) p f)
    matrix_valid = Certifying.matrix_valid P F p prime characteristic fixed (f, v) not_constant monic

    length_columns : length (berlekamp_matrix (mod_ops p) p f).columns ≡ degree f - 1
    length_columns = length-map-range_with_len _ 1 (degree f - 1)

    pub irreducible_from_parts : AreCoprime (residues p) f (derivative (mod_ops p) f)
        → IsIndependent (residues p) (degree f) (berlekamp_matrix (mod_ops p) p f).columns → IsIrreducible (residues p) f
    irreducible_from_parts coprime independent =
        irreducible_from_certificate P F p f (omega (arith, two_le_characteristic p h)) v not_constant (record {
          separable = coprime;
          only_constants = Certifying.only_constants P F p prime characteristic fixed (f, v) not_constant monic independent;
        })

-- **a certified polynomial is irreducible**
pub certified_irreducible : (f : poly.Polynomial) (cert : Cert) → IsPoly f → IsMonic (residues f.prime) f.coefficients → 1 < length f.coefficients
    → IsPoly cert.u → IsPoly cert.w → IsModularMatrix cert.left → Certifies f cert → IsIrreducible (residues f.prime) f.coefficients
certified_irreducible f cert whole monic not_constant wu ww wl k =
    irreducible_from_parts f.prime whole.characteristic f.coefficients whole.polynomial monic not_constant (record {
      first = cert.u.coefficients;
      second = cert.w.coefficients;
      first_polynomial = subst (λ p. IsPolynomial (residues p) cert.u.coefficients) k.shape.primes.0 wu.polynomial;
      second_polynomial = subst (λ p. IsPolynomial (residues p) cert.w.coefficients) k.shape.primes.1 ww.polynomial;
      identity = k.separable;
    })
    (independent_from_left (residues_propositional f.prime) (residues_field f.prime whole.characteristic).ring B cert.left.matrix
    (matrix_valid f.prime whole.characteristic f.coefficients whole.polynomial monic not_constant)
    (subst (λ p. IsMatrix (residues p) cert.left.matrix) k.shape.primes.2 wl.entries)
    (sym k.shape.columns) (k.left_inverse ∙ ap (identity_matrix (mod_ops f.prime)) (sym (length-map-range_with_len _ 1 (degree f.coefficients - 1)))))
  where
    B : Matrix ℕ
    B = berlekamp_matrix (mod_ops f.prime) f.prime f.coefficients

module _ (p : ℕ) (h : IsCharacteristic p) where
  abbrev R : IsRing (residues p)
  R = (residues_field p h).ring

  -- numbers that stand in a list of residues are residues
  pub all_from_places : (f xs : List ℕ) (step : ℕ) → All (λ x. x < p) f → ((k : ℕ) → slice_index xs k ≡ slice_index f (k * step)) → All (λ x. x < p) xs
  all_from_places f xs step v at = All-from_get_or (λ x. x < p) xs 0
      (λ k l. subst (λ x. x < p) (sym (at k)) (place_valid R f (k * step) v))

  less_not_nil : (v : List ℕ) (a : ℕ) → IsPolynomial (residues p) v → a < p → 1 < length v → less_constant (mod_ops p) v a ≢ []
  less_not_nil v a vv la l z =
      let P = residues_propositional p in
      let vc : IsPolynomial (residues p) (trim (mod_ops p) (a ∷ [])) =
      CarrierPolynomials.trim_polynomial P R (a ∷ []) (All-cons (λ x. x < p) a [] la (All-nil (λ x. x < p))) in
      let same = ap (λ g. g.0) (Rings.same_from_difference (polynomial_laws P R) (v, vv) (trim (mod_ops p) (a ∷ []), vc) (same_polynomial P R _ _ z)) in
      absurd (omega (arith, ap length same, Trims.length_trim (mod_ops p) (a ∷ [])))

  length_less : (v : List ℕ) (a : ℕ) → 1 < length v → length (less_constant (mod_ops p) v a) ≤ length v
  length_less v a l =
      omega (arith, Trims.length_poly_difference (mod_ops p) v (trim (mod_ops p) (a ∷ [])), Trims.length_trim (mod_ops p) (a ∷ []))

  -- **a divisor that f has in common with v - a and that isn't 1**
  pub common_is_proper : (f v g : List ℕ) (a : ℕ) → IsPolynomial (residues p) v → a < p → 1 < length v → length v < length f
      → IsGreatestCommonDivisor (residues p) f (less_constant (mod_ops p) v a) g → 1 < length g → IsProperFactor (residues p) f g
  common_is_proper f v g a vv la l shorter k lg = record {
    polynomial = k.polynomial;
    monic = ⊎_elim (λ m. m) (λ z. absurd (omega (arith, ap length z))) k.monic_or_zero;
    not_constant = lg;
    smaller = omega (
      arith,
      length_divisor (residues_propositional p) (residues_field p h) g (less_constant (mod_ops p) v a) k.polynomial
          (less_not_nil v a vv la l) k.divides_second,
      length_less v a l,
    );
    divides = k.divides_first;
  }

  -- **a fixed v that isn't constant has such a divisor for some a**
  pub some_common : (f v : List ℕ) → IsPolynomial (residues p) f → IsPolynomial (residues p) v → 1 < length v → length v < length f
      → IsFixed (residues p) p f v
      → ((a : ℕ) → a < p → (g : List ℕ) → IsGreatestCommonDivisor (residues p) f (less_constant (mod_ops p) v a) g → length g ≤ 1) → ⊥
  some_common f v vf vv l shorter k none =
      let (a, la, s) = fixed_splits (residues_propositional p) (residues_field p h) p (size_at_residues p (characteristic_is_prime p h)) f v vf vv (omega arith) k in
      ⊎_elim
      (λ d. absurd (omega (
        arith,
        length_divisor (residues_propositional p) (residues_field p h) f (less_constant (mod_ops p) v a) vf
            (less_not_nil v a vv la l) d,
        length_less v a l,
      )))
      (λ (g, is_gcd, proper). let large : 1 < length g = proper.not_constant in absurd (omega (arith, none a la g is_gcd))) s

  -- **the polynomial of a column that the matrix sends to zero**
  pub kernel_gives_fixed : (f x : List ℕ) (v : IsPolynomial (residues p) f) → IsMonic (residues p) f → 1 < length f
      → IsNonzeroKernelColumn p (berlekamp_matrix (mod_ops p) p f) x
      → IsPolynomial (residues p) (trim (mod_ops p) (0 ∷ x)) × (1 < length (trim (mod_ops p) (0 ∷ x))) × (length (trim (mod_ops p) (0 ∷ x)) < length f)
      × IsFixed (residues p) p f (trim (mod_ops p) (0 ∷ x))
  kernel_gives_fixed f x v m l k =
      let P = residues_propositional p in
      let F = residues_field p h in
      let prime = characteristic_is_prime p h in
      let characteristic = residues_characteristic p R in
      let fixed = (size_at_residues p (characteristic_is_prime p h)).fixed in
      let long = length-map-range_with_len (berlekamp_column (mod_ops p) p f) 1 (degree f - 1) in
      let vx : IsColumn (residues p) (degree f - 1) x = (k.column.0 ∙ long, k.column.1) in (
        Certifying.kernel_polynomial P F p prime characteristic fixed (f, v) l m x vx,
        Certifying.kernel_not_constant P F p prime characteristic fixed (f, v) l m x vx (λ z. k.not_zero (z ∙ ap (zero_column (mod_ops p)) (sym long))),
        Certifying.kernel_shorter P F p prime characteristic fixed (f, v) l m x vx,
        Certifying.kernel_fixed P F p prime characteristic fixed (f, v) l m x vx k.sent,
      )

  -- **what f has in common with its derivative**
  pub derivative_common : (f g d : List ℕ) → 1 < length f → d ≡ derivative (mod_ops p) f → d ≢ [] → IsGreatestCommonDivisor (residues p) f d g
      → 1 < length g → IsProperFactor (residues p) f g
  derivative_common f g d l e n k lg =
      let shorter : length d < length f = subst (λ w. length w < length f) (sym e) (length_derivative (mod_ops p) f (omega arith)) in
      record {
        polynomial = k.polynomial;
        monic = ⊎_elim (λ m. m) (λ z. absurd (omega (arith, ap length z))) k.monic_or_zero;
        not_constant = lg;
        smaller = omega (arith, length_divisor (residues_propositional p) (residues_field p h) g d k.polynomial n k.divides_second);
        divides = k.divides_first;
      }

-- a greatest common divisor that is short is 1
pub gcd_is_one : (p : ℕ) (f d g : List ℕ) → 1 < length f → IsGreatestCommonDivisor (residues p) f d g → length g ≤ 1 → g ≡ 1 ∷ []
gcd_is_one p f d g l k s = ⊎_elim (λ m. single g s m) (λ z. absurd (omega (arith, ap length (nil_divides z k.divides_first)))) k.monic_or_zero
  where
    nil_divides : g ≡ [] → Divides (residues p) g f → f ≡ []
    nil_divides z (q, vq, e) =
        sym e ∙ ap (poly_product (mod_ops p) q) z ∙ ap (trim (mod_ops p)) (product_nil (mod_ops p) q)

    single : (g : List ℕ) → length g ≤ 1 → IsMonic (residues p) g → g ≡ 1 ∷ []
    single [] s m = absurd (omega (arith, m))
    single (x ∷ []) s m = ap (λ y. y ∷ []) m
    single (x ∷ y ∷ ys) s m = absurd (omega arith)
