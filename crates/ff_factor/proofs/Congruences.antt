-- Polynomials with one remainder modulo a monic f, powers of x, and the columns of v -> v^p - v by their places.
use Rattle.std.proofs.Common.{◌≡◌, ⊎_elim, ℕ, zero, suc, ◌-◌, ◌*◌, ◌<◌, ◌==◌, cond, List, [], ◌∷◌, map, length, replicate, slice_index_or, All, refl, ap, sym, ◌∙◌, arith, subst}
use Rattle.std.proofs.lemmas.Bool.{cases_eq, eq-eqb, ne_eqb}
use Rattle.std.proofs.lemmas.List.Elements.{All-cons, All-nil, All-take}
use Rattle.alg_model.specs.Coefficients.{Ops, Carrier}
use Rattle.alg_model.specs.Polynomials.{sum, scale, trim, shift, product, poly_product, poly_difference, poly_power}
use Rattle.alg_model.specs.Factors.{IsPolynomial, IsMonic, IsDivision}
use Rattle.alg_model.specs.Fields.{IsField}
use Rattle.alg_model.specs.Values.{degree, padded, times_x, remainder, values}
use Rattle.alg_model.specs.Matrices.{IsColumn}
use Rattle.alg_rings.specs.Laws.{IsPropositional}
use Rattle.alg_rings.proofs.Monomials.{monomial, monomial_at, monomial_elsewhere}
use Rattle.alg_rings.proofs.Homomorphisms
use Rattle.alg_rings.proofs.Elements.{underlying, element_ops, underlying_homomorphism, on_valid, element_laws}
use Rattle.alg_rings.proofs.CarrierPolynomials
use Rattle.alg_rings.proofs.Validity.{place_valid, sum_valid, scale_valid}
use Rattle.alg_rings.proofs.Divisors.{Polynomial, polynomial_ops, same_polynomial}
use Rattle.alg_divisors.proofs.Euclidean
use Rattle.alg_divisors.proofs.EuclideanPolynomials.{polynomials_euclidean}
use Rattle.alg_fields.proofs.FermatProduct.{leading_monomial}
use Rattle.alg_rings.proofs.Modulo
use Rattle.alg_rings.proofs.Modulo.{Same}
use Rattle.alg_fields.proofs.Classes.{class_of, remainder_same, remainder_valid}
use Rattle.alg_fields.proofs.ListRemainders.{length_remainder}
use Rattle.alg_fields.proofs.ValueFields.{values_ring}
use Rattle.alg_fields.proofs.Remainders.{remainder_equal, remainder_of_value, remainder_value, same_from_remainder, remainder_from_same}
use Rattle.alg_fields.proofs.Generator.{product_with_x}
use Rattle.ff_factor.specs.Certificates.{berlekamp_column}
use Rattle.ff_factor.proofs.BerlekampColumns.{variable, variable_polynomial}
use Rattle.ff_factor.proofs.TimesVariable.{length_times_x}

module _ {A : Type 0} {c : Carrier A} (P : IsPropositional c) (F : IsField c) where
  abbrev Q : Ops (Polynomial c)
  Q = polynomial_ops P F.ring

  abbrev U : Euclidean.EuclideanLaws (polynomial_ops P F.ring) (λ x. length x.0) (λ x. IsMonic c x.0)
  U = polynomials_euclidean P F

  -- ---- powers of x
  variable_on_valid : (xs : List A) → All c.Valid xs → product c.ops (variable c.ops) xs ≡ shift c.ops xs
  variable_on_valid xs v = on_valid c (λ xs. product c.ops (variable c.ops) xs ≡ shift c.ops xs)
      (λ X. let H = underlying_homomorphism F.ring in
      let E = element_ops F.ring in
      sym (Homomorphisms.product-map H (variable E) X) ∙ ap (map (underlying c)) (product_with_x (element_laws P F.ring) X)
      ∙ Homomorphisms.shift-map H X) xs v

  monomial_valid : (k : ℕ) → All c.Valid (monomial c.ops c.ops.one k)
  monomial_valid zero = All-cons c.Valid c.ops.one [] F.ring.one_valid (All-nil c.Valid)
  monomial_valid (suc k) = All-cons c.Valid c.ops.zero (monomial c.ops c.ops.one k) F.ring.zero_valid (monomial_valid k)

  monomial_polynomial : (k : ℕ) → IsPolynomial c (monomial c.ops c.ops.one k)
  monomial_polynomial k = (
    monomial_valid k,
    CarrierPolynomials.trimmed_from_leading P F.ring (monomial c.ops c.ops.one k) (monomial_valid k)
        (λ z. F.one_not_zero (sym (leading_monomial c.ops c.ops.one k) ∙ z)),
  )

  shift_monomial : (k : ℕ) → shift c.ops (monomial c.ops c.ops.one k) ≡ monomial c.ops c.ops.one (suc k)
  shift_monomial zero = refl
  shift_monomial (suc k) = refl

  pub power_of_variable : (k : ℕ) → poly_power c.ops (variable c.ops) k ≡ monomial c.ops c.ops.one k
  power_of_variable zero = (monomial_polynomial 0).1
  power_of_variable (suc k) =
      ap (λ w. poly_product c.ops w (variable c.ops)) (power_of_variable k)
      ∙ CarrierPolynomials.poly_product_comm P F.ring (monomial c.ops c.ops.one k) (variable c.ops) (monomial_valid k) (variable_polynomial P F).0
      ∙ ap (trim c.ops) (variable_on_valid (monomial c.ops c.ops.one k) (monomial_valid k) ∙ shift_monomial k)
      ∙ (monomial_polynomial (suc k)).1

  pub power_polynomial : (k : ℕ) → IsPolynomial c (poly_power c.ops (variable c.ops) k)
  power_polynomial k = CarrierPolynomials.poly_power_polynomial P F.ring (variable c.ops) k (variable_polynomial P F)

  -- the places of x^k
  pub power_of_variable_at : (k i : ℕ) → slice_index_or (poly_power c.ops (variable c.ops) k) i c.ops.zero ≡ cond (i == k) c.ops.one c.ops.zero
  power_of_variable_at k i =
      ap (λ xs. slice_index_or xs i c.ops.zero) (power_of_variable k)
      ∙ ⊎_elim
      (λ e. ap (λ j. slice_index_or (monomial c.ops c.ops.one k) j c.ops.zero) e ∙ monomial_at c.ops c.ops.one k
      ∙ sym (ap (λ b. cond b c.ops.one c.ops.zero) (eq-eqb i k e)))
      (λ n. monomial_elsewhere c.ops c.ops.one k i n ∙ sym (ap (λ b. cond b c.ops.one c.ops.zero) (ne_eqb i k n)))
      (cases_eq i k)

  module _ (f : Polynomial c) (not_constant : 1 < length f.0) (monic : IsMonic c f.0) where
    abbrev rest : List A → List A
    rest g = remainder c.ops f.0 g

    -- **a remainder has the same remainder**
    pub remainder_from_division : (g q r : List A) → IsDivision c g f.0 q r → rest r ≡ rest g
    remainder_from_division g q r d =
        let v : IsPolynomial c g =
        subst (IsPolynomial c) d.identity (CarrierPolynomials.poly_sum_polynomial P F.ring (poly_product c.ops q f.0) r
        (CarrierPolynomials.poly_product_polynomial P F.ring q f.0 d.quotient f.1) d.remainder) in
        remainder_equal P F f not_constant monic (r, d.remainder) (g, v)
        (Modulo.same_back U.ring (record { quotient = (q, d.quotient); identity = same_polynomial P F.ring _ _ (sym d.identity) }))

    -- zeros at the end make no difference
    pub remainder_of_trimmed : (g : List A) → All c.Valid g → rest (trim c.ops g) ≡ rest g
    remainder_of_trimmed g v =
        let vr = remainder_valid P F.ring f.0 g f.1.0 v in
        remainder_from_same P F f not_constant monic (class_of P F.ring g v) (rest g) (vr, length_remainder c.ops f.0 not_constant g)
        (Modulo.same_back U.ring (remainder_same P F.ring f not_constant monic g v vr))

    -- a remainder is its own remainder
    pub remainder_of_itself : (r : List A) → (values c f.0).Valid r → rest r ≡ r
    remainder_of_itself r v = sym (remainder_of_trimmed r v.0) ∙ remainder_of_value P F f not_constant monic r v

    times_x_valid : (r : List A) → (values c f.0).Valid r → (values c f.0).Valid (times_x c.ops f.0 r)
    times_x_valid r v =
        let t = c.ops.neg (slice_index_or r (degree f.0 - 1) c.ops.zero) in
        let vt = F.ring.neg_valid (slice_index_or r (degree f.0 - 1) c.ops.zero) (place_valid F.ring r (degree f.0 - 1) v.0) in (
          All-take c.Valid (degree f.0) (sum c.ops (c.ops.zero ∷ r) (scale c.ops t f.0))
              (sum_valid F.ring (c.ops.zero ∷ r) (scale c.ops t f.0) (All-cons c.Valid c.ops.zero r F.ring.zero_valid v.0) (scale_valid F.ring t f.0 vt f.1.0)),
          length_times_x c.ops f.0 r (omega (arith, v.1)) ∙ v.1,
        )

    -- **the next power of x**
    pub next_power : (k : ℕ) → rest (poly_power c.ops (variable c.ops) (suc k)) ≡ times_x c.ops f.0 (rest (poly_power c.ops (variable c.ops) k))
    next_power k =
        ap rest (power_of_variable (suc k) ∙ ap (λ g. c.ops.zero ∷ g) (sym (power_of_variable k)))
        ∙ ap (λ z. sum c.ops z r) zeros
        ∙ (values_ring P F f not_constant monic).zero_add r (times_x_valid (rest (poly_power c.ops (variable c.ops) k))
        (remainder_value P F f not_constant monic (poly_power c.ops (variable c.ops) k, power_polynomial k)))
      where
        r : List A
        r = times_x c.ops f.0 (rest (poly_power c.ops (variable c.ops) k))

        zeros : padded c.ops (degree f.0) (c.ops.zero ∷ []) ≡ replicate (degree f.0) c.ops.zero
        zeros = let e : suc (degree f.0 - 1) ≡ degree f.0 = omega arith in ap (λ n. replicate n c.ops.zero) e

    -- **a column of v^p - v by its places**
    pub column_from_places : (p k : ℕ) (g x : List A) → IsPolynomial c g → IsColumn c (degree f.0) x → rest g ≡ rest (poly_power c.ops (variable c.ops) (k * p))
        → ((i : ℕ) → slice_index_or x i c.ops.zero ≡ c.ops.add (slice_index_or g i c.ops.zero) (c.ops.neg (cond (i == k) c.ops.one c.ops.zero)))
        → x ≡ berlekamp_column c.ops p f.0 k
    column_from_places p k g x vg v e at =
        sym (remainder_from_same P F f not_constant monic (Q.add (power_of (k * p)) (Q.neg (power_of k))) x (v.1, v.0)
        (Modulo.same_trans U.ring (Modulo.same_from_equal U.ring same)
        (Modulo.same_sum U.ring (same_from_remainder P F f not_constant monic (g, vg) (power_of (k * p)) e) (Modulo.same_itself U.ring f (Q.neg (power_of k))))))
      where
        power_of : ℕ → Polynomial c
        power_of n = (poly_power c.ops (variable c.ops) n, power_polynomial n)

        same : class_of P F.ring x v.1 ≡ Q.add (g, vg) (Q.neg (power_of k))
        same = same_polynomial P F.ring (class_of P F.ring x v.1) (Q.add (g, vg) (Q.neg (power_of k)))
            (CarrierPolynomials.same_from_places P F.ring (trim c.ops x) (poly_difference c.ops g (poly_power c.ops (variable c.ops) k))
            (CarrierPolynomials.trim_polynomial P F.ring x v.1) (Q.add (g, vg) (Q.neg (power_of k))).1
            (λ i. CarrierPolynomials.trim_at P F.ring x i v.1 ∙ at i
            ∙ ap (λ w. c.ops.add (slice_index_or g i c.ops.zero) (c.ops.neg w)) (sym (power_of_variable_at k i))
            ∙ sym (CarrierPolynomials.poly_difference_at P F.ring g (poly_power c.ops (variable c.ops) k) i vg.0 (power_polynomial k).0)))
