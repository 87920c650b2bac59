-- Taking remainders modulo a monic f over a field: it is division by f, keeps sums, products and powers, and two polynomials
-- have one remainder exactly if f divides their difference.
use Rattle.std.proofs.Common.{◌≡◌, ◌↔◌, ℕ, zero, suc, ◌<◌, List, [], ◌∷◌, length, replicate, All, ap, sym, subst, ◌∙◌, arith}
use Rattle.alg_model.specs.Coefficients.{Carrier, power}
use Rattle.alg_model.specs.Polynomials.{sum, product, trim, poly_sum, poly_product, poly_difference, poly_power}
use Rattle.alg_model.specs.Factors.{IsMonic, IsDivision, Divides}
use Rattle.alg_model.specs.Values.{degree, remainder, value_ops, values}
use Rattle.alg_model.specs.Fields.{IsField}
use Rattle.alg_rings.specs.Laws.{IsPropositional}
use Rattle.alg_rings.proofs.Trims
use Rattle.alg_rings.proofs.Validity.{product_valid}
use Rattle.alg_rings.proofs.CarrierPolynomials.{poly_power_polynomial}
use Rattle.alg_rings.proofs.Divisors.{Polynomial, polynomial_ops, same_polynomial}
use Rattle.alg_rings.proofs.Modulo
use Rattle.alg_rings.proofs.Modulo.{Same}
use Rattle.alg_divisors.proofs.EuclideanPolynomials.{over_field}
use Rattle.alg_divisors.proofs.PolynomialFactors.{divides_to, divides_from}
use Rattle.alg_fields.proofs.Quotients.{IsQuotient}
use Rattle.alg_fields.proofs.ListRemainders.{length_remainder}
use Rattle.alg_fields.proofs.Classes
use Rattle.alg_fields.proofs.ValueFields.{polynomial_of, values_quotient}

module _ {A : Type 0} {c : Carrier A} (P : IsPropositional c) (F : IsField c) (f : Polynomial c) (not_constant : 1 < length f.0) (monic : IsMonic c f.0) where
  open over_field P F use {ops as Q, laws as E}

  abbrev V : IsQuotient (values c f.0) (polynomial_ops P F.ring) f (polynomial_of P F f not_constant monic)
  V = values_quotient P F f not_constant monic

  -- the value of a polynomial
  pub remainder_value : (a : Polynomial c) → (values c f.0).Valid (remainder c.ops f.0 a.0)
  remainder_value a = (Classes.remainder_valid P F.ring f.0 a.0 f.1.0 a.1.0, length_remainder c.ops f.0 not_constant a.0)

  pub same_as_value : (a : Polynomial c) → Same Q f (polynomial_of P F f not_constant monic (remainder c.ops f.0 a.0) (remainder_value a)) a
  same_as_value a =
      Modulo.same_trans E.ring (Modulo.same_back E.ring (Classes.remainder_same P F.ring f not_constant monic a.0 a.1.0 (remainder_value a).0))
      (Modulo.same_from_equal E.ring (Classes.class_of_polynomial P F.ring a))

  -- a value that is the same as a polynomial is its remainder
  pub remainder_from_same : (a : Polynomial c) (x : List A) (v : (values c f.0).Valid x) → Same Q f (polynomial_of P F f not_constant monic x v) a
      → remainder c.ops f.0 a.0 ≡ x
  remainder_from_same a x v s =
      V.equal (remainder c.ops f.0 a.0) x (remainder_value a) v (Modulo.same_trans E.ring (same_as_value a) (Modulo.same_back E.ring s))

  pub remainder_equal : (a b : Polynomial c) → Same Q f a b → remainder c.ops f.0 a.0 ≡ remainder c.ops f.0 b.0
  remainder_equal a b s =
      remainder_from_same a (remainder c.ops f.0 b.0) (remainder_value b) (Modulo.same_trans E.ring (same_as_value b) (Modulo.same_back E.ring s))

  pub same_from_remainder : (a b : Polynomial c) → remainder c.ops f.0 a.0 ≡ remainder c.ops f.0 b.0 → Same Q f a b
  same_from_remainder a b e =
      Modulo.same_trans E.ring (Modulo.same_back E.ring (same_as_value a))
      (Modulo.same_trans E.ring (Modulo.same_from_equal E.ring (same_polynomial P F.ring _ _ (ap (trim c.ops) e))) (same_as_value b))

  -- a value is its own remainder
  pub remainder_of_value : (x : List A) → (values c f.0).Valid x → remainder c.ops f.0 (trim c.ops x) ≡ x
  remainder_of_value x v = remainder_from_same (polynomial_of P F f not_constant monic x v) x v (Modulo.same_itself E.ring f _)

  pub remainder_sum : (a b : Polynomial c) → remainder c.ops f.0 (poly_sum c.ops a.0 b.0) ≡ sum c.ops (remainder c.ops f.0 a.0) (remainder c.ops f.0 b.0)
  remainder_sum a b =
      remainder_from_same (Q.add a b) (sum c.ops (remainder c.ops f.0 a.0) (remainder c.ops f.0 b.0)) (V.add_valid _ _ (remainder_value a) (remainder_value b))
      (Modulo.same_trans E.ring (V.add _ _ (remainder_value a) (remainder_value b)) (Modulo.same_sum E.ring (same_as_value a) (same_as_value b)))

  pub remainder_product : (a b : Polynomial c)
      → remainder c.ops f.0 (poly_product c.ops a.0 b.0) ≡ (value_ops c.ops f.0).mul (remainder c.ops f.0 a.0) (remainder c.ops f.0 b.0)
  remainder_product a b =
      remainder_from_same (Q.mul a b) ((value_ops c.ops f.0).mul (remainder c.ops f.0 a.0) (remainder c.ops f.0 b.0)) (V.mul_valid _ _ (remainder_value a) (remainder_value b))
      (Modulo.same_trans E.ring (V.mul _ _ (remainder_value a) (remainder_value b)) (Modulo.same_product E.ring (same_as_value a) (same_as_value b)))

  pub remainder_one : remainder c.ops f.0 (trim c.ops (c.ops.one ∷ [])) ≡ (value_ops c.ops f.0).one
  remainder_one = remainder_from_same Q.one (value_ops c.ops f.0).one V.one_valid V.one

  -- **a power of values is the remainder of the power of polynomials**
  pub remainder_power : (a : Polynomial c) (n : ℕ)
      → remainder c.ops f.0 (poly_power c.ops a.0 n) ≡ power (value_ops c.ops f.0) (remainder c.ops f.0 a.0) n
  remainder_power a zero = remainder_one
  remainder_power a (suc n) =
      remainder_product (poly_power c.ops a.0 n, poly_power_polynomial P F.ring a.0 n a.1) a
      ∙ ap (λ w. (value_ops c.ops f.0).mul w (remainder c.ops f.0 a.0)) (remainder_power a n)

  -- **`remainder` is division by f**, also of a list that ends in zeros
  pub list_division : (g : List A) → All c.Valid g → (q : List A) × IsDivision c (trim c.ops g) f.0 q (trim c.ops (remainder c.ops f.0 g))
  list_division g v =
      let w : All c.Valid (remainder c.ops f.0 g) = Classes.remainder_valid P F.ring f.0 g f.1.0 v in
      let s : Same Q f (Classes.class_of P F.ring g v) (Classes.class_of P F.ring (remainder c.ops f.0 g) w) =
      Classes.remainder_same P F.ring f not_constant monic g v w in (
        s.quotient.0,
        record {
          quotient = s.quotient.1;
          remainder = (Classes.class_of P F.ring (remainder c.ops f.0 g) w).1;
          identity = sym (ap (λ h. h.0) s.identity);
          smaller = omega (arith, Trims.length_trim c.ops (remainder c.ops f.0 g), length_remainder c.ops f.0 not_constant g);
        },
      )

  pub remainder_division : (a : Polynomial c) → (q : List A) × IsDivision c a.0 f.0 q (trim c.ops (remainder c.ops f.0 a.0))
  remainder_division a = subst (λ g. (q : List A) × IsDivision c g f.0 q (trim c.ops (remainder c.ops f.0 a.0))) a.1.1 (list_division a.0 a.1.0)

  -- the product of two values is the remainder of their product
  pub product_division : (a b : List A) → All c.Valid a → All c.Valid b
      → (q : List A) × IsDivision c (poly_product c.ops a b) f.0 q (trim c.ops ((value_ops c.ops f.0).mul a b))
  product_division a b va vb = list_division (product c.ops a b) (product_valid F.ring a b va vb)

  -- f divides what has remainder zero
  pub divides_iff_remainder_zero : (a : Polynomial c) → Divides c f.0 a.0 ↔ (remainder c.ops f.0 a.0 ≡ replicate (degree f.0) c.ops.zero)
  divides_iff_remainder_zero a = (
    (λ d. remainder_equal a Q.zero (Modulo.same_zero E.ring (divides_from P F f a d))),
    (λ e. divides_to P F f a (Modulo.divides_from_zero E.ring (same_from_remainder a Q.zero e))),
  )

  -- one remainder exactly if f divides the difference
  pub divides_difference_iff_same_remainder : (a b : Polynomial c)
      → Divides c f.0 (poly_difference c.ops a.0 b.0) ↔ (remainder c.ops f.0 a.0 ≡ remainder c.ops f.0 b.0)
  divides_difference_iff_same_remainder a b = (
    (λ d. remainder_equal a b (Modulo.same_from_divides E.ring (divides_from P F f (Q.add a (Q.neg b)) d))),
    (λ e. divides_to P F f (Q.add a (Q.neg b)) (Modulo.divides_from_same E.ring (same_from_remainder a b e))),
  )
