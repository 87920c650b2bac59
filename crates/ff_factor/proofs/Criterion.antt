-- Fixed polynomials by the matrix of v -> v^p - v: v is fixed modulo f exactly if its coefficients 1, 2, .. are sent to zero.
use Rattle.std.proofs.Common.{◌≡◌, ℕ, ◌<◌, List, ◌∷◌, map, length, All, ap, sym, ◌∙◌, subst}
use Rattle.std.specs.List.{range_with_len}
use Rattle.alg_model.specs.Coefficients.{Ops, Carrier, times, power}
use Rattle.alg_model.specs.Polynomials.{trim, poly_power, poly_difference}
use Rattle.alg_model.specs.Factors.{IsMonic, Divides}
use Rattle.alg_model.specs.Fields.{IsField}
use Rattle.alg_model.specs.Values.{degree}
use Rattle.alg_model.specs.Matrices.{combination, zero_column}
use Rattle.alg_rings.specs.Laws.{IsPropositional}
use Rattle.alg_rings.proofs.Elements.{Element, element_ops}
use Rattle.alg_rings.proofs.Divisors.{Polynomial, polynomial_ops}
use Rattle.alg_fields.specs.Fixed.{IsFixed}
use Rattle.alg_model.specs.Coefficients.{IsPrime}
use Rattle.alg_fields.proofs.Derivations.{polynomial_characteristic}
use Rattle.alg_fields.proofs.Classes.{class_of}
use Rattle.alg_fields.proofs.Remainders.{divides_iff_remainder_zero}
use Rattle.alg_rings.proofs.Divisors.{power_is}
use Rattle.ff_factor.specs.Certificates.{berlekamp_column}
use Rattle.ff_factor.proofs.BerlekampColumns

module _ {A : Type 0} {c : Carrier A} (P : IsPropositional c) (F : IsField c) (p : ℕ) (prime : IsPrime p)
    (characteristic : times (element_ops F.ring) p (element_ops F.ring).one ≡ (element_ops F.ring).zero)
    (fixed : (a : Element c) → power (element_ops F.ring) a p ≡ a)
    (f : Polynomial c) (not_constant : 1 < length f.0) (monic : IsMonic c f.0) where
  abbrev Q : Ops (Polynomial c)
  Q = polynomial_ops P F.ring

  module _ (a : A) (xs : List A) (v : All c.Valid (a ∷ xs)) where
    abbrev sent : List A
    sent = combination c.ops (degree f.0) (map (berlekamp_column c.ops p f.0) (range_with_len 1 (length xs))) xs

    abbrev gap : Polynomial c
    gap = Q.add (power Q (class_of P F.ring (a ∷ xs) v) p) (Q.neg (class_of P F.ring (a ∷ xs) v))

    gap_is : gap.0 ≡ poly_difference c.ops (poly_power c.ops (trim c.ops (a ∷ xs)) p) (trim c.ops (a ∷ xs))
    gap_is = ap (λ w. poly_difference c.ops w (trim c.ops (a ∷ xs))) (power_is P F.ring (class_of P F.ring (a ∷ xs) v) p)

    pub fixed_from_combination : sent ≡ zero_column c.ops (degree f.0) → IsFixed c p f.0 (trim c.ops (a ∷ xs))
    fixed_from_combination e = subst (Divides c f.0) gap_is ((divides_iff_remainder_zero P F f not_constant monic gap).1
        (sym (BerlekampColumns.columns_combination P F p f not_constant monic prime (polynomial_characteristic P F.ring p prime characteristic) fixed a xs v) ∙ e))

    pub combination_from_fixed : IsFixed c p f.0 (trim c.ops (a ∷ xs)) → sent ≡ zero_column c.ops (degree f.0)
    combination_from_fixed h =
        BerlekampColumns.columns_combination P F p f not_constant monic prime (polynomial_characteristic P F.ring p prime characteristic) fixed a xs v
        ∙ (divides_iff_remainder_zero P F f not_constant monic gap).0 (subst (Divides c f.0) (sym gap_is) h)
