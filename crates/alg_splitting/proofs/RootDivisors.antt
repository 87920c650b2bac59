-- Roots of divisors, of greatest common divisors and of remainders.
use Rattle.std.proofs.Common.{◌≡◌, ◌≢◌, ◌↔◌, ⊎_elim, ℕ, List, [], ◌∷◌, All, ap, sym, ◌∙◌}
use Rattle.std.proofs.lemmas.List.Elements.{All-cons, All-nil}
use Rattle.alg_model.specs.Polynomials.{evaluate, poly_product, trim}
use Rattle.alg_model.specs.Factors.{IsPolynomial, IsMonic, Divides, IsDivision, IsGreatestCommonDivisor}
use Rattle.alg_model.specs.Maps.{Field, IsFiniteField, field_values}
use Rattle.alg_model.specs.Roots.{IsRoot}
use Rattle.alg_rings.proofs.Lists
use Rattle.alg_rings.proofs.CarrierPolynomials.{trimmed_from_leading}
use Rattle.alg_fields.proofs.Roots.{linear}
use Rattle.alg_fields.proofs.OnCarriers.{root_iff_divides}
use Rattle.alg_splitting.specs.PrivateSearch.{Splits}
use Rattle.alg_splitting.proofs.ValueLaws.{values_set, values_ring, values_field}
use Rattle.alg_splitting.proofs.PolynomialValues.{value_of_multiple, value_of_remainder}
use Rattle.alg_splitting.proofs.SplitPolynomials.{split_divisor}

module _ (F : Field) (W : IsFiniteField F) where
  -- a root of a divisor is a root
  pub divisor_root : (g f : List (List ℕ)) → All (field_values F).Valid g
      → Divides (field_values F) g f → (v : List ℕ) → IsRoot F g v → IsRoot F f v
  divisor_root g f vg d v r = (
    r.0,
    value_of_multiple (values_set F) (values_ring F W) v r.0 g f vg d r.1,
  )

  linear_polynomial : (v : List ℕ) → (field_values F).Valid v
      → IsPolynomial (field_values F) (linear (field_values F).ops v)
  linear_polynomial v vv = (
    valid,
    trimmed_from_leading (values_set F) (values_ring F W) (linear (field_values F).ops v) valid
        (values_field F W).one_not_zero,
  )
    where
      valid : All (field_values F).Valid (linear (field_values F).ops v)
      valid = All-cons (field_values F).Valid ((field_values F).ops.neg v)
          ((field_values F).ops.one ∷ []) ((values_ring F W).neg_valid v vv)
          (All-cons (field_values F).Valid (field_values F).ops.one [] (values_ring F W).one_valid
          (All-nil (field_values F).Valid))

  -- **the roots of the greatest common divisor are the roots of both**
  pub gcd_root : (a b g : List (List ℕ)) → IsPolynomial (field_values F) a
      → IsPolynomial (field_values F) b → IsGreatestCommonDivisor (field_values F) a b g
      → (v : List ℕ) → IsRoot F g v ↔ (IsRoot F a v × IsRoot F b v)
  gcd_root a b g va vb G v = (
    (λ r. (
      divisor_root g a G.polynomial.0 G.divides_first v r,
      divisor_root g b G.polynomial.0 G.divides_second v r,
    )),
    (λ r. let l = linear (field_values F).ops v in
        let vv = r.0.0 in (
          vv,
          (root_iff_divides (values_set F) (values_ring F W) g v G.polynomial vv).1
              (G.greatest l (linear_polynomial v vv)
              ((root_iff_divides (values_set F) (values_ring F W) a v va vv).0 r.0.1)
              ((root_iff_divides (values_set F) (values_ring F W) b v vb vv).0 r.1.1)),
        )),
  )

  -- it is monic, where one of both isn't zero
  pub gcd_monic : (a b g : List (List ℕ)) → IsGreatestCommonDivisor (field_values F) a b g
      → a ≢ [] → IsMonic (field_values F) g
  gcd_monic a b g G n = ⊎_elim (λ m. m)
      (λ e. absurd (n (sym G.divides_first.2
      ∙ ap (poly_product (field_values F).ops G.divides_first.0) e
      ∙ ap (trim (field_values F).ops)
      (Lists.product_nil (field_values F).ops G.divides_first.0))))
      G.monic_or_zero

  -- **where one of both splits, it splits**
  pub gcd_splits : (a b g : List (List ℕ)) → Splits F a
      → IsGreatestCommonDivisor (field_values F) a b g → Splits F g
  gcd_splits a b g S G = split_divisor F W a g S G.polynomial G.divides_first

  -- **at the roots of the divisor the remainder has the roots of the dividend**
  pub remainder_root : (f d q r : List (List ℕ)) → IsPolynomial (field_values F) d
      → IsDivision (field_values F) f d q r → (v : List ℕ) → IsRoot F d v
      → IsRoot F r v ↔ IsRoot F f v
  remainder_root f d q r vd D v z = (
    (λ s. (s.0, sym (same s.0) ∙ s.1)),
    (λ s. (s.0, same s.0 ∙ s.1)),
  )
    where
      same : (vv : (field_values F).Valid v)
          → evaluate (field_values F).ops r v ≡ evaluate (field_values F).ops f v
      same vv = value_of_remainder (values_set F) (values_ring F W) v vv f d q r vd.0 D z.1
