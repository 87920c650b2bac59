-- The roots of h at which a polynomial t has a given constant as its value: those of a greatest
-- common divisor.
use Rattle.std.proofs.Common.{◌≡◌, ◌≢◌, ◌↔◌, ℕ, ◌<◌, List, [], ◌∷◌, length, All, ap, sym, ◌∙◌, arith}
use Rattle.std.proofs.lemmas.List.Elements.{All-cons, All-nil}
use Rattle.alg_model.specs.Polynomials.{evaluate, trim, poly_product}
use Rattle.alg_model.specs.Factors.{IsPolynomial, IsGreatestCommonDivisor}
use Rattle.alg_model.specs.Maps.{Field, IsFiniteField, field_values, constant}
use Rattle.alg_model.specs.Roots.{IsRoot}
use Rattle.alg_fields.specs.Fixed.{less_constant}
use Rattle.alg_rings.proofs.Rings
use Rattle.alg_rings.proofs.Elements.{element_laws, underlying_injective}
use Rattle.alg_rings.proofs.Lists
use Rattle.alg_rings.proofs.Validity.{value_at_valid}
use Rattle.alg_rings.proofs.CarrierPolynomials.{trim_polynomial, poly_difference_polynomial}
use Rattle.alg_splitting.specs.PrivateSearch.{Splits, IsConstantAtRoots}
use Rattle.alg_splitting.proofs.ValueLaws.{values_set, values_ring}
use Rattle.alg_splitting.proofs.PolynomialValues.{value_of_difference, value_of_trim, value_of_constant}
use Rattle.alg_splitting.proofs.ConstantPolynomials.{constant_valid}
use Rattle.alg_splitting.proofs.SplitPolynomials.{roots_bounded, split_root}
use Rattle.alg_splitting.proofs.RootDivisors.{gcd_root}

-- a polynomial that isn't zero and has a root isn't constant
pub root_not_constant : (F : Field) → IsFiniteField F → (g : List (List ℕ))
    → IsPolynomial (field_values F) g → g ≢ [] → (v : List ℕ) → IsRoot F g v → 1 < length g
root_not_constant F W g vg n v r = omega (
  arith,
  roots_bounded F W g vg n (v ∷ []) (λ i j d l k. absurd (omega arith))
      (All-cons (IsRoot F g) v [] r (All-nil (IsRoot F g))),
)

module _ (F : Field) (W : IsFiniteField F) (h t : List (List ℕ))
    (vh : IsPolynomial (field_values F) h) (vt : IsPolynomial (field_values F) t) where
  alone : (c : ℕ) → c < F.characteristic → All (field_values F).Valid (constant F c ∷ [])
  alone c l = All-cons (field_values F).Valid (constant F c) [] (constant_valid F W c l)
      (All-nil (field_values F).Valid)

  -- t - c is a polynomial
  pub less_constant_polynomial : (c : ℕ) → c < F.characteristic
      → IsPolynomial (field_values F) (less_constant (field_values F).ops t (constant F c))
  less_constant_polynomial c l =
      poly_difference_polynomial (values_set F) (values_ring F W) t
      (trim (field_values F).ops (constant F c ∷ [])) vt
      (trim_polynomial (values_set F) (values_ring F W) (constant F c ∷ []) (alone c l))

  -- t - c has the value t(v) - c
  pub value_less_constant : (c : ℕ) → c < F.characteristic → (v : List ℕ)
      → (field_values F).Valid v
      → evaluate (field_values F).ops (less_constant (field_values F).ops t (constant F c)) v
      ≡ (field_values F).ops.add (evaluate (field_values F).ops t v)
      ((field_values F).ops.neg (constant F c))
  value_less_constant c l v vv =
      value_of_difference (values_set F) (values_ring F W) v vv t
      (trim (field_values F).ops (constant F c ∷ [])) vt.0
      (trim_polynomial (values_set F) (values_ring F W) (constant F c ∷ []) (alone c l)).0
      ∙ ap (λ w. (field_values F).ops.add (evaluate (field_values F).ops t v)
      ((field_values F).ops.neg w))
      (value_of_trim (values_set F) (values_ring F W) v vv (constant F c ∷ []) (alone c l)
      ∙ value_of_constant (values_set F) (values_ring F W) v vv (constant F c)
      (constant_valid F W c l))

  -- so its roots are where t is c
  less_constant_root : (c : ℕ) → c < F.characteristic → (v : List ℕ) → (field_values F).Valid v
      → IsRoot F (less_constant (field_values F).ops t (constant F c)) v
      ↔ (evaluate (field_values F).ops t v ≡ constant F c)
  less_constant_root c l v vv = (
    (λ r. ap (λ w. w.0) (Rings.same_from_difference
        (element_laws (values_set F) (values_ring F W))
        (evaluate (field_values F).ops t v, value_at_valid (values_ring F W) t v vt.0 vv)
        (constant F c, constant_valid F W c l)
        (underlying_injective (values_set F) _ _ (sym (value_less_constant c l v vv) ∙ r.1)))),
    (λ e. (
      vv,
      value_less_constant c l v vv
          ∙ ap (λ w. (field_values F).ops.add w ((field_values F).ops.neg (constant F c))) e
          ∙ (values_ring F W).add_neg (constant F c) (constant_valid F W c l),
    )),
  )

  -- **the greatest common divisor of h and t - c has the roots of h at which t is c**
  pub cut_root : (c : ℕ) → c < F.characteristic → (g : List (List ℕ))
      → IsGreatestCommonDivisor (field_values F) h
      (less_constant (field_values F).ops t (constant F c)) g → (v : List ℕ)
      → IsRoot F g v ↔ (IsRoot F h v × (evaluate (field_values F).ops t v ≡ constant F c))
  cut_root c l g G v =
      let both = gcd_root F W h (less_constant (field_values F).ops t (constant F c)) g vh
      (less_constant_polynomial c l) G v in (
        (λ r. let s = both.0 r in (s.0, (less_constant_root c l v r.0).0 s.1)),
        (λ s. both.1 (s.0, (less_constant_root c l v s.0.0).1 s.1)),
      )

  -- so it isn't constant where there is such a root
  pub cut_not_constant : (c : ℕ) → c < F.characteristic → (g : List (List ℕ)) → h ≢ []
      → IsGreatestCommonDivisor (field_values F) h
      (less_constant (field_values F).ops t (constant F c)) g → (v : List ℕ)
      → IsRoot F h v → evaluate (field_values F).ops t v ≡ constant F c → 1 < length g
  cut_not_constant c l g n G v r e =
      root_not_constant F W g G.polynomial
      (λ z. n (sym G.divides_first.2
      ∙ ap (poly_product (field_values F).ops G.divides_first.0) z
      ∙ ap (trim (field_values F).ops)
      (Lists.product_nil (field_values F).ops G.divides_first.0)))
      v ((cut_root c l g G v).1 (r, e))

  -- **where t is a constant at each root of h, one c gives one that isn't constant**
  pub cut_exists : Splits F h → 1 < length h → IsConstantAtRoots F h t
      → (c : ℕ) × (c < F.characteristic) × ((g : List (List ℕ))
      → IsGreatestCommonDivisor (field_values F) h
      (less_constant (field_values F).ops t (constant F c)) g → 1 < length g)
  cut_exists S l k =
      let (v, r) = split_root F W h S l in
      let (c, m, e) = k v r in
      (c, m, λ g G. cut_not_constant c m g S.not_zero G v r (sym e))
