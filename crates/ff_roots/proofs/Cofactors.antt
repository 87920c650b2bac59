-- The cofactor of a divisor g of a polynomial h that has as many roots as its degree: it has the
-- roots of h that g lacks.
use Rattle.std.proofs.Common.{◌≡◌, ◌≢◌, ◌⊎◌, ℕ, ◌+◌, ◌<◌, List, ◌++◌, length, slice_index_or, refl, ap, sym, ◌∙◌, subst, arith, ⊎_elim, inl, inr, length-append}
use Rattle.std.specs.List.{Contains, remove}
use Rattle.std.proofs.lemmas.Bool.{cases_eq}
use Rattle.std.proofs.lemmas.List.{get_or_read_under}
use Rattle.std.proofs.lemmas.List.Edits.{length-remove}
use Rattle.std.proofs.lemmas.List.Elements.{All-contains, Contains-append_left, Contains-append_right}
use Rattle.alg_model.specs.Polynomials.{trim, poly_sum, poly_product, evaluate}
use Rattle.alg_model.specs.Factors.{IsPolynomial, Divides, IsDivision}
use Rattle.alg_model.specs.Maps.{Field, IsFiniteField, field_values}
use Rattle.alg_model.specs.Roots.{IsRoot}
use Rattle.alg_rings.proofs.Decisions.{lists_equal_or_not}
use Rattle.alg_rings.proofs.Division.{zero_from_product}
use Rattle.alg_rings.proofs.Divisors.{divides_iff_no_remainder, length_poly_product}
use Rattle.alg_rings.proofs.CarrierPolynomials.{poly_product_polynomial, poly_product_comm}
use Rattle.alg_rings.proofs.Elements.{underlying, underlying_injective, element_field}
use Rattle.alg_rings.proofs.Lists.{sum_nil, product_nil, length_not_nil}
use Rattle.alg_rings.proofs.Validity.{value_at_valid}
use Rattle.alg_splitting.specs.PrivateSearch.{Splits}
use Rattle.alg_splitting.proofs.ValueLaws.{values_set, values_field, values_ring}
use Rattle.alg_splitting.proofs.PolynomialValues.{value_of_product}
use Rattle.alg_splitting.proofs.SplitPolynomials.{split_all, split_divisor}
use Rattle.alg_splitting.proofs.RootDivisors.{divisor_root}
use Rattle.alg_splitting.proofs.DifferentLists.{contains_rest, within_length}

-- a polynomial of degree 0 that isn't zero has no roots
pub no_root : (F : Field) → IsFiniteField F → (h : List (List ℕ)) → Splits F h → length h < 2
    → (v : List ℕ) → ¬ IsRoot F h v
no_root F W h S l v s =
    let place : Contains S.roots v = split_all F W h S v s in omega (arith, place.1, S.count)

module _ (F : Field) (W : IsFiniteField F) (h g q r : List (List ℕ)) (S : Splits F h)
    (vg : IsPolynomial (field_values F) g) (k : Divides (field_values F) g h)
    (D : IsDivision (field_values F) h g q r) where
  open field_values F use {ops as o, Valid}

  exact : poly_product (field_values F).ops q g ≡ h
  exact =
      sym (poly_product_polynomial (values_set F) (values_ring F W) q g D.quotient vg).1
      ∙ ap (trim o) (sym (sum_nil o (poly_product o q g)))
      ∙ ap (poly_sum o (poly_product o q g))
      (sym ((divides_iff_no_remainder (values_set F) (values_field F W) h g q r vg D).0 k))
      ∙ D.identity

  pub quotient_divides : Divides (field_values F) q h
  quotient_divides = (
    g,
    vg,
    poly_product_comm (values_set F) (values_ring F W) g q vg.0 D.quotient.0 ∙ exact,
  )

  -- **it splits**
  pub cofactor_splits : Splits F q
  cofactor_splits = split_divisor F W h q S D.quotient quotient_divides

  -- **degrees add up**
  pub cofactor_length : length q + length g ≡ length h + 1
  cofactor_length = let n = length_poly_product (values_set F) (values_field F W) q g D.quotient vg
      (λ z. S.not_zero (sym exact ∙ ap (λ w. poly_product o w g) z))
      (λ z. S.not_zero (sym exact ∙ ap (poly_product o q) z ∙ ap (trim o) (product_nil o q))) in
      omega (arith, n, ap length exact)

  -- a root of h is one of q or of g
  pub cofactor_or_divisor : (v : List ℕ) → IsRoot F h v → IsRoot F q v ⊎ IsRoot F g v
  cofactor_or_divisor v s = ⊎_elim (λ z. inl (s.0, z))
      (λ n. inr (
        s.0,
        ap (underlying (field_values F))
            (zero_from_product (element_field (values_set F) (values_field F W))
            (evaluate o q v, value_at_valid (values_ring F W) q v D.quotient.0 s.0)
            (evaluate o g v, value_at_valid (values_ring F W) g v vg.0 s.0)
            (underlying_injective (values_set F) _ _
            (sym (value_of_product (values_set F) (values_ring F W) v s.0 q g D.quotient.0 vg.0)
            ∙ ap (λ w. evaluate o w v) exact ∙ s.1))
            (λ z. n (ap (underlying (field_values F)) z))),
      ))
      (lists_equal_or_not cases_eq (evaluate o q v) o.zero)

  -- a root of q is one of h
  pub cofactor_root : (v : List ℕ) → IsRoot F q v → IsRoot F h v
  cofactor_root v s = divisor_root F W q h D.quotient.0 quotient_divides v s

  divisor_splits : Splits F g
  divisor_splits = split_divisor F W h g S vg k

  -- **but of q and g none in common**
  pub cofactor_apart : (v : List ℕ) → IsRoot F q v → ¬ IsRoot F g v
  cofactor_apart v s t =
      let fewer = within_length S.roots others S.different included in
      omega (
        arith,
        fewer,
        length-append divisor_splits.roots (remove cofactor_splits.roots place.0),
        length-remove cofactor_splits.roots place.0 place.1,
        S.count,
        divisor_splits.count,
        cofactor_splits.count,
        cofactor_length,
        length_not_nil h S.not_zero,
        length_not_nil q cofactor_splits.not_zero,
        length_not_nil g divisor_splits.not_zero,
      )
    where
      place : Contains cofactor_splits.roots v
      place = split_all F W q cofactor_splits v s

      others : List (List ℕ)
      others = divisor_splits.roots ++ remove cofactor_splits.roots place.0

      -- a root other than v isn't the removed one
      other : (w : List ℕ) → w ≢ v → slice_index_or cofactor_splits.roots place.0 w ≢ w
      other w n e = n (sym (get_or_read_under cofactor_splits.roots place.0
          (length cofactor_splits.roots) v w (sym place.2) place.1 refl ∙ e))

      of_divisor : (w : List ℕ) → IsRoot F g w → Contains others w
      of_divisor w u = Contains-append_left divisor_splits.roots
          (remove cofactor_splits.roots place.0) w (split_all F W g divisor_splits w u)

      included : (w : List ℕ) → Contains S.roots w → Contains others w
      included w m = ⊎_elim
          (λ u. ⊎_elim (λ e. of_divisor w (subst (IsRoot F g) (sym e) t))
          (λ n. Contains-append_right divisor_splits.roots
          (remove cofactor_splits.roots place.0) w
          (contains_rest cofactor_splits.roots place.0 w place.1
          (split_all F W q cofactor_splits w u) (other w n)))
          (lists_equal_or_not cases_eq w v))
          (λ u. of_divisor w u)
          (cofactor_or_divisor w (All-contains (IsRoot F h) S.roots w S.are_roots m))
