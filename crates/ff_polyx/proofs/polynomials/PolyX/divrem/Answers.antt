use Rattle.std.proofs.Common.{◌≢◌, ◌-◌, length, slice_index_or, ap, sym, ◌∙◌, subst, All}
use Rattle.alg_model.specs.Polynomials.{trim}
use Rattle.alg_model.specs.Factors.{IsPolynomial, IsDivision}
use Rattle.alg_model.specs.Maps.{field_values}
use Rattle.alg_rings.proofs.Lists.{length_not_nil}
use Rattle.alg_rings.proofs.Trims.{leading_at}
use Rattle.alg_rings.proofs.LongDivision.{division_from_places}
use Rattle.alg_rings.proofs.CarrierPolynomials.{leading_not_zero}
use Rattle.ff_polyx.proofs.FieldCarriers.{propositional, ring}
use Rattle.ff_polyx.proofs.ValuePlaces.{refill_whole, padded_valid, trim_padded}
use Rattle.ff_polyx.proofs.polynomials.PolyX.divrem.Goals as goal

pub divide-requires-clause-leading : goal.divide-requires-clause-leading
divide-requires-clause-leading c =
    let K = c.args.field.now in
    let o = (field_values K).ops in
    let d = c.args.d.now in
    subst (λ xs. slice_index_or xs (length xs - 1) o.zero ≢ o.zero)
    (sym c.coefficients-divisor.ensures.value)
    (λ z. leading_not_zero (propositional K) (ring K c.prime-prime.ensures.whole) d
    c.requires.divisor c.requires.not_zero (leading_at o d ∙ z))

pub divide-requires-clause-rest : goal.divide-requires-clause-rest
divide-requires-clause-rest c =
    let K = c.args.field.now in
    let v = field_values K in
    let f = c.coefficients-dividend.result.now in
    subst (All v.Valid) (sym (c.as_mut_slice.ensures.value ∙ c.padded-rest.ensures))
    (padded_valid (propositional K) (ring K c.prime-prime.ensures.whole) f (length f - length f)
    (subst (All v.Valid) (sym c.coefficients-dividend.ensures.value) c.requires.dividend.0))

pub of_values-requires-clause-values : goal.of_values-requires-clause-values
of_values-requires-clause-values c =
    subst (All (field_values c.args.field.now).Valid) (sym (c.as_slice.ensures.value
    ∙ refill_whole c.padded-quotient.result.items c.divide.new.quotient
    (c.divide.ensures.quotient_len ∙ ap length c.as_mut_slice-2.ensures.value)))
    c.divide.ensures.quotient

pub of_values-requires-2-clause-values : goal.of_values-requires-2-clause-values
of_values-requires-2-clause-values c =
    subst (All (field_values c.args.field.now).Valid) (sym (c.as_slice-2.ensures.value
    ∙ refill_whole c.padded-rest.result.items c.divide.new.rest
    (c.divide.ensures.rest_len ∙ ap length c.as_mut_slice.ensures.value))) c.divide.ensures.rest

pub returns : goal.returns
returns c =
    let K = c.args.field.now in
    let v = field_values K in
    let o = v.ops in
    let P = propositional K in
    let R = ring K c.prime-prime.ensures.whole in
    let f = c.coefficients-dividend.result.now in
    let g = c.coefficients-divisor.result.now in
    let ef = c.coefficients-dividend.ensures.value in
    let eg = c.coefficients-divisor.ensures.value in
    let q = c.divide.new.quotient in
    let r = c.divide.new.rest in
    let vf = subst (IsPolynomial v) (sym ef) c.requires.dividend in
    let vg = subst (IsPolynomial v) (sym eg) c.requires.divisor in
    let whole = c.divide.ensures.division
    ∙ ap (trim o) (c.as_mut_slice.ensures.value ∙ c.padded-rest.ensures)
    ∙ trim_padded P R f (length f - length f) vf in
    let divided = division_from_places P R f g q r c.divide.ensures.quotient c.divide.ensures.rest vg
    (length_not_nil g (λ z. c.requires.not_zero (sym eg ∙ z))) whole c.divide.ensures.smaller in
    let eq = c.of_values.ensures.coefficients ∙ ap (trim o) (c.as_slice.ensures.value
    ∙ refill_whole c.padded-quotient.result.items c.divide.new.quotient
    (c.divide.ensures.quotient_len ∙ ap length c.as_mut_slice-2.ensures.value)) in
    let er = c.of_values-2.ensures.coefficients ∙ ap (trim o) (c.as_slice-2.ensures.value
    ∙ refill_whole c.padded-rest.result.items c.divide.new.rest
    (c.divide.ensures.rest_len ∙ ap length c.as_mut_slice.ensures.value)) in
    record {
      division = subst (λ x. IsDivision v x c.args.d.now c.of_values.result c.of_values-2.result) ef
          (subst (λ y. IsDivision v f y c.of_values.result c.of_values-2.result) eg
          (subst (λ y. IsDivision v f g y c.of_values-2.result) (sym eq)
          (subst (IsDivision v f g (trim o q)) (sym er) divided)));
    }
