use Rattle.std.proofs.Common.{◌+◌, ◌-◌, length, slice_index_or, ap, ap₂, sym, ◌∙◌, subst, All}
use Rattle.alg_model.specs.Polynomials.{trim, poly_negative, poly_difference}
use Rattle.alg_model.specs.Maps.{field_values}
use Rattle.alg_rings.proofs.Validity.{negatives_valid}
use Rattle.ff_polyx.proofs.FieldCarriers.{propositional, ring}
use Rattle.ff_polyx.proofs.ValuePlaces.{refill_whole, added, negated}
use Rattle.ff_polyx.proofs.polynomials.PolyX.sub.Goals as goal

pub returns-clause-difference : goal.returns-clause-difference
returns-clause-difference c =
    let K = c.args.field.now in
    let v = field_values K in
    let o = v.ops in
    let R = ring K c.prime-prime.ensures.whole in
    let f = c.coefficients-first.result.now in
    let g = c.coefficients-second.result.now in
    let ef = c.coefficients-first.ensures.value in
    let eg = c.coefficients-second.ensures.value in
    let ws = c.add_multiple.new.places in
    let value = c.as_mut_slice.ensures.value in
    let whole = refill_whole c.padded-places.result.items ws
    (c.add_multiple.ensures.len ∙ ap length value) in
    let vf = subst (All v.Valid) (sym ef) c.requires.first.0 in
    let vg = subst (All v.Valid) (sym eg) c.requires.second.0 in
    c.of_values.ensures.coefficients
    ∙ ap (trim o) (c.as_slice.ensures.value ∙ whole)
    ∙ added (propositional K) R (c.max.result - length f) (o.neg o.one) f g (poly_negative o g) ws vf
    (negatives_valid R g vg)
    c.add_multiple.ensures.values
    (λ k. c.add_multiple.ensures.above k
    ∙ ap₂ (λ xs x. o.add (slice_index_or xs (0 + k) o.zero) (o.mul x (slice_index_or g k o.zero)))
    (value ∙ c.padded-places.ensures) (c.neg-minus_one.ensures.value ∙ ap o.neg c.one.ensures.value))
    (λ k. negated (propositional K) R g k vg)
    ∙ ap₂ (poly_difference o) ef eg
