use Rattle.std.proofs.Common.{length, ap, ap₂, sym, ◌∙◌, subst, All}
use Rattle.alg_model.specs.Polynomials.{trim, product, poly_product}
use Rattle.alg_model.specs.Maps.{field_values}
use Rattle.alg_rings.proofs.Validity.{product_valid}
use Rattle.alg_rings.proofs.CarrierPolynomials.{trim_same}
use Rattle.ff_polyx.proofs.FieldCarriers.{propositional, ring}
use Rattle.ff_polyx.proofs.ValuePlaces.{refill_whole}
use Rattle.ff_polyx.proofs.polynomials.PolyX.mul.Goals as goal

pub returns-clause-product : goal.returns-clause-product
returns-clause-product c =
    let K = c.args.field.now in
    let v = field_values K in
    let o = v.ops in
    let R = ring K c.prime-prime.ensures.whole in
    let f = c.coefficients-first.result.now in
    let g = c.coefficients-second.result.now in
    let ef = c.coefficients-first.ensures.value in
    let eg = c.coefficients-second.ensures.value in
    let ws = c.add_product.new.places in
    let whole = refill_whole c.padded-places.result.items ws
    (c.add_product.ensures.len ∙ ap length c.as_mut_slice.ensures.value) in
    let vf = subst (All v.Valid) (sym ef) c.requires.first.0 in
    let vg = subst (All v.Valid) (sym eg) c.requires.second.0 in
    c.of_values.ensures.coefficients
    ∙ ap (trim o) (c.as_slice.ensures.value ∙ whole)
    ∙ trim_same (propositional K) R ws (product o f g) c.add_product.ensures.values
    (product_valid R f g vf vg) c.add_product.ensures.product
    ∙ ap₂ (poly_product o) ef eg
