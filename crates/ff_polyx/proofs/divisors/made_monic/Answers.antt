use Rattle.std.proofs.Common.{◌≡◌, ◌≢◌, [], length, ap, sym, ◌∙◌, subst, arith}
use Rattle.std.proofs.lemmas.Bool.Decides.{nat_tests}
use Rattle.alg_model.specs.Factors.{IsGreatestCommonDivisor}
use Rattle.alg_model.specs.Maps.{field_values}
use Rattle.alg_rings.proofs.Lists.{length_not_nil}
use Rattle.alg_rings.proofs.CarrierPolynomials.{leading_not_zero}
use Rattle.ff_poly.proofs.Euclid.{multiple_gcd}
use Rattle.ff_polyx.proofs.FieldCarriers.{propositional, field, ring}
use Rattle.ff_polyx.proofs.ValuePlaces.{last_read}
use Rattle.ff_polyx.proofs.divisors.made_monic.Goals as goal

pub inverse-inverse-requires-clause-not_zero : goal.inverse-inverse-requires-clause-not_zero
inverse-inverse-requires-clause-not_zero c z =
    let K = c.args.field.now in
    let P = propositional K in
    let R = ring K c.prime-prime.ensures.whole in
    let f = c.args.a.now in
    let g = c.coefficients-coefficients.result.now in
    let same = c.coefficients-coefficients.ensures.value in
    let some : g ≢ [] = λ e. let l : length g ≡ 0 = ap length e in grind (arith, nat_tests) in
    leading_not_zero P R f c.requires (λ e. some (same ∙ e))
    (last_read P R f g c.index-coefficients-coefficients.result same (length_not_nil g some)
    c.index-coefficients-coefficients.is ∙ z)

pub returns : goal.returns
returns c =
    let K = c.args.field.now in
    let v = field_values K in
    let P = propositional K in
    let F = field K c.prime-prime.ensures.whole in
    let f = c.args.a.now in
    let g = c.coefficients-coefficients.result.now in
    let i = c.inverse-inverse.result in
    let same = c.coefficients-coefficients.ensures.value in
    let some : g ≢ [] = λ e. let l : length g ≡ 0 = ap length e in grind (arith, nat_tests) in
    let last = last_read P F.ring f g c.index-coefficients-coefficients.result same
    (length_not_nil g some) c.index-coefficients-coefficients.is in
    subst (IsGreatestCommonDivisor v f []) (sym c.mul.ensures.product)
    (multiple_gcd P F f c.of_values.result i c.requires (λ e. some (same ∙ e))
    c.inverse-inverse.ensures.valid
    (ap (λ x. v.ops.mul x i) last ∙ c.inverse-inverse.ensures.inverse)
    c.of_values.ensures.coefficients)
