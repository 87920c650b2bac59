use Rattle.std.proofs.Common.{ap, ◌∙◌, subst}
use Rattle.alg_model.specs.Coefficients.{mod_ops, residues}
use Rattle.alg_model.specs.Polynomials.{trim}
use Rattle.alg_model.specs.Factors.{IsPolynomial}
use Rattle.alg_model.specs.Maps.{field_values}
use Rattle.ff_poly.specs.Cofactors.{IsCofactor}
use Rattle.ff_field.proofs.SmallFieldLaws.{inverse_from_bezout}
use Rattle.ff_field.proofs.fields.Field.inverse.Goals as goal

pub returns-clause-inverse : goal.returns-clause-inverse
returns-clause-inverse c =
    let K = c.args.self.now in
    let o = mod_ops K.characteristic in
    let a = c.args.a.now in
    let u = c.cofactor-cofactor.result.coefficients in
    let q = c.poly_of.ensures.prime in
    let b = c.poly_of.result.coefficients in
    let e = c.cofactor-cofactor.ensures in
    let vu = subst (λ p. IsPolynomial (residues p) u) (e.prime ∙ q) c.prime-prime.ensures.whole.polynomial in
    let k : IsCofactor K.characteristic (trim o a) K.polynomial u =
    subst (λ f. IsCofactor K.characteristic (trim o a) f u) c.poly.ensures.coefficients
    (subst (λ x. IsCofactor K.characteristic x c.poly.result.now.coefficients u) c.poly_of.ensures.coefficients
    (subst (λ p. IsCofactor p b c.poly.result.now.coefficients u) q e.cofactor)) in
    ap ((field_values K).ops.mul a) c.reduced.ensures.value
    ∙ inverse_from_bezout K c.poly.ensures.whole.finite a c.requires.valid c.requires.not_zero k.divisor u k.other vu k.polynomial k.greatest k.identity
