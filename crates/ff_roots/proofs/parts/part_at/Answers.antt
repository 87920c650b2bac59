use Rattle.std.proofs.Common.{[], ◌∷◌, ap, ◌∙◌, subst}
use Rattle.alg_model.specs.Polynomials.{trim, poly_difference}
use Rattle.alg_model.specs.Factors.{IsGreatestCommonDivisor}
use Rattle.alg_model.specs.Maps.{field_values}
use Rattle.ff_roots.proofs.parts.part_at.Goals as goal

pub returns : goal.returns
returns c =
    let v = field_values c.args.field.now in
    subst (λ w. IsGreatestCommonDivisor v c.args.part.now w c.gcd.result)
    (c.sub.ensures.difference
    ∙ ap (poly_difference v.ops c.args.trace.now)
    (c.of_values-constant.ensures.coefficients
    ∙ ap (λ x. trim v.ops (x ∷ [])) c.of_residue.ensures.value))
    c.gcd.ensures.gcd
