use Rattle.std.proofs.Common.{ap, ◌∙◌, ◌*◌}
use Rattle.ff_factor.proofs.PowersOfVariable.{power_from_division}
use Rattle.ff_factor.proofs.columns.power_of_variable.Goals as goal

pub returns : goal.returns
returns c =
    power_from_division c.args.f.now c.prime-p.ensures.whole c.requires.monic c.requires.not_constant c.args.k _ c.variable.result c.powmod.result
    (c.variable.ensures.prime ∙ c.prime-p.ensures.value) c.variable.ensures.coefficients
    (ap (λ n. c.args.k * n) (c.number.ensures.value ∙ c.prime-p.ensures.value)) c.powmod.ensures.power
