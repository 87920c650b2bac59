use Rattle.std.proofs.Common.{ap, ap₂, sym, ◌∙◌}
use Rattle.alg_model.specs.Maps.{field_values}
use Rattle.ff_field.proofs.SmallFieldLaws.{power_of_odd, power_of_even}
use Rattle.ff_field.proofs.modulus.Modulus.+pow.Goals as goal

pub returns-then-e-eq1-clause-value : goal.returns-then-e-eq1-clause-value
returns-then-e-eq1-clause-value t c =
    let o = (field_values c.args.self.now).ops in
    c.mul.ensures.value
    ∙ ap (λ b. o.mul b c.args.a.now)
    (c.mul-square.ensures.value ∙ ap₂ o.mul c.pow-root.ensures.value c.pow-root.ensures.value)
    ∙ sym (power_of_odd c.args.self.now c.prime-prime.ensures.whole.finite c.args.a.now c.requires
    c.args.e c.if-e-eq1.true)

pub returns-else-e-eq1-clause-value : goal.returns-else-e-eq1-clause-value
returns-else-e-eq1-clause-value t c =
    let o = (field_values c.args.self.now).ops in
    c.mul-square.ensures.value ∙ ap₂ o.mul c.pow-root.ensures.value c.pow-root.ensures.value
    ∙ sym (power_of_even c.args.self.now c.prime-prime.ensures.whole.finite c.args.a.now c.requires
    c.args.e c.if-e-eq1.false)
