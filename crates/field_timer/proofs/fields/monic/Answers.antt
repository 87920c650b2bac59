use Rattle.std.proofs.Common.{◌-◌, length, slice_index, ap, sym, ◌∙◌}
use Rattle.alg_model.specs.Coefficients.{mod_ops}
use Rattle.alg_rings.proofs.Trims.{leading_at}
use Rattle.field_timer.proofs.fields.monic.Goals as goal

pub returns-then-coefficients-len-eq1-clause-monic : goal.returns-then-coefficients-len-eq1-clause-monic
returns-then-coefficients-len-eq1-clause-monic c =
    let f = c.in_ok-f.f in
    leading_at (mod_ops f.prime) f.coefficients
    ∙ ap (λ xs. slice_index xs (length xs - 1)) (sym c.coefficients-coefficients.ensures.value)
    ∙ c.if-coefficients-len-eq1.true
