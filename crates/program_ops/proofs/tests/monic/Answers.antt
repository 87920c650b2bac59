use Rattle.std.proofs.Common.{◌-◌, length, slice_index, ap, sym, ◌∙◌, rules}
use Rattle.std.proofs.lemmas.Bool.Decides.{nat_tests}
use Rattle.alg_model.specs.Coefficients.{mod_ops}
use Rattle.alg_rings.proofs.Trims.{leading_at}
use Rattle.program_ops.proofs.tests.monic.Goals as goal

pub returns-clause-monic : goal.returns-clause-monic
returns-clause-monic g c =
    let f = c.expect-f.result in
    leading_at (mod_ops f.prime) f.coefficients
    ∙ ap (λ xs. slice_index xs (length xs - 1)) (sym c.coefficients-coefficients.ensures.value)
    ∙ search (rules, nat_tests)
