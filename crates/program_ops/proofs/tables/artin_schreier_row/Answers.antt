use Rattle.std.specs.Prelude.{◌<◌}
use Rattle.std.proofs.Common.{arith}
use Rattle.program_ops.proofs.Coefficients.{row_is}
use Rattle.program_ops.proofs.tables.artin_schreier_row.Goals as goal

pub returns-clause-coefficients : goal.returns-clause-coefficients
returns-clause-coefficients g c =
    let small : c.number-degree.result < 64 = c.number-degree.ensures.small.1 in
    row_is c.args.p c.number-degree.result g.row.W c.zeros-row.result c.number-degree.ensures.value
    c.number-degree.ensures.small.0 (omega (arith, c.requires)) c.zeros-row.ensures
