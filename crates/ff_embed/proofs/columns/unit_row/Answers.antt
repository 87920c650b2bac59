use Rattle.std.proofs.Common.{arith}
use Rattle.ff_poly.specs.declared.TheConstants.{MAX_DEGREE}
use Rattle.ff_embed.proofs.ColumnTables.{unit_row_valid}
use Rattle.ff_embed.proofs.columns.unit_row.Goals as goal

pub returns-clause-row : goal.returns-clause-row
returns-clause-row c = unit_row_valid c.args.p MAX_DEGREE c.args.k
    (omega (arith, c.number-number.ensures.small, c.number-number.ensures.value))
