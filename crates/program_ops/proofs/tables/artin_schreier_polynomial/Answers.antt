use Rattle.std.proofs.Common.{refl}
use Rattle.program_ops.proofs.Coefficients.{row_residues, row_polynomial}
use Rattle.program_ops.proofs.tables.artin_schreier_polynomial.Goals as goal

pub trimmed-requires-clause-residues : goal.trimmed-requires-clause-residues
trimmed-requires-clause-residues c = row_residues c.args.p c.number-degree.result
    c.artin_schreier_row-row.result c.number-degree.ensures.value c.number-degree.ensures.small.0
    c.artin_schreier_row-row.ensures.coefficients

pub returns : goal.returns
returns c = row_polynomial c.trimmed.result c.args.p c.args.p
    c.number-degree.result c.artin_schreier_row-row.result refl
    c.number-degree.ensures.value c.artin_schreier_row-row.ensures.coefficients
    c.trimmed.ensures.prime c.trimmed.ensures.coefficients
