use Rattle.std.proofs.Common.{get_or, ap, sym, ◌∙◌}
use Rattle.ff_residues.specs.SumRows.{residue_at}
use Rattle.ff_matrix.proofs.ResidueRows.{residue_rows_at, residue_row_at}
use Rattle.ff_matrix.proofs.elimination.residue_in.Goals as goal

pub returns : goal.returns
returns g c =
    c.at.ensures.value ∙ ap (λ s. residue_at s c.args.column) c.index-rows-row.is
    ∙ sym (ap (λ xs. get_or xs c.args.column 0) (residue_rows_at g.row.W c.args.row c.args.rows.now c.index-rows-row.result c.requires.row)
    ∙ residue_row_at g.row.W c.args.column (get_or c.args.rows.now c.args.row c.index-rows-row.result) c.requires.column)
