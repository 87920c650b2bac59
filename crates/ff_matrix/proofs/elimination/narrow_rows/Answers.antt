use Rattle.std.proofs.Common.{[], arith, ap, ◌∙◌}
use Rattle.std.proofs.lemmas.List.{ext_get_or}
use Rattle.ff_residues.specs.SumRows.{residue_at}
use Rattle.ff_matrix.specs.PrivateRows.{residue_rows}
use Rattle.ff_matrix.proofs.ResidueRows.{one_more_row, residue_rows_length}
use Rattle.ff_matrix.proofs.elimination.narrow_rows.Goals as goal

pub loop-i-preserved : goal.loop-i-preserved
loop-i-preserved g c =
    one_more_row g.row.W c.loop-i.i c.loop-i.rows c.args.sums.now c.index-sums-i.result c.row.result (omega (arith, c.loop-i-test.true))
    (omega (arith, c.loop-i.auto.rows, c.requires.count)) c.row.ensures.len (λ k. c.row.ensures.row k ∙ ap (λ s. residue_at s k) c.index-sums-i.is) c.loop-i.invariant

pub returns : goal.returns
returns g c = record {
  same = ext_get_or [] c.loop-i.rows (residue_rows g.row.W c.args.sums.now)
      (omega (arith, c.loop-i.auto.rows, c.requires.count, residue_rows_length g.row.W c.args.sums.now))
      (λ j l. c.loop-i.invariant j (omega (arith, c.loop-i.auto.rows, c.requires.count, c.loop-i-test.false)));
}
