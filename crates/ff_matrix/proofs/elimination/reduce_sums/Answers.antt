use Rattle.std.proofs.Common.{◌≡◌, ℕ, length, ap, subst, arith}
use Rattle.ff_matrix.specs.PrivateRows.{Eliminates, residue_rows}
use Rattle.ff_matrix.proofs.ResidueRows.{reduction_starts}
use Rattle.ff_matrix.proofs.elimination.reduce_sums.Goals as goal

pub loop-column-init : goal.loop-column-init
loop-column-init g c = record {
  sums = c.requires.sums;
  few = omega (arith, ap length c.of_slice-pivots.ensures);
  reduced = rw c.of_slice-pivots.ensures (reduction_starts g.row.W c.args.p c.args.rows.now c.requires.sums);
}

pub loop-column-preserved : goal.loop-column-preserved
loop-column-preserved g c = record {
  sums = c.reduce_column.ensures.sums;
  few = c.reduce_column.ensures.pivots;
  reduced = c.reduce_column.ensures.reduced (residue_rows g.row.W c.args.rows.now) c.loop-column.invariant.reduced;
}

pub returns-clause-reduced : goal.returns-clause-reduced
returns-clause-reduced g c =
    let done : c.loop-column.column ≡ c.args.columns = omega arith in
    let P : ℕ → Type 0 = λ k. Eliminates g.row.W c.args.p k (residue_rows g.row.W c.args.rows.now) (residue_rows g.row.W c.loop-column.rows) c.loop-column.pivots in
    subst P done c.loop-column.invariant.reduced
