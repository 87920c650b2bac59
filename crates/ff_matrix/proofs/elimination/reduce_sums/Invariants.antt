use Rattle.std.proofs.Common.{◌≤◌, length}
use Rattle.ff_matrix.specs.PrivateRows.{AreSums, Eliminates, residue_rows}
use Rattle.ff_matrix.proofs.elimination.reduce_sums.Given as goal

abbrev pub invariant-loop-column : goal.invariant-loop-column
invariant-loop-column g l = record {
  sums : AreSums l.p l.rows;
  few : length l.pivots ≤ l.column;
  reduced : Eliminates g.row.W l.p l.column (residue_rows g.row.W l.fn.rows) (residue_rows g.row.W l.rows) l.pivots;
}
