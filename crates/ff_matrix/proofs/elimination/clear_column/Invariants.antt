use Rattle.ff_matrix.specs.PrivateRows.{AreSums, residue_rows}
use Rattle.ff_matrix.proofs.RowPlaces.{AreClearedBelow}
use Rattle.ff_matrix.proofs.elimination.clear_column.Given as goal

abbrev pub invariant-loop-i : goal.invariant-loop-i
invariant-loop-i g l = record {
  sums : AreSums l.p l.rows;
  cleared : AreClearedBelow g.row.W l.p l.column l.pivot l.source (residue_rows g.row.W l.fn.rows) (residue_rows g.row.W l.rows) l.i;
}
