use Rattle.ff_matrix.proofs.PivotPlaces.{AreFreeBelow}
use Rattle.ff_matrix.proofs.solutions.free_columns.Given as goal

abbrev pub invariant-loop-k : goal.invariant-loop-k
invariant-loop-k l = AreFreeBelow l.pivots l.free l.next l.k
