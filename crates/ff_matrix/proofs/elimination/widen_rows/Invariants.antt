use Rattle.ff_matrix.proofs.ResidueRows.{AreSumsBelow}
use Rattle.ff_matrix.proofs.elimination.widen_rows.Given as goal

abbrev pub invariant-loop-i : goal.invariant-loop-i
invariant-loop-i g l = AreSumsBelow g.row.W l.p l.rows l.sums l.i
