use Rattle.std.proofs.Common.{◌≡◌, ◌≤◌, length, drop}
use Rattle.alg_model.specs.Coefficients.{mod_ops}
use Rattle.alg_model.specs.Matrices.{combination}
use Rattle.ff_matrix.specs.PrivateRows.{residue_row}
use Rattle.ff_matrix.proofs.matrices.combine_in.Given as goal

abbrev pub invariant-loop-k : goal.invariant-loop-k
invariant-loop-k g l = record {
  bound : l.k ≤ length l.c;
  prime : l.sums.prime ≡ l.p;
  value : residue_row l.rows l.sums ≡ combination (mod_ops l.p) l.rows (drop l.k l.columns) (drop l.k l.c);
}

abbrev pub decreases-loop-k : goal.decreases-loop-k
decreases-loop-k g l = l.k
