use Rattle.std.proofs.Common.{◌≡◌, map, take}
use Rattle.alg_model.specs.Coefficients.{mod_ops}
use Rattle.alg_model.specs.Matrices.{matrix_apply}
use Rattle.ff_embed.proofs.columns.Columns.mul.Given as goal

abbrev pub invariant-loop-k : goal.invariant-loop-k
invariant-loop-k l = record {
  prime : l.columns.prime ≡ l.self.prime;
  rows : l.columns.matrix.rows ≡ l.self.matrix.rows;
  columns : l.columns.matrix.columns
      ≡ map (matrix_apply (mod_ops l.self.prime) l.self.matrix) (take l.k l.b.matrix.columns);
}
