use Rattle.std.proofs.Common.{◌≡◌, map}
use Rattle.std.specs.List.{range_with_len}
use Rattle.alg_model.specs.Coefficients.{mod_ops}
use Rattle.alg_model.specs.Matrices.{unit_column}
use Rattle.ff_embed.proofs.columns.Columns.identity.Given as goal

abbrev pub invariant-loop-k : goal.invariant-loop-k
invariant-loop-k l = record {
  prime : l.columns.prime ≡ l.p;
  rows : l.columns.matrix.rows ≡ l.n;
  columns : l.columns.matrix.columns
      ≡ map (unit_column (mod_ops l.p) l.n) (range_with_len 0 l.k);
}
