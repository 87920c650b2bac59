use Rattle.std.proofs.Common.{◌≡◌, map, take, All}
use Rattle.alg_model.specs.Coefficients.{mod_ops, residues}
use Rattle.alg_model.specs.Matrices.{matrix_apply, IsColumn}
use Rattle.ff_matrix.proofs.matrices.apply_all.Given as goal

abbrev pub invariant-loop-column : goal.invariant-loop-column
invariant-loop-column l = record {
  value : l.list ≡ map (matrix_apply (mod_ops l.m.prime) l.m.matrix) (take l.column-index l.columns);
  columns : All (IsColumn (residues l.m.prime) l.m.matrix.rows) l.list;
}
