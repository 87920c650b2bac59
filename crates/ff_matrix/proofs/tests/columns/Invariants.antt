use Rattle.std.proofs.Common.{◌≡◌, length, All}
use Rattle.alg_model.specs.Coefficients.{residues}
use Rattle.alg_model.specs.Matrices.{IsColumn}
use Rattle.ff_matrix.proofs.tests.columns.Given as goal

abbrev pub invariant-loop-k : goal.invariant-loop-k
invariant-loop-k g l = record {
  count : length l.list.items ≡ l._k;
  columns : All (IsColumn (residues l.p) l.length) l.list.items;
}
