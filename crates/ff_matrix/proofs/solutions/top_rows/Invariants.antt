use Rattle.std.proofs.Common.{◌≡◌, map, take, All}
use Rattle.alg_model.specs.Coefficients.{residues}
use Rattle.alg_model.specs.Matrices.{IsColumn}
use Rattle.ff_matrix.proofs.solutions.top_rows.Given as goal

abbrev pub invariant-loop-column : goal.invariant-loop-column
invariant-loop-column l = record {
  value : l.columns ≡ map (take l.n) (take l.column-index l.m.matrix.columns);
  columns : All (IsColumn (residues l.m.prime) l.n) l.columns;
}
