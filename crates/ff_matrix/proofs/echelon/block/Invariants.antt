use Rattle.std.proofs.Common.{◌≡◌, map, get_or, length, All}
use Rattle.std.specs.List.{range_with_len}
use Rattle.alg_model.specs.Coefficients.{residues}
use Rattle.alg_model.specs.Matrices.{IsColumn}
use Rattle.ff_matrix.proofs.echelon.block.Given as goal

abbrev pub invariant-loop-k : goal.invariant-loop-k
invariant-loop-k g l = record {
  value : l.columns ≡ map (λ k. map (λ row. get_or row k 0) l.rows) (range_with_len l.start l.k);
  columns : All (IsColumn (residues l.p) (length l.rows)) l.columns;
}
