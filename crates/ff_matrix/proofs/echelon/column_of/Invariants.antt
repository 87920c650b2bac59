use Rattle.std.proofs.Common.{◌≡◌, ◌<◌, map, take, get_or, All}
use Rattle.ff_matrix.proofs.echelon.column_of.Given as goal

abbrev pub invariant-loop-row : goal.invariant-loop-row
invariant-loop-row g l = record {
  value : l.column ≡ map (λ row. get_or row l.k 0) (take l.row-index l.rows);
  residues : All (λ x. x < l.fn.p) l.column;
}
