use Rattle.std.proofs.Common.{◌≡◌, ℕ, ◌<◌, ◌≤◌, [], get_or}
use Rattle.ff_matrix.specs.PrivateRows.{residue_rows}
use Rattle.ff_matrix.proofs.elimination.find_pivot.Given as goal

abbrev pub invariant-loop-s : goal.invariant-loop-s
invariant-loop-s g l = (i : ℕ) → l.first ≤ i → i < l.s → get_or (get_or (residue_rows g.row.W l.rows) i []) l.column 0 ≡ 0
