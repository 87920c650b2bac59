use Rattle.std.proofs.Common.{◌≡◌, ℕ, ◌<◌, [], get_or}
use Rattle.ff_matrix.specs.PrivateRows.{residue_rows}
use Rattle.ff_matrix.proofs.elimination.narrow_rows.Given as goal

abbrev pub invariant-loop-i : goal.invariant-loop-i
invariant-loop-i g l = (j : ℕ) → j < l.i → get_or l.rows j [] ≡ get_or (residue_rows g.row.W l.sums) j []
