use Rattle.std.proofs.Common.{◌≡◌, ℕ, ◌+◌, ◌<◌, ◌==◌, cond, [], length, get_or}
use Rattle.alg_model.specs.Coefficients.{mod_ops, residues}
use Rattle.alg_model.specs.Matrices.{entry, IsColumn}
use Rattle.ff_matrix.proofs.echelon.augment.Given as goal

abbrev pub invariant-loop-i : goal.invariant-loop-i
invariant-loop-i g l = record {
  rows : (j : ℕ) → j < l.i → IsColumn (residues l.m.prime) g.row.W (get_or l.rows j []);
  left : (j k : ℕ) → j < l.i → k < length l.m.matrix.columns → get_or (get_or l.rows j []) k 0 ≡ entry (mod_ops l.m.prime) l.m.matrix j k;
  right : (j k : ℕ) → j < l.i → k < l.m.matrix.rows
      → get_or (get_or l.rows j []) (length l.m.matrix.columns + k) 0 ≡ cond (j == k) 1 0;
}
