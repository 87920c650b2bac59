use Rattle.std.proofs.Common.{◌≡◌, ℕ, ◌<◌, [], length, get_or}
use Rattle.ff_matrix.specs.PrivateRows.{IsKernelColumn}
use Rattle.ff_matrix.proofs.solutions.kernel_columns.Given as goal

abbrev pub invariant-loop-f : goal.invariant-loop-f
invariant-loop-f l = record {
  count : length l.basis ≡ l.f-index;
  columns : (t : ℕ) → t < l.f-index → IsKernelColumn l.form.prime l.form.matrix l.pivots (get_or l.free t 0) (get_or l.basis t []);
}
