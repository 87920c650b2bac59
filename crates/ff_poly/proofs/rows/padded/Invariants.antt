use Rattle.std.proofs.Common.{◌≡◌, ℕ, ◌+◌, ◌<◌, ◌≤◌, length, slice_index}
use Rattle.ff_poly.proofs.rows.padded.Given as goal

abbrev pub invariant-loop-i : goal.invariant-loop-i
invariant-loop-i g l = record {
  len : length l.row ≡ g.row.D;
  before : (k : ℕ) → k < g.row.W → slice_index l.row k ≡ 0;
  done : (k : ℕ) → k < l.i → slice_index l.row (g.row.W + k) ≡ slice_index l.c k;
  rest : (k : ℕ) → l.i ≤ k → slice_index l.row (g.row.W + k) ≡ 0;
}
