use Rattle.std.proofs.Common.{◌≡◌, ℕ, ◌+◌, ◌<◌, length, slice_index, slice_index_or, []}
use Rattle.ff_minpoly.specs.PrivateSpans.{IsTable, IsSpan}
use Rattle.ff_minpoly.proofs.relations.add_others.Given as goal

abbrev pub invariant-loop-i : goal.invariant-loop-i
invariant-loop-i g l = record {
  len : length l.rows ≡ length l.initial.rows;
  table : IsTable g.row.W l.p l.n (l.m + l.i) l.rows l.pivots;
  added : (col : ℕ → ℕ → ℕ) → IsSpan g.row.W l.p l.n (l.m + 1) col l.initial.rows l.initial.pivots
      → ((i k : ℕ) → i < length l.block → k < l.n
      → slice_index (slice_index_or l.block i []) k ≡ col (l.m + i) k)
      → IsSpan g.row.W l.p l.n (l.m + l.i) col l.rows l.pivots;
}
