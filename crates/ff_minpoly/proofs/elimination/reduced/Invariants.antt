use Rattle.std.proofs.Common.{◌≡◌, ℕ, length, slice_index}
use Rattle.ff_residues.specs.SumRows.{residue_at}
use Rattle.ff_minpoly.specs.PrivateSpans.{IsSpan}
use Rattle.ff_minpoly.proofs.Spans.{IsReducing}
use Rattle.ff_minpoly.proofs.elimination.reduced.Given as goal

abbrev pub invariant-loop-i : goal.invariant-loop-i
invariant-loop-i g l = record {
  prime : l.row.prime ≡ l.p;
  reducing : (m : ℕ) (col : ℕ → ℕ → ℕ) → IsSpan g.row.W l.p (length l.column) m col l.rows l.pivots
      → IsReducing g.row.W l.p (length l.column) m col l.pivots l.i (slice_index l.column) (residue_at l.row);
}
