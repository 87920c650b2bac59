use Rattle.std.proofs.Common.{◌≡◌, ℕ, ◌+◌, ◌*◌, ◌%◌, ◌<◌, slice_index}
use Rattle.ff_residues.specs.SumRows.{residue_at, sum_below}
use Rattle.ff_embed.proofs.stored_columns.added_columns.Given as goal

abbrev pub invariant-loop-i : goal.invariant-loop-i
invariant-loop-i g l = record {
  prime : l.sums.prime ≡ l.fn.p;
  sums : (k : ℕ) → k < g.row.W → residue_at l.sums k
      ≡ (0 + sum_below l.i (λ j. slice_index l.x j * slice_index l.digits (j * l.n + k))) % l.fn.p;
}
