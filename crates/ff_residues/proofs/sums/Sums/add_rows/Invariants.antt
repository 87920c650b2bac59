use Rattle.std.proofs.Common.{◌≡◌, ℕ, ◌+◌, ◌%◌, ◌<◌}
use Rattle.ff_residues.specs.SumRows.{residue_at, row_sum}
use Rattle.ff_residues.proofs.sums.Sums.add_rows.Given as goal

abbrev pub invariant-loop-i : goal.invariant-loop-i
invariant-loop-i g l = record {
  same : l.self.prime ≡ l.initial.self.prime;
  sums : (k : ℕ) → k < g.row.W → residue_at l.self k
      ≡ (residue_at l.initial.self k + row_sum l.i l.factors l.rows k) % l.initial.self.prime;
}
