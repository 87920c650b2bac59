use Rattle.std.proofs.Common.{◌≡◌, ℕ, ◌+◌, ◌%◌, ◌<◌}
use Rattle.ff_residues.specs.SumRows.{residue_at, shifted_sum}
use Rattle.ff_residues.proofs.sums.Sums.add_shifted.Given as goal

abbrev pub invariant-loop-i : goal.invariant-loop-i
invariant-loop-i g l = record {
  same : l.self.prime ≡ l.initial.self.prime;
  sums : (k : ℕ) → k < g.row.W → residue_at l.self k
      ≡ (residue_at l.initial.self k + shifted_sum l.i l.factors l.list (l.start + k)) % l.initial.self.prime;
}
