use Rattle.std.proofs.Common.{◌≡◌, ℕ, ◌<◌, ◌==◌, if◌then◌else◌, length, slice_index, All}
use Rattle.alg_model.specs.Coefficients.{mod_ops}
use Rattle.ff_factor.proofs.columns.gap_numbers.Given as goal

abbrev pub invariant-loop-i : goal.invariant-loop-i
invariant-loop-i l = let o = mod_ops l.p in record {
  counted : length l.numbers.items ≡ l.i;
  residues : All (λ x. x < l.p) l.numbers.items;
  places : (j : ℕ) → j < l.i → slice_index l.numbers.items j ≡ o.add (slice_index l.power j) (o.neg (if j == l.k then 1 else 0));
}
