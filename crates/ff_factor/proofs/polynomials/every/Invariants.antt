use Rattle.std.proofs.Common.{◌≡◌, ℕ, ◌-◌, ◌*◌, ◌<◌, ◌≤◌, length, slice_index}
use Rattle.ff_factor.proofs.polynomials.every.Given as goal

abbrev pub invariant-loop-at : goal.invariant-loop-at
invariant-loop-at l = record {
  place : l.at ≡ length l.numbers.items * l.step;
  fewer : length l.numbers.items ≤ l.at;
  room : length l.numbers.items ≤ length l.c;
  below : l.at < 192;
  taken : (k : ℕ) → k < length l.numbers.items → slice_index l.numbers.items k ≡ slice_index l.c (k * l.step);
}

abbrev pub decreases-loop-at : goal.decreases-loop-at
decreases-loop-at l = length l.c - l.at
