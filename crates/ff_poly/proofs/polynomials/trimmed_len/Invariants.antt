use Rattle.std.proofs.Common.{◌≡◌, ℕ, ◌≤◌, length, slice_index}
use Rattle.ff_poly.proofs.polynomials.trimmed_len.Given as goal

abbrev pub invariant-loop-n : goal.invariant-loop-n
invariant-loop-n l = record {
  within : l.n ≤ length l.c;
  zeros : (k : ℕ) → l.n ≤ k → slice_index l.c k ≡ 0;
}

abbrev pub decreases-loop-n : goal.decreases-loop-n
decreases-loop-n l = l.n
