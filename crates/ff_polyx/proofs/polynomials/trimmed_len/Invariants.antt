use Rattle.std.proofs.Common.{◌≡◌, ℕ, ◌≤◌, length, slice_index_or}
use Rattle.alg_model.specs.Maps.{field_values}
use Rattle.ff_polyx.proofs.polynomials.trimmed_len.Given as goal

abbrev pub invariant-loop-n : goal.invariant-loop-n
invariant-loop-n l = let o = (field_values l.field).ops in record {
  within : l.n ≤ length l.c;
  zeros : (k : ℕ) → l.n ≤ k → slice_index_or l.c k o.zero ≡ o.zero;
}

abbrev pub decreases-loop-n : goal.decreases-loop-n
decreases-loop-n l = l.n
