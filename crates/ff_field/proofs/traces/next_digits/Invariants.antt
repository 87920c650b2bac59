use Rattle.std.proofs.Common.{◌≡◌, ℕ, [], ◌%◌, ◌<◌, length, slice_index, slice_index_or, All}
use Rattle.ff_poly.specs.declared.TheConstants.{MAX_DEGREE}
use Rattle.ff_field.specs.PrivateTables.{scalar_sum}
use Rattle.ff_field.proofs.traces.next_digits.Given as goal

abbrev pub invariant-loop-k : goal.invariant-loop-k
invariant-loop-k l = record {
  count : length l.next ≡ MAX_DEGREE;
  residues : All (λ x. x < l.p) l.next;
  done : (k : ℕ) → k < l.k → slice_index l.next k ≡ scalar_sum l.n l.row (slice_index_or l.table k []) % l.p;
}
