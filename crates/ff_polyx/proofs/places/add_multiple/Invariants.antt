use Rattle.std.proofs.Common.{◌≡◌, ℕ, ◌+◌, ◌<◌, ◌≤◌, length, slice_index_or, All}
use Rattle.alg_model.specs.Maps.{field_values}
use Rattle.ff_polyx.proofs.places.add_multiple.Given as goal

abbrev pub invariant-loop-j : goal.invariant-loop-j
invariant-loop-j l = let c = field_values l.field in let o = c.ops in record {
  len : length l.places ≡ length l.initial.places;
  values : All c.Valid l.places;
  below : (k : ℕ) → k < l.at
      → slice_index_or l.places k o.zero ≡ slice_index_or l.initial.places k o.zero;
  done : (k : ℕ) → k < l.j → slice_index_or l.places (l.at + k) o.zero
      ≡ o.add (slice_index_or l.initial.places (l.at + k) o.zero)
      (o.mul l.factor (slice_index_or l.b k o.zero));
  rest : (k : ℕ) → l.j ≤ k → slice_index_or l.places (l.at + k) o.zero
      ≡ slice_index_or l.initial.places (l.at + k) o.zero;
}
