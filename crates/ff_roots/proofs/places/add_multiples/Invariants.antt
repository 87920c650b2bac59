use Rattle.std.proofs.Common.{◌≡◌, ℕ, ◌<◌, ◌≤◌, length, slice_index_or, All}
use Rattle.alg_model.specs.Maps.{field_values}
use Rattle.ff_roots.proofs.places.add_multiples.Given as goal

abbrev pub invariant-loop-l : goal.invariant-loop-l
invariant-loop-l l = let c = field_values l.field in let o = c.ops in record {
  len : length l.places ≡ length l.initial.places;
  values : All c.Valid l.places;
  done : (k : ℕ) → k < l.l → slice_index_or l.places k o.zero
      ≡ o.add (slice_index_or l.initial.places k o.zero)
      (o.mul l.v (slice_index_or l.values k o.zero));
  rest : (k : ℕ) → l.l ≤ k → slice_index_or l.places k o.zero
      ≡ slice_index_or l.initial.places k o.zero;
}
