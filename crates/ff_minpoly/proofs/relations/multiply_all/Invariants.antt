use Rattle.std.proofs.Common.{◌≡◌, ℕ, ◌<◌, ◌≤◌, length, slice_index_or, [], All}
use Rattle.alg_model.specs.Maps.{field_values}
use Rattle.ff_minpoly.proofs.relations.multiply_all.Given as goal

abbrev pub invariant-loop-i : goal.invariant-loop-i
invariant-loop-i l = record {
  len : length l.block ≡ length l.initial.block;
  values : All (field_values l.field).Valid l.block;
  done : (k : ℕ) → k < l.i → slice_index_or l.block k []
      ≡ (field_values l.field).ops.mul (slice_index_or l.initial.block k []) l.a;
  rest : (k : ℕ) → l.i ≤ k → slice_index_or l.block k [] ≡ slice_index_or l.initial.block k [];
}
