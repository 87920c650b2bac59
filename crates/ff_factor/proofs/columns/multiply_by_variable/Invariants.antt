use Rattle.std.proofs.Common.{◌≡◌, ℕ, ◌+◌, ◌*◌, ◌%◌, ◌<◌, ◌≤◌, ◌∷◌, length, slice_index, All}
use Rattle.ff_factor.proofs.columns.multiply_by_variable.Given as goal

abbrev pub invariant-loop-i : goal.invariant-loop-i
invariant-loop-i l = record {
  len : length l.places ≡ length l.initial.places;
  below : l.below ≡ slice_index (0 ∷ l.initial.places) l.i;
  small : l.below < l.p;
  residues : All (λ x. x < l.p) l.places;
  done : (k : ℕ) → k < l.i → slice_index l.places k ≡ (l.multiple * slice_index l.f k + slice_index (0 ∷ l.initial.places) k) % l.p;
  rest : (k : ℕ) → l.i ≤ k → slice_index l.places k ≡ slice_index l.initial.places k;
}
