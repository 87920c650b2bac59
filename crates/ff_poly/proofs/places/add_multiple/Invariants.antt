use Rattle.std.proofs.Common.{◌≡◌, ℕ, ◌+◌, ◌*◌, ◌%◌, ◌<◌, ◌≤◌, slice_index, All}
use Rattle.ff_poly.proofs.places.add_multiple.Given as goal

abbrev pub invariant-loop-j : goal.invariant-loop-j
invariant-loop-j l = record {
  residues : All (λ x. x < l.p) l.places;
  below : (k : ℕ) → k < l.at → slice_index l.places k ≡ slice_index l.initial.places k;
  done : (k : ℕ) → k < l.j → slice_index l.places (l.at + k) ≡ (slice_index l.initial.places (l.at + k) + l.factor * slice_index l.b k) % l.p;
  rest : (k : ℕ) → l.j ≤ k → slice_index l.places (l.at + k) ≡ slice_index l.initial.places (l.at + k);
}
