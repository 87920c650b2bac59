use Rattle.std.proofs.Common.{◌≡◌, ℕ, ◌+◌, ◌*◌, ◌%◌, All, ◌<◌, ◌≤◌, length, slice_index}
use Rattle.ff_poly.specs.declared.TheConstants.{MAX_POLY}
use Rattle.ff_poly.proofs.derivatives.derivative_places.Given as goal

abbrev pub invariant-loop-k : goal.invariant-loop-k
invariant-loop-k l = record {
  residues : All (λ x. x < l.p) l.places;
  len : length l.places ≡ MAX_POLY;
  done : (i : ℕ) → i + 1 < l.k → slice_index l.places i ≡ ((i + 1) * slice_index l.c (i + 1)) % l.p;
  rest : (i : ℕ) → l.k ≤ i + 1 → slice_index l.places i ≡ 0;
}
