use Rattle.std.proofs.Common.{◌≡◌, ℕ, ◌<◌, ◌≤◌, length, slice_index}
use Rattle.ff_poly.specs.declared.TheConstants.{MAX_POLY}
use Rattle.ff_poly.proofs.places.places_of.Given as goal

abbrev pub invariant-loop-i : goal.invariant-loop-i
invariant-loop-i l = record {
  len : length l.places ≡ MAX_POLY;
  done : (k : ℕ) → k < l.i → slice_index l.places k ≡ slice_index l.c k;
  rest : (k : ℕ) → l.i ≤ k → slice_index l.places k ≡ 0;
}
