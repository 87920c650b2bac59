use Rattle.std.proofs.Common.{◌≡◌, ℕ, ◌+◌, ◌<◌, length, All}
use Rattle.ff_factor.specs.PrivateSplitting.{ArePlacesOfPower}
use Rattle.ff_factor.proofs.columns.multiply_by_power.Given as goal

abbrev pub invariant-loop-k : goal.invariant-loop-k
invariant-loop-k l = record {
  len : length l.places ≡ length l.initial.places;
  residues : All (λ x. x < l.f.prime) l.places;
  power : (e : ℕ) → ArePlacesOfPower l.f e l.initial.places → ArePlacesOfPower l.f (e + l._k) l.places;
}
