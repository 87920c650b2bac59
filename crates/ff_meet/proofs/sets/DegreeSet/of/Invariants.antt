use Rattle.std.proofs.Common.{ℕ, ◌<◌, Contains, slice_index}
use Rattle.ff_meet.specs.Degrees.{Holds, IsDegreeSet}
use Rattle.ff_meet.proofs.sets.DegreeSet.of.Given as goal

abbrev pub invariant-loop-d : goal.invariant-loop-d
invariant-loop-d l = record {
  set : IsDegreeSet l.held;
  only : (d : ℕ) → Holds l.held d → Contains l.degrees d;
  all : (k : ℕ) → k < l.d-index → Holds l.held (slice_index l.degrees k);
}
