use Rattle.ff_meet.specs.Degrees.{InClosure, Holds}
use Rattle.ff_meet.proofs.Closures.{BuiltBelow}
use Rattle.ff_meet.proofs.sets.DegreeSet.missing.Given as goal

abbrev pub invariant-loop-d : goal.invariant-loop-d
invariant-loop-d l = BuiltBelow (λ d. InClosure l.self d × (Holds l.self d → ⊥)) l.held l.d
