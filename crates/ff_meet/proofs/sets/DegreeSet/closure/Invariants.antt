use Rattle.ff_meet.specs.Degrees.{InClosure}
use Rattle.ff_meet.proofs.Closures.{BuiltBelow}
use Rattle.ff_meet.proofs.sets.DegreeSet.closure.Given as goal

abbrev pub invariant-loop-d : goal.invariant-loop-d
invariant-loop-d l = BuiltBelow (InClosure l.self) l.held l.d
