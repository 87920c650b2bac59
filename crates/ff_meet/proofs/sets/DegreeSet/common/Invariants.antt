use Rattle.ff_meet.proofs.Closures.{IsCommonBelow}
use Rattle.ff_meet.proofs.sets.DegreeSet.common.Given as goal

abbrev pub invariant-loop-e : goal.invariant-loop-e
invariant-loop-e l = IsCommonBelow l.self l.d l.e l.common
