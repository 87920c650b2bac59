use Rattle.std.proofs.Common.{◌+◌}
use Rattle.ff_poly.specs.declared.TheConstants.{MAX_DEGREE}
use Rattle.ff_meet.proofs.Closures.{replicate_holds_nothing}
use Rattle.ff_meet.proofs.sets.nothing.Goals as goal

pub returns-clause-none : goal.returns-clause-none
returns-clause-none c d h = replicate_holds_nothing (MAX_DEGREE + 1) d h
