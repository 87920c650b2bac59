use Rattle.alg_compatible.proofs.Laws.{missing_law, missing_one_law}
use Rattle.alg_compatible.proofs.missing_degrees_are_determined.Goals as goal

pub returns-clause-exists : goal.returns-clause-exists
returns-clause-exists c = missing_law

pub returns-clause-unique : goal.returns-clause-unique
returns-clause-unique c = missing_one_law
