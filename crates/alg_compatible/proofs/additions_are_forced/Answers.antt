use Rattle.alg_compatible.proofs.Laws.{fields_law, maps_law}
use Rattle.alg_compatible.proofs.additions_are_forced.Goals as goal

pub returns-clause-fields : goal.returns-clause-fields
returns-clause-fields c = fields_law

pub returns-clause-maps : goal.returns-clause-maps
returns-clause-maps c = maps_law
