use Rattle.alg_compatible.proofs.Laws.{opening_law, opening_exists_law, opening_one_law}
use Rattle.alg_compatible.proofs.opening_is_compatible.Goals as goal

pub returns-clause-compatible : goal.returns-clause-compatible
returns-clause-compatible c = opening_law

pub returns-clause-exists : goal.returns-clause-exists
returns-clause-exists c = opening_exists_law

pub returns-clause-determined : goal.returns-clause-determined
returns-clause-determined c = opening_one_law
