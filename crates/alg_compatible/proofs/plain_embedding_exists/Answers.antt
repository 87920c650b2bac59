use Rattle.alg_compatible.proofs.Laws.{plain_law, choice_law, choice_one_law}
use Rattle.alg_compatible.proofs.plain_embedding_exists.Goals as goal

pub returns-clause-candidate : goal.returns-clause-candidate
returns-clause-candidate c = plain_law

pub returns-clause-choice : goal.returns-clause-choice
returns-clause-choice c = choice_law

pub returns-clause-unique : goal.returns-clause-unique
returns-clause-unique c = choice_one_law
