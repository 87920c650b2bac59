use Rattle.alg_choices.proofs.Laws.{choice_law, plain_law}
use Rattle.alg_choices.proofs.choice_is_least_root.Goals as goal

pub returns-clause-choice : goal.returns-clause-choice
returns-clause-choice c = choice_law

pub returns-clause-plain : goal.returns-clause-plain
returns-clause-plain c = plain_law
