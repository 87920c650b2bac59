use Rattle.alg_choices.proofs.Laws.{stored_law, only_law}
use Rattle.alg_choices.proofs.stored_map_is_choice.Goals as goal

pub returns-clause-choice : goal.returns-clause-choice
returns-clause-choice c = stored_law

pub returns-clause-only : goal.returns-clause-only
returns-clause-only c = only_law
