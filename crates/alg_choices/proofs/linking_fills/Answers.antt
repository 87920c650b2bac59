use Rattle.alg_choices.proofs.Laws.{linking_law, pairs_law}
use Rattle.alg_choices.proofs.linking_fills.Goals as goal

pub returns-clause-filled : goal.returns-clause-filled
returns-clause-filled c = linking_law

pub returns-clause-counted : goal.returns-clause-counted
returns-clause-counted c = pairs_law
