use Rattle.lat_session.proofs.OneOutcome.{command_has_one_outcome}
use Rattle.lat_session.proofs.SomeOutcome.{command_has_outcome}
use Rattle.lat_session.proofs.laws.commands_have_one_outcome.Goals as goal

pub returns-clause-exists : goal.returns-clause-exists
returns-clause-exists c = command_has_outcome

pub returns-clause-determined : goal.returns-clause-determined
returns-clause-determined c = command_has_one_outcome
