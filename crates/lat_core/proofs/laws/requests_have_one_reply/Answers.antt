use Rattle.lat_core.proofs.StepExists.{reply_exists}
use Rattle.lat_core.proofs.StepDetermined.{reply_one}
use Rattle.lat_core.proofs.laws.requests_have_one_reply.Goals as goal

pub returns-clause-exists : goal.returns-clause-exists
returns-clause-exists c = reply_exists

pub returns-clause-determined : goal.returns-clause-determined
returns-clause-determined c = reply_one
