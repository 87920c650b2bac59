use Rattle.lat_core.proofs.StepKeeps.{request_keeps, refusal_changes_nothing}
use Rattle.lat_core.proofs.laws.requests_keep_compatible.Goals as goal

pub returns-clause-compatible : goal.returns-clause-compatible
returns-clause-compatible c = request_keeps

pub returns-clause-refused : goal.returns-clause-refused
returns-clause-refused c = refusal_changes_nothing
