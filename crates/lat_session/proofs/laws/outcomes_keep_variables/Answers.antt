use Rattle.lat_session.proofs.FittingValues.{outcome_keeps_variables}
use Rattle.lat_session.proofs.laws.outcomes_keep_variables.Goals as goal

pub returns : goal.returns
returns c = record { fit = outcome_keeps_variables }
