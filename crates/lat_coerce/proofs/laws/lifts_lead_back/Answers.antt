use Rattle.lat_coerce.proofs.LiftedValues.{lift_gives_value, lift_leads_back}
use Rattle.lat_coerce.proofs.laws.lifts_lead_back.Goals as goal

pub returns-clause-value : goal.returns-clause-value
returns-clause-value c = lift_gives_value

pub returns-clause-back : goal.returns-clause-back
returns-clause-back c = lift_leads_back
