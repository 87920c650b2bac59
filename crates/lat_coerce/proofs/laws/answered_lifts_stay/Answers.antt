use Rattle.lat_coerce.proofs.LiftedValues.{answered_lift_stays}
use Rattle.lat_coerce.proofs.laws.answered_lifts_stay.Goals as goal

pub returns : goal.returns
returns c = record { stays = answered_lift_stays }
