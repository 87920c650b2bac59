use Rattle.lat_history.proofs.LiftsStay.{seen_lift_stays}
use Rattle.lat_history.proofs.laws.seen_lifts_stay.Goals as goal

pub returns : goal.returns
returns c = record { stays = seen_lift_stays }
