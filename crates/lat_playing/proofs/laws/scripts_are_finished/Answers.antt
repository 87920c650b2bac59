use Rattle.lat_playing.proofs.FinishedWorlds.{solo_finished}
use Rattle.lat_playing.proofs.laws.scripts_are_finished.Goals as goal

pub returns : goal.returns
returns c = record { finished = solo_finished }
