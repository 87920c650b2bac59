use Rattle.lat_playing.proofs.AnsweredScripts.{answered_world}
use Rattle.lat_playing.proofs.laws.answered_sessions_are_worlds.Goals as goal

pub returns : goal.returns
returns c = record { world = answered_world }
