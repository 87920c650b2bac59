use Rattle.lat_playing.proofs.ScriptLaws.{solo_world, solo_fair}
use Rattle.lat_playing.proofs.laws.schedules_are_events.Goals as goal

pub returns-clause-events : goal.returns-clause-events
returns-clause-events c = solo_world

pub returns-clause-fair : goal.returns-clause-fair
returns-clause-fair c = solo_fair
