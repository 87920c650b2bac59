use Rattle.lat_playing.proofs.HeldChanges.{world_holds}
use Rattle.lat_playing.proofs.ScriptLaws.{legal_history}
use Rattle.lat_playing.proofs.laws.histories_hold_changes.Goals as goal

pub returns-clause-held : goal.returns-clause-held
returns-clause-held c = world_holds

pub returns-clause-legal : goal.returns-clause-legal
returns-clause-legal c = legal_history
