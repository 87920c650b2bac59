use Rattle.lat_playing.proofs.ScriptLaws.{some_world, some_transcript}
use Rattle.lat_playing.proofs.laws.scripts_have_transcripts.Goals as goal

pub returns-clause-world : goal.returns-clause-world
returns-clause-world c = some_world

pub returns-clause-transcript : goal.returns-clause-transcript
returns-clause-transcript c = some_transcript
