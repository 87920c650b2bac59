use Rattle.lat_playing.proofs.ScriptLaws.{one_world, one_solo, one_transcript}
use Rattle.lat_playing.proofs.laws.scripts_have_one_transcript.Goals as goal

pub returns-clause-world : goal.returns-clause-world
returns-clause-world c = one_world

pub returns-clause-solo : goal.returns-clause-solo
returns-clause-solo c = one_solo

pub returns-clause-transcript : goal.returns-clause-transcript
returns-clause-transcript c = one_transcript
