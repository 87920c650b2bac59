use Rattle.lat_playing.proofs.AnsweredSessions.{lines_answer}
use Rattle.lat_playing.proofs.laws.lines_answer_commands.Goals as goal

pub returns : goal.returns
returns c = record { answered = lines_answer }
