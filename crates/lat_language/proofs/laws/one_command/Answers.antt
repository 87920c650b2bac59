-- What is read of words is one command.
use Rattle.lat_language.proofs.CommandWords.{command_unique}
use Rattle.lat_language.proofs.laws.one_command.Goals as goal

pub returns : goal.returns
returns c = record { commands = command_unique }
