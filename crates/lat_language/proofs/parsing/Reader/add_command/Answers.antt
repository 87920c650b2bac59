-- The commands are counted.
use Rattle.lat_language.proofs.SessionPlaces.{counted_command}
use Rattle.lat_language.proofs.parsing.Reader.add_command.Goals as goal

pub invariant_of-self-2 : goal.invariant_of-self-2
invariant_of-self-2 c =
    let i = c.self.inside in
    counted_command i.prologue c.push_command.new.prologue i.sessions c.push_command.new.sessions c.args.command i.commands
    c.self.invariant c.in_ok-push_command.ensures.prologue c.in_ok-push_command.ensures.sessions
