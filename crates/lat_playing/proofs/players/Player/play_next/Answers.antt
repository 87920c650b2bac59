-- The first of the commands that are left, with its line.
use Rattle.std.proofs.Common.{rules, refl}
use Rattle.lat_playing.proofs.PlayedCommands.{next_adds}
use Rattle.lat_playing.proofs.players.Player.play_next.Goals as goal

pub returns : goal.returns
returns g c =
    next_adds c.args.book.now c.args.self.now c.play_command.new.book
    (record { session = c.play_command.new.session; pass = c.play_command.new.pass; left = c.in-Some.rest; text = c.add_line.new.out })
    c.in-Some.command.now c.in_ok-line.line c.in-Some.rest.now c.in-Some.ensures.cases.0 (search rules) c.add_line.result c.add_line.ensures.ok refl
