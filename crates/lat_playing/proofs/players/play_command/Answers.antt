-- A command through a port that lasts as long.
use Rattle.std.proofs.Common.{rules}
use Rattle.lat_playing.proofs.PlayedCommands.{port_fits, port_plays}
use Rattle.lat_playing.proofs.players.play_command.Goals as goal

pub play-requires-clause-fit : goal.play-requires-clause-fit
play-requires-clause-fit g c =
    port_fits c.new-port.result _ _ _ c.new-port.ensures.book c.new-port.ensures.pass c.length-length.ensures.whole c.requires.seated

pub returns : goal.returns
returns g c =
    port_plays c.new-port.result c.play.new.port _ _ _ _ c.new-port.ensures.book c.new-port.ensures.pass (search rules) (search rules)
    c.requires.seated.is_pass c.play.ensures.known _ _ _ _ c.play.result c.requires.room c.play.ensures.line c.play.ensures.fit
