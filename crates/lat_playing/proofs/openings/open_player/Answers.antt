-- The pass has seen all entries, and there are no variables.
use Rattle.lat_playing.proofs.OpenedPlayers.{opened_ready}
use Rattle.lat_playing.proofs.openings.open_player.Goals as goal

pub returns-clause-ready : goal.returns-clause-ready
returns-clause-ready c =
    opened_ready c.args.book.now c.args.number _ c.in_ok-open.ensures.number c.in_ok-open.ensures.pass c.open.ensures c.requires.proper
