use Rattle.std.proofs.Common.{ap}
use Rattle.lat_session.proofs.Plays.{line_of}
use Rattle.lat_session.proofs.reading.marked.Goals as goal

pub returns : goal.returns
returns g c = ap (line_of c.args.outcome) c.front.ensures.count
