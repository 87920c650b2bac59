use Rattle.std.proofs.Common.{ap}
use Rattle.lat_session.specs.PrivateVariables.{variables_of}
use Rattle.lat_session.proofs.sessions.Session.open.Goals as goal

pub returns : goal.returns
returns c = ap variables_of c.new.ensures.empty
