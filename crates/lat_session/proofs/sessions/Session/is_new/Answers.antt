use Rattle.std.proofs.Common.{not, refl}
use Rattle.lat_session.proofs.Tables.{is_new_or_not}
use Rattle.lat_session.proofs.sessions.Session.is_new.Goals as goal

pub returns : goal.returns
returns c = is_new_or_not (not c.contains_key.result) c.contains_key.result c.args.self.now c.key_of-key.result c.args.name.now
    c.self.inside.variables.entries refl c.contains_key.ensures c.key_of-key.ensures c.self.view_is
