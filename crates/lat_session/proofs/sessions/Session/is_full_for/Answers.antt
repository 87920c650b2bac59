use Rattle.lat_session.proofs.Tables.{known_not_full, new_full_at_limit}
use Rattle.lat_session.proofs.sessions.Session.is_full_for.Goals as goal

pub returns-then-not-is_new : goal.returns-then-not-is_new
returns-then-not-is_new c = known_not_full c.is_new.result c.args.self.now c.args.name.now c.is_new.ensures c.if-not-is_new.true

pub returns : goal.returns
returns c = new_full_at_limit c.is_new.result c.is_at_limit.result c.args.self.now c.args.name.now c.is_new.ensures
    c.if-not-is_new.false c.is_at_limit.ensures
