use Rattle.std.proofs.lemmas.Result.{err_from_is_err_and}
use Rattle.lat_session.proofs.Plays.{lets_nothing, lets_value}
use Rattle.lat_session.proofs.sessions.Session.digits_in.Goals as goal

pub returns-in_err-number : goal.returns-in_err-number
returns-in_err-number g c = let p = err_from_is_err_and c.from_residual.result c.from_residual.ensures.1 in
    rw (p.1, p.2) (lets_nothing (g.P.Port.knowledge c.args.port.now) c.args.self.now c.args.field.now c.args.digits.now _ c.in_err-number.ensures)

pub read_digits-requires : goal.read_digits-requires
read_digits-requires g c = (c.requires.0, c.requires.1, (c.in_ok-number.ensures c.requires.0 c.requires.1).within)

pub returns : goal.returns
returns g c = lets_value (g.P.Port.knowledge c.args.port.now) c.args.self.now c.args.field.now c.args.digits.now
    c.in_ok-number.number c.read_digits.result c.in_ok-number.ensures c.read_digits.ensures
