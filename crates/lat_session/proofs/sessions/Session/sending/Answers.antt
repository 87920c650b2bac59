use Rattle.std.proofs.lemmas.Result.{err_from_is_err_and}
use Rattle.lat_session.proofs.Plays.{sends_pair, first_unsent, second_unsent}
use Rattle.lat_session.proofs.sessions.Session.sending.Goals as goal

pub returns-in_err-value : goal.returns-in_err-value
returns-in_err-value c = let p = err_from_is_err_and c.from_residual.result c.from_residual.ensures.1 in
    rw (p.1, p.2) (first_unsent c.args.self.now c.args.value.now c.args.image.now _ c.in_err-value.ensures)

pub returns-in_err-image : goal.returns-in_err-image
returns-in_err-image c = let p = err_from_is_err_and c.from_residual-in_err-image.result c.from_residual-in_err-image.ensures.1 in
    rw (p.1, p.2) (second_unsent c.args.self.now c.args.value.now c.args.image.now _ c.in_ok-value.value c.in_ok-value.ensures c.in_err-image.ensures)

pub returns : goal.returns
returns c = sends_pair c.in_ok-value.ensures c.in_ok-image.ensures
