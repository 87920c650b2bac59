use Rattle.std.proofs.Common.{◌∙◌, ap}
use Rattle.std.proofs.lemmas.Result.{err_from_is_err_and}
use Rattle.std.specs.FinMap.{insert}
use Rattle.lat_session.specs.Variables.{Variables}
use Rattle.lat_session.specs.PrivateVariables.{variables_of}
use Rattle.lat_session.proofs.Tables.{stored_variables}
use Rattle.lat_session.proofs.sessions.Session.store.Goals as goal

pub returns-in_err-insert-clause-err : goal.returns-in_err-insert-clause-err
returns-in_err-insert-clause-err c = let p = err_from_is_err_and c.from_residual.result c.from_residual.ensures.1 in
    rw p.1 (ap variables_of c.in_err-insert.ensures.err ∙ c.self.view_is)

pub returns-clause-ok : goal.returns-clause-ok
returns-clause-ok c = stored_variables c.self.inside.variables.entries c.insert.new.self.entries c.key_of.result c.args.name.now
    c.args.value c.key_of.ensures c.in_ok-insert.ensures.updates.0
    ∙ ap (λ (vs : Variables). insert vs c.args.name.now c.args.value) c.self.view_is
