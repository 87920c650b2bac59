use Rattle.std.proofs.lemmas.Result.{err_from_is_err_and}
use Rattle.lat_language.specs.declared.commands.Command.TheVariants.{MinPoly}
use Rattle.lat_session.specs.Outcomes.IsFirstUnknown.{here}
use Rattle.lat_session.specs.Outcomes.Asks.{minimal_polynomial}
use Rattle.lat_session.specs.PrivatePlaying.Questions.{asked}
use Rattle.lat_session.proofs.AskedLines.{unknown_operand}
use Rattle.lat_session.proofs.sessions.Session.minimal_question.Goals as goal

pub returns-in_err-operand : goal.returns-in_err-operand
returns-in_err-operand c = let p = err_from_is_err_and c.from_residual.result c.from_residual.ensures.1 in
    rw (p.1, p.2) (λ L. unknown_operand L c.args.self.now (MinPoly c.args.value.now) c.args.value.now _ (here c.in_err-operand.ensures.1) c.in_err-operand.ensures.0)

pub returns : goal.returns
returns c = λ L. asked (minimal_polynomial c.in_ok-operand.ensures)
