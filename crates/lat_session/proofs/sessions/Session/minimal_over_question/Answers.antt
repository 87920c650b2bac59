use Rattle.std.proofs.lemmas.Result.{err_from_is_err_and}
use Rattle.lat_language.specs.declared.commands.Command.TheVariants.{MinPolyOver}
use Rattle.lat_session.specs.Outcomes.IsFirstUnknown.{here}
use Rattle.lat_session.specs.Outcomes.Asks.{minimal_over}
use Rattle.lat_session.specs.PrivatePlaying.Questions.{asked}
use Rattle.lat_session.proofs.AskedLines.{unknown_operand, unknown_word}
use Rattle.lat_session.proofs.sessions.Session.minimal_over_question.Goals as goal

pub returns-in_err-operand : goal.returns-in_err-operand
returns-in_err-operand g c = let p = err_from_is_err_and c.from_residual.result c.from_residual.ensures.1 in
    rw (p.1, p.2) (λ L s. unknown_operand L c.args.self.now (MinPolyOver c.args.value.now c.args.over.now) c.args.value.now _ (here c.in_err-operand.ensures.1) c.in_err-operand.ensures.0)

pub returns-in_err-number : goal.returns-in_err-number
returns-in_err-number g c = let p = err_from_is_err_and c.from_residual-in_err-number.result c.from_residual-in_err-number.ensures.1 in
    rw (p.1, p.2) (λ L s. unknown_word L c.args.self.now (MinPolyOver c.args.value.now c.args.over.now) c.args.over.now _
    ((c.in_ok-operand.operand, c.in_ok-operand.ensures), tt) (here (c.in_err-number.ensures L s).1) (c.in_err-number.ensures L s).0)

pub returns : goal.returns
returns g c = λ L s. asked (minimal_over c.in_ok-operand.ensures (c.in_ok-number.ensures L s))
