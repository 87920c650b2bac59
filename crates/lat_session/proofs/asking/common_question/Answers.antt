use Rattle.std.proofs.lemmas.Result.{err_from_is_err_and}
use Rattle.lat_language.specs.declared.commands.Command.TheVariants.{Common}
use Rattle.lat_session.specs.Outcomes.IsFirstUnknown.{here, later}
use Rattle.lat_session.specs.Outcomes.Asks.{common}
use Rattle.lat_session.specs.PrivatePlaying.Questions.{asked}
use Rattle.lat_session.proofs.AskedLines.{unknown_word}
use Rattle.lat_session.proofs.asking.common_question.Goals as goal

pub returns-in_err-a : goal.returns-in_err-a
returns-in_err-a g c = let p = err_from_is_err_and c.from_residual.result c.from_residual.ensures.1 in
    rw (p.1, p.2) (λ variables L s. unknown_word L variables (Common c.args.first.now c.args.second.now) c.args.first.now _ tt (here (c.in_err-a.ensures L s).1) (c.in_err-a.ensures L s).0)

pub returns-in_err-b : goal.returns-in_err-b
returns-in_err-b g c = let p = err_from_is_err_and c.from_residual-in_err-b.result c.from_residual-in_err-b.ensures.1 in
    rw (p.1, p.2) (λ variables L s. unknown_word L variables (Common c.args.first.now c.args.second.now) c.args.second.now _ tt (later (c.in_ok-a.a, c.in_ok-a.ensures L s) (here (c.in_err-b.ensures L s).1)) (c.in_err-b.ensures L s).0)

pub returns : goal.returns
returns g c = λ variables L s. asked (common (c.in_ok-a.ensures L s) (c.in_ok-b.ensures L s))
