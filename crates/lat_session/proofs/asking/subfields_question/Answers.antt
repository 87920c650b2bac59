use Rattle.std.proofs.lemmas.Result.{err_from_is_err_and}
use Rattle.lat_language.specs.declared.commands.Command.TheVariants as commands
use Rattle.lat_session.specs.Outcomes.IsFirstUnknown.{here}
use Rattle.lat_session.specs.Outcomes.Asks.{subfields}
use Rattle.lat_session.specs.PrivatePlaying.Questions.{asked}
use Rattle.lat_session.proofs.AskedLines.{unknown_word}
use Rattle.lat_session.proofs.asking.subfields_question.Goals as goal

pub returns-in_err-number : goal.returns-in_err-number
returns-in_err-number g c = let p = err_from_is_err_and c.from_residual.result c.from_residual.ensures.1 in
    rw (p.1, p.2) (λ variables L s. unknown_word L variables (commands.List c.args.field.now) c.args.field.now _ tt (here (c.in_err-number.ensures L s).1) (c.in_err-number.ensures L s).0)

pub returns : goal.returns
returns g c = λ variables L s. asked (subfields (c.in_ok-number.ensures L s))
