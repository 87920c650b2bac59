use Rattle.std.proofs.lemmas.Result.{err_from_is_err_and}
use Rattle.lat_language.specs.declared.commands.Command.TheVariants.{Map}
use Rattle.lat_session.specs.Outcomes.IsFirstUnknown.{here, later}
use Rattle.lat_session.specs.Outcomes.Asks.{map}
use Rattle.lat_session.specs.PrivatePlaying.Questions.{asked}
use Rattle.lat_session.proofs.AskedLines.{unknown_word}
use Rattle.lat_session.proofs.asking.image_question.Goals as goal

pub returns-in_err-from : goal.returns-in_err-from
returns-in_err-from g c = let p = err_from_is_err_and c.from_residual.result c.from_residual.ensures.1 in
    rw (p.1, p.2) (λ variables L s. unknown_word L variables (Map c.args.from.now c.args.into.now) c.args.from.now _ tt (here (c.in_err-from.ensures L s).1) (c.in_err-from.ensures L s).0)

pub returns-in_err-into : goal.returns-in_err-into
returns-in_err-into g c = let p = err_from_is_err_and c.from_residual-in_err-into.result c.from_residual-in_err-into.ensures.1 in
    rw (p.1, p.2) (λ variables L s. unknown_word L variables (Map c.args.from.now c.args.into.now) c.args.into.now _ tt (later (c.in_ok-from.from, c.in_ok-from.ensures L s) (here (c.in_err-into.ensures L s).1)) (c.in_err-into.ensures L s).0)

pub returns : goal.returns
returns g c = λ variables L s. asked (map (c.in_ok-from.ensures L s) (c.in_ok-into.ensures L s))
