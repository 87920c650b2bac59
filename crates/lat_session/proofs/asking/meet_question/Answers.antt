use Rattle.std.proofs.lemmas.Result.{err_from_is_err_and}
use Rattle.lat_language.specs.declared.commands.Command.TheVariants.{Meet}
use Rattle.lat_session.specs.Outcomes.IsFirstUnknown.{here, later}
use Rattle.lat_session.specs.Outcomes.Asks.{meet}
use Rattle.lat_session.specs.PrivatePlaying.Questions.{asked}
use Rattle.lat_session.proofs.AskedLines.{unknown_word}
use Rattle.lat_session.proofs.asking.meet_question.Goals as goal

pub returns-in_err-i : goal.returns-in_err-i
returns-in_err-i g c = let p = err_from_is_err_and c.from_residual.result c.from_residual.ensures.1 in
    rw (p.1, p.2) (λ variables L s. unknown_word L variables (Meet c.args.first.now c.args.second.now c.args.within.now) c.args.first.now _ tt (here (c.in_err-i.ensures L s).1) (c.in_err-i.ensures L s).0)

pub returns-in_err-j : goal.returns-in_err-j
returns-in_err-j g c = let p = err_from_is_err_and c.from_residual-in_err-j.result c.from_residual-in_err-j.ensures.1 in
    rw (p.1, p.2) (λ variables L s. unknown_word L variables (Meet c.args.first.now c.args.second.now c.args.within.now) c.args.second.now _ tt (later (c.in_ok-i.i, c.in_ok-i.ensures L s) (here (c.in_err-j.ensures L s).1)) (c.in_err-j.ensures L s).0)

pub returns-in_err-k : goal.returns-in_err-k
returns-in_err-k g c = let p = err_from_is_err_and c.from_residual-in_err-k.result c.from_residual-in_err-k.ensures.1 in
    rw (p.1, p.2) (λ variables L s. unknown_word L variables (Meet c.args.first.now c.args.second.now c.args.within.now) c.args.within.now _ tt (later (c.in_ok-i.i, c.in_ok-i.ensures L s) (later (c.in_ok-j.j, c.in_ok-j.ensures L s) (here (c.in_err-k.ensures L s).1))) (c.in_err-k.ensures L s).0)

pub returns : goal.returns
returns g c = λ variables L s. asked (meet (c.in_ok-i.ensures L s) (c.in_ok-j.ensures L s) (c.in_ok-k.ensures L s))
