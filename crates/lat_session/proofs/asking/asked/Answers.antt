use Rattle.std.proofs.Common.{subst, sym}
use Rattle.std.proofs.lemmas.Result.{IfOk-at_ok}
use Rattle.lat_core.specs.Answers.{Fits}
use Rattle.lat_session.specs.PrivatePlaying.{IsAsked, AsksTo}
use Rattle.lat_session.proofs.AskedLines.{asks_question, asks_nothing}
use Rattle.lat_session.proofs.asking.asked.Goals as goal

pub answered-requires : goal.answered-requires
answered-requires g c = (c.requires.0, c.requires.1, IfOk-at_ok (λ q. Fits c.requires.0 q × IsAsked q) c.in-Ok.is c.requires.2)

pub returns-in-Ok : goal.returns-in-Ok
returns-in-Ok g c = subst (λ q. AsksTo (g.P.Port.knowledge c.args.port.now) q c.marked.result) (sym c.in-Ok.is)
    (asks_question c.requires.0 c.requires.1 (c.answered.ensures c.requires.0 c.requires.1) c.marked.ensures)

pub returns-in-Err : goal.returns-in-Err
returns-in-Err g c = subst (λ q. AsksTo (g.P.Port.knowledge c.args.port.now) q c.refused.result) (sym c.in-Err.is)
    (asks_nothing c.requires.0 c.requires.1 c.refused.ensures)
