use Rattle.std.proofs.Common.{◌≡◌, sym, ap, ◌∙◌, subst, Result}
use Rattle.std.proofs.lemmas.Result.{IfOk-at_ok, IfErr-at_err, err_from_is_err_and}
use Rattle.lat_core.specs.declared.replies.ChangeFault.{ChangeFault}
use Rattle.lat_core.specs.declared.replies.Entry.{Entry}
use Rattle.lat_gate.specs.Seats.{Known}
use Rattle.lat_gate.specs.Passes.{known}
use Rattle.lat_shared.specs.PrivatePasses.{Keeps, known_in}
use Rattle.lat_shared.specs.PrivateTurns.{IsTurnPlayed, IsTurnLost}
use Rattle.lat_shared.proofs.TurnLemmas.{keeps_known, played_keeps, lost_keeps, lost_fault}
use Rattle.lat_shared.proofs.JoinLemmas.{kept_some}
use Rattle.lat_shared.proofs.shared.Shared.change.Goals as goal

pub invariant_of-pass : goal.invariant_of-pass
invariant_of-pass g c =
    let k = known c.in-Some.seat in
    let is = ap known_in (sym c.take.ensures.value ∙ c.in-Some.is) in
    let keeps = subst (λ (j : Known Entry). Keeps j c.pass.inside.number c.pass.inside.front c.pass.inside.view) is c.pass.invariant.keeps in
    let t = IfErr-at_err (IsTurnLost k c.pass.inside.number (known c.play_in_turn-seat.result.0)) c.in_err-played.was c.play_in_turn-seat.ensures.lost in
    kept_some _ _ _ _ (lost_keeps _ _ _ _ _ _ keeps t)

pub returns-in_err-played-clause-known : goal.returns-in_err-played-clause-known
returns-in_err-played-clause-known g c =
    let k = known c.in-Some.seat in
    let is = ap known_in (sym c.take.ensures.value ∙ c.in-Some.is) in
    let keeps = subst (λ (j : Known Entry). Keeps j c.pass.inside.number c.pass.inside.front c.pass.inside.view) is c.pass.invariant.keeps in
    let t = IfErr-at_err (IsTurnLost k c.pass.inside.number (known c.play_in_turn-seat.result.0)) c.in_err-played.was c.play_in_turn-seat.ensures.lost in
    keeps_known _ _ _ _ (lost_keeps _ _ _ _ _ _ keeps t)

pub returns-in_err-played-clause-fault : goal.returns-in_err-played-clause-fault
returns-in_err-played-clause-fault g c =
    let k = known c.in-Some.seat in
    let t = IfErr-at_err (IsTurnLost k c.pass.inside.number (known c.play_in_turn-seat.result.0)) c.in_err-played.was c.play_in_turn-seat.ensures.lost in
    let p = err_from_is_err_and c.from_residual.result c.from_residual.ensures.1 in
    rw (p.1, p.2) (lost_fault k c.pass.inside.number c.pass.inside.front (known c.play_in_turn-seat.result.0) _ t)

pub invariant_of-pass-2 : goal.invariant_of-pass-2
invariant_of-pass-2 g c =
    let k = known c.in-Some.seat in
    let is = ap known_in (sym c.take.ensures.value ∙ c.in-Some.is) in
    let keeps = subst (λ (j : Known Entry). Keeps j c.pass.inside.number c.pass.inside.front c.pass.inside.view) is c.pass.invariant.keeps in
    let t = IfOk-at_ok (IsTurnPlayed k c.pass.inside.number c.args.request.now (known c.play_in_turn-seat.result.0)) c.in_ok-played.was c.play_in_turn-seat.ensures.played in
    kept_some _ _ _ _ (played_keeps _ _ _ _ _ _ _ keeps t)

pub returns-clause-known : goal.returns-clause-known
returns-clause-known g c =
    let k = known c.in-Some.seat in
    let is = ap known_in (sym c.take.ensures.value ∙ c.in-Some.is) in
    let keeps = subst (λ (j : Known Entry). Keeps j c.pass.inside.number c.pass.inside.front c.pass.inside.view) is c.pass.invariant.keeps in
    let t = IfOk-at_ok (IsTurnPlayed k c.pass.inside.number c.args.request.now (known c.play_in_turn-seat.result.0)) c.in_ok-played.was c.play_in_turn-seat.ensures.played in
    keeps_known _ _ _ _ (played_keeps _ _ _ _ _ _ _ keeps t)
