use Rattle.std.proofs.Common.{subst, sym}
use Rattle.std.proofs.lemmas.Result.{IfOk-at_ok}
use Rattle.lat_core.specs.Answers.{IsNumber}
use Rattle.lat_session.specs.PrivatePlaying.{KeepsTo}
use Rattle.lat_session.proofs.Tables.{not_both}
use Rattle.lat_session.proofs.Plays.{kept_as, kept_refusal, kept_full, kept_value}
use Rattle.lat_session.proofs.sessions.Session.keep.Goals as goal

pub shown-outcome-requires : goal.shown-outcome-requires
shown-outcome-requires g c = (c.requires.0, c.requires.1, IfOk-at_ok (λ t. IsNumber c.requires.0 t.field) c.in-Ok.is c.requires.2)

pub returns-in-Err-clause-line : goal.returns-in-Err-clause-line
returns-in-Err-clause-line g c = subst (λ r. KeepsTo (g.P.Port.knowledge c.args.port.now) c.args.self.now c.args.name.now r c.args.self.now c.refused.result) (sym c.in-Err.is)
    (kept_as c.refused.ensures (kept_refusal c.requires.0 c.requires.1))

pub returns-then-is_full_for-clause-line : goal.returns-then-is_full_for-clause-line
returns-then-is_full_for-clause-line g c = subst (λ r. KeepsTo (g.P.Port.knowledge c.args.port.now) c.args.self.now c.args.name.now r c.args.self.now c.refused-then-is_full_for.result) (sym c.in-Ok.is)
    (kept_as c.refused-then-is_full_for.ensures
    (kept_full c.requires.0 c.requires.1 (c.is_full_for.ensures.0 c.if-is_full_for.true)))

pub returns-clause-line : goal.returns-clause-line
returns-clause-line g c = subst (λ r. KeepsTo (g.P.Port.knowledge c.args.port.now) c.args.self.now c.args.name.now r c.store.new.self c.marked.result) (sym c.in-Ok.is)
    (kept_value c.requires.0 c.requires.1 (λ f. not_both c.is_full_for.result c.if-is_full_for.false (c.is_full_for.ensures.1 f))
    (c.shown-outcome.ensures c.requires.0 c.requires.1) c.in_ok-store.ensures.ok c.marked.ensures)
