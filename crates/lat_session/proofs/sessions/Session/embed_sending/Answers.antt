use Rattle.std.proofs.Common.{subst, sym}
use Rattle.std.proofs.lemmas.Result.{IfOk-weaker}
use Rattle.lat_core.specs.Step.{IsProperRequest}
use Rattle.lat_session.specs.PrivatePlaying.{ChangesTo, Embeds}
use Rattle.lat_session.proofs.Plays.{embeds_pair, embeds_nothing}
use Rattle.lat_session.proofs.sessions.Session.embed_sending.Goals as goal

pub change-requires : goal.change-requires
change-requires g c = record { proper = subst IsProperRequest (sym c.embed.ensures) tt }

pub returns-in-Ok-clause-line : goal.returns-in-Ok-clause-line
returns-in-Ok-clause-line g c = IfOk-weaker c.change.result _ _
    (λ line h. embeds_pair c.in-Ok.ensures
    (subst (λ r. ChangesTo (g.P.Port.knowledge c.args.port.now) r (g.P.Port.knowledge c.change.new.port) line) c.embed.ensures h))
    c.change.ensures.line

pub returns-in-Ok-clause-unplaced : goal.returns-in-Ok-clause-unplaced
returns-in-Ok-clause-unplaced g c = c.change.ensures.unplaced

pub returns-in-Ok-clause-known : goal.returns-in-Ok-clause-known
returns-in-Ok-clause-known g c = c.change.ensures.known

pub returns-in-Ok-clause-borrowed : goal.returns-in-Ok-clause-borrowed
returns-in-Ok-clause-borrowed g c = c.change.ensures.borrowed

pub returns-in-Err-clause-line : goal.returns-in-Err-clause-line
returns-in-Err-clause-line g c =
    subst (Embeds (g.P.Port.knowledge c.args.port.now) c.args.self.now c.args.from.now c.args.into.now c.args.value.now c.args.image.now (g.P.Port.knowledge c.args.port.now))
    (sym c.refused.ensures) (embeds_nothing c.requires.0 c.requires.1 c.in-Err.ensures)

pub returns-in-Err-clause-known : goal.returns-in-Err-clause-known
returns-in-Err-clause-known g c = c.front-front.ensures.known
