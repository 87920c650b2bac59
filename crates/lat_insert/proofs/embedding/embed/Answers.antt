-- The fields of the names are found, or one of them isn't.
use Rattle.std.proofs.Common.{sym, subst}
use Rattle.std.proofs.lemmas.Result.{IfOk-weaker}
use Rattle.lat_core.specs.Step.{EmbedsField, Embeds}
use Rattle.lat_core.specs.declared.replies.StepRefusal.TheVariants.{UnknownField}
use Rattle.lat_core.specs.declared.replies.Reply.TheVariants.{Refused}
use Rattle.lat_insert.proofs.Replies.{on_err_weaker}
use Rattle.lat_insert.proofs.embedding.embed.Goals as goal

pub returns-in_default-clause-embedded : goal.returns-in_default-clause-embedded
returns-in_default-clause-embedded c = subst
    (λ n. Embeds c.args.lattice.now c.args.from.now c.args.into.now c.args.sending.now (Refused (UnknownField n)) c.args.lattice.now)
    (sym c.copy.ensures) (Embeds.unknown_source c.in_default.ensures)

pub returns-in_default-field_named-clause-embedded : goal.returns-in_default-field_named-clause-embedded
returns-in_default-field_named-clause-embedded c = subst
    (λ n. Embeds c.args.lattice.now c.args.from.now c.args.into.now c.args.sending.now (Refused (UnknownField n)) c.args.lattice.now)
    (sym c.copy-in_default-field_named.ensures) (Embeds.unknown_target c.in-Some.ensures c.in_default-field_named.ensures)

pub returns-clause-embedded : goal.returns-clause-embedded
returns-clause-embedded c = IfOk-weaker c.embed_field.result
    (λ reply. EmbedsField c.args.lattice.now c.in-Some.source c.in-Some-field_named.target c.args.sending.now reply c.embed_field.new.lattice)
    (λ reply. Embeds c.args.lattice.now c.args.from.now c.args.into.now c.args.sending.now reply c.embed_field.new.lattice)
    (λ reply a. Embeds.known c.in-Some.ensures c.in-Some-field_named.ensures a) c.embed_field.ensures.embedded

pub returns-clause-memory : goal.returns-clause-memory
returns-clause-memory c = on_err_weaker c.embed_field.result
    (λ (reply, M, a, adds). (reply, M, Embeds.known c.in-Some.ensures c.in-Some-field_named.ensures a, adds)) c.embed_field.ensures.memory
