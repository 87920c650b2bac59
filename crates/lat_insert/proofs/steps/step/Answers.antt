-- What a step leaves, by each kind of request.
use Rattle.std.proofs.Common.{subst, sym}
use Rattle.std.specs.Result.{OnErr}
use Rattle.lat_core.specs.Step.{IsProperRequest}
use Rattle.lat_core.specs.declared.requests.Request.TheVariants.{Declare, Embed}
use Rattle.lat_insert.specs.Insertions.{StepAdds}
use Rattle.lat_insert.proofs.StepsTaken.{step_keeps, step_refused}
use Rattle.lat_insert.proofs.steps.step.Goals as goal

pub returns-in-Declare-clause-compatible : goal.returns-in-Declare-clause-compatible
returns-in-Declare-clause-compatible c = (step_keeps (Declare c.in-Declare.name c.in-Declare.p c.in-Declare.poly) c.edition-edition.ensures.whole
    (subst IsProperRequest c.in-Declare.is c.requires.proper) c.declare.result c.declare.ensures.declared c.declare.ensures.kept).0

pub returns-in-Declare-clause-grows : goal.returns-in-Declare-clause-grows
returns-in-Declare-clause-grows c = (step_keeps (Declare c.in-Declare.name c.in-Declare.p c.in-Declare.poly) c.edition-edition.ensures.whole
    (subst IsProperRequest c.in-Declare.is c.requires.proper) c.declare.result c.declare.ensures.declared c.declare.ensures.kept).1

pub returns-in-Declare-clause-refused : goal.returns-in-Declare-clause-refused
returns-in-Declare-clause-refused c = step_refused (Declare c.in-Declare.name c.in-Declare.p c.in-Declare.poly) c.edition-edition.ensures.whole
    (subst IsProperRequest c.in-Declare.is c.requires.proper) c.declare.result c.declare.ensures.declared

pub returns-in-Declare-clause-no_memory : goal.returns-in-Declare-clause-no_memory
returns-in-Declare-clause-no_memory c =
    subst (λ r. OnErr c.declare.result (StepAdds c.args.lattice.now r)) (sym c.in-Declare.is) c.declare.ensures.memory

pub returns-in-Embed-clause-compatible : goal.returns-in-Embed-clause-compatible
returns-in-Embed-clause-compatible c = (step_keeps (Embed c.in-Embed.from c.in-Embed.into c.in-Embed.sending) c.edition-edition.ensures.whole
    tt c.embed.result c.embed.ensures.embedded c.embed.ensures.kept).0

pub returns-in-Embed-clause-grows : goal.returns-in-Embed-clause-grows
returns-in-Embed-clause-grows c = (step_keeps (Embed c.in-Embed.from c.in-Embed.into c.in-Embed.sending) c.edition-edition.ensures.whole
    tt c.embed.result c.embed.ensures.embedded c.embed.ensures.kept).1

pub returns-in-Embed-clause-refused : goal.returns-in-Embed-clause-refused
returns-in-Embed-clause-refused c = step_refused (Embed c.in-Embed.from c.in-Embed.into c.in-Embed.sending) c.edition-edition.ensures.whole
    tt c.embed.result c.embed.ensures.embedded

pub returns-in-Embed-clause-no_memory : goal.returns-in-Embed-clause-no_memory
returns-in-Embed-clause-no_memory c =
    subst (λ r. OnErr c.embed.result (StepAdds c.args.lattice.now r)) (sym c.in-Embed.is) c.embed.ensures.memory
