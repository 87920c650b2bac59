-- The line of the verdict, or none where memory was refused.
use Rattle.std.proofs.Common.{rules, ◌≡◌, List, ℕ, subst, ◌∙◌}
use Rattle.lat_io.specs.Streams.{stream}
use Rattle.lat_audit.specs.declared.verdicts.AuditVerdict.TheVariants.{Good}
use Rattle.lattice_run.specs.declared.status.TheConstants.{DONE}
use Rattle.lattice_run.specs.PrivateRuns.{Delivers}
use Rattle.lattice_run.specs.PrivateRuns.DeliversVerdict.{good}
use Rattle.lattice_run.proofs.run.answer_verdict.Goals as goal

pub returns-in-Good : goal.returns-in-Good
returns-in-Good g c =
    let is : c.args.verdict.now ≡ Good c.in-Good.field-0 = search rules in
    good c.in-Good.field-0 is
    (subst (λ (t : List ℕ). Delivers DONE t (stream (g.K.Sink.held c.args.sink.now) (g.K.Sink.faults c.args.sink.now))
    (stream (g.K.Sink.held c.deliver.new.sink) (g.K.Sink.faults c.deliver.new.sink)) c.deliver.result)
    (c.bytes.ensures ∙ c.verdict_line.ensures) c.deliver.ensures)
