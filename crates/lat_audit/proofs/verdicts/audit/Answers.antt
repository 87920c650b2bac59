-- A lattice is good, and the first fault is the verdict.
use Rattle.std.proofs.Common.{sym, subst}
use Rattle.lat_audit.specs.Verdicts.{Judges}
use Rattle.lat_audit.specs.Verdicts.Judges.{good}
use Rattle.lat_audit.proofs.TextVerdicts.{fault_judges}
use Rattle.lat_audit.proofs.verdicts.audit.Goals as goal

pub returns-in-Ok-clause-verdict : goal.returns-in-Ok-clause-verdict
returns-in-Ok-clause-verdict c = good c.in-Ok.ensures.verdict.0 c.in-Ok.ensures.verdict.1

pub returns-in-Err-clause-verdict : goal.returns-in-Err-clause-verdict
returns-in-Err-clause-verdict c =
    subst (Judges c.args.text.now) (sym c.verdict_of.ensures)
    (fault_judges c.args.text.now c.in-Err.fault c.in-Err.ensures.verdict)
