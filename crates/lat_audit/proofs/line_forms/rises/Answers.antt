-- The pair of the last image decides.
use Rattle.std.proofs.Common.{sym, subst}
use Rattle.lat_audit.specs.PrivateReadings.{IsBefore}
use Rattle.lat_audit.proofs.ReadRows.{behind_all, behind_last}
use Rattle.lat_audit.proofs.line_forms.rises.Goals as goal

pub returns-in-Some : goal.returns-in-Some
returns-in-Some c = (
  λ t. behind_all c.args.images.now c.in-Some.last.now (c.args.from, c.args.into) c.requires c.in-Some.ensures.value
      (subst (λ q. IsBefore q (c.args.from, c.args.into)) c.pair.ensures (c.is_before.ensures.0 t)),
  λ all. c.is_before.ensures.1 (subst (λ q. IsBefore q (c.args.from, c.args.into)) (sym c.pair.ensures)
      (behind_last c.args.images.now c.in-Some.last.now (c.args.from, c.args.into) c.requires c.in-Some.ensures.value all)),
)
