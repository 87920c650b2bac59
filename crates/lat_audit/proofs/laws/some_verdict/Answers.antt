-- A text has a verdict.
use Rattle.lat_audit.proofs.SomeVerdict.{verdict_exists}
use Rattle.lat_audit.proofs.laws.some_verdict.Goals as goal

pub returns : goal.returns
returns c = verdict_exists
