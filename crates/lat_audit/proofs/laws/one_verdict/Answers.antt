use Rattle.lat_audit.proofs.OneVerdict.{text_has_one_verdict}
use Rattle.lat_audit.proofs.laws.one_verdict.Goals as goal

pub returns : goal.returns
returns c = text_has_one_verdict
