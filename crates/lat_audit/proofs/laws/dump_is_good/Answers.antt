use Rattle.lat_audit.proofs.OneVerdict.{dump_is_judged_good}
use Rattle.lat_audit.proofs.laws.dump_is_good.Goals as goal

pub returns : goal.returns
returns c = dump_is_judged_good
