use Rattle.lat_audit.proofs.OneVerdict.{lattice_has_one_spelling}
use Rattle.lat_audit.proofs.laws.one_spelling.Goals as goal

pub returns : goal.returns
returns c = lattice_has_one_spelling
