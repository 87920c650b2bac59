use Rattle.ff_factor.proofs.CriterionOverResidues.{certified_irreducible}
use Rattle.ff_factor.proofs.certificates.certificates_are_sound.Goals as goal

pub returns : goal.returns
returns c = certified_irreducible
