use Rattle.alg_rings.proofs.ResidueFields.{prime_residues_field}
use Rattle.alg_rings.proofs.residues_are_a_field.Goals as goal

pub returns : goal.returns
returns c = prime_residues_field
