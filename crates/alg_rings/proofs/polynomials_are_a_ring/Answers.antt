use Rattle.alg_rings.proofs.ResidueFields.{prime_residues_field, residues_propositional}
use Rattle.alg_rings.proofs.CarrierPolynomials.{polynomials_ring}
use Rattle.alg_rings.proofs.polynomials_are_a_ring.Goals as goal

pub returns : goal.returns
returns c = λ p h. polynomials_ring (residues_propositional p) (prime_residues_field p h).ring
