use Rattle.alg_rings.proofs.ResidueFields.{residues_propositional, prime_residues_field}
use Rattle.alg_rings.proofs.Divisors.{division, division_unique, divides_iff_no_remainder}
use Rattle.alg_rings.proofs.division_is_unique.Goals as goal

pub returns-clause-exists : goal.returns-clause-exists
returns-clause-exists c = λ p h. division (residues_propositional p) (prime_residues_field p h)

pub returns-clause-unique : goal.returns-clause-unique
returns-clause-unique c = λ p h. division_unique (residues_propositional p) (prime_residues_field p h)

pub returns-clause-divides : goal.returns-clause-divides
returns-clause-divides c = λ p h. divides_iff_no_remainder (residues_propositional p) (prime_residues_field p h)
