use Rattle.alg_rings.proofs.ResidueFields.{prime_residues_field, residues_propositional}
use Rattle.alg_divisors.proofs.PolynomialFactors.{gcd_exists, gcd_unique, bezout}
use Rattle.alg_divisors.proofs.gcd_is_unique.Goals as goal

pub returns-clause-exists : goal.returns-clause-exists
returns-clause-exists c = λ p h. gcd_exists (residues_propositional p) (prime_residues_field p h)

pub returns-clause-unique : goal.returns-clause-unique
returns-clause-unique c = λ p h a b g k d e. gcd_unique (residues_propositional p) (prime_residues_field p h) d e

pub returns-clause-combination : goal.returns-clause-combination
returns-clause-combination c = λ p h a b g d. bezout (residues_propositional p) (prime_residues_field p h) d
