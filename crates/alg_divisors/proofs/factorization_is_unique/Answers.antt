use Rattle.alg_rings.proofs.ResidueFields.{prime_residues_field, residues_propositional}
use Rattle.alg_divisors.proofs.PolynomialFactors.{factorization_unique}
use Rattle.alg_divisors.proofs.Finite.{residues_finite}
use Rattle.alg_divisors.proofs.Existence.{factorization_exists}
use Rattle.alg_divisors.proofs.factorization_is_unique.Goals as goal

pub returns-clause-exists : goal.returns-clause-exists
returns-clause-exists c = λ p h. factorization_exists (residues_propositional p) (prime_residues_field p h) (residues_finite p)

pub returns-clause-unique : goal.returns-clause-unique
returns-clause-unique c = λ p h f fs gs k l. factorization_unique (residues_propositional p) (prime_residues_field p h) k l
