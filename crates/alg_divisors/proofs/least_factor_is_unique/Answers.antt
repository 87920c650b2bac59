use Rattle.std.specs.Ordering.{nat_cmp}
use Rattle.std.proofs.lemmas.Cmp.{nat_cmp_total}
use Rattle.alg_rings.proofs.ResidueFields.{prime_residues_field, residues_propositional}
use Rattle.alg_rings.proofs.PolynomialOrder.{nat_cmp_same}
use Rattle.alg_divisors.proofs.LeastFactors.{least_factor_unique, least_factor_irreducible, least_of_factorization}
use Rattle.alg_divisors.proofs.Finite.{residues_finite}
use Rattle.alg_divisors.proofs.Existence.{least_factor_exists}
use Rattle.alg_divisors.proofs.least_factor_is_unique.Goals as goal

pub returns-clause-exists : goal.returns-clause-exists
returns-clause-exists c = λ p h. least_factor_exists (residues_propositional p) (prime_residues_field p h) (residues_finite p) nat_cmp_total

pub returns-clause-unique : goal.returns-clause-unique
returns-clause-unique c = λ p h f g k d e. least_factor_unique nat_cmp_total nat_cmp_same d e

pub returns-clause-irreducible : goal.returns-clause-irreducible
returns-clause-irreducible c = λ p h f g d. least_factor_irreducible (residues_propositional p) (prime_residues_field p h) nat_cmp d

pub returns-clause-first : goal.returns-clause-first
returns-clause-first c = λ p h f g fs k l m n. least_of_factorization (residues_propositional p) (prime_residues_field p h) nat_cmp k l m n
