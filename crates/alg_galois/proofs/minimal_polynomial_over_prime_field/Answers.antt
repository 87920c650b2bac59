use Rattle.alg_galois.proofs.FieldMinimals.{prime_minimals}
use Rattle.alg_galois.proofs.minimal_polynomial_over_prime_field.Goals as goal

pub returns-clause-exists : goal.returns-clause-exists
returns-clause-exists c = λ F W a va. (prime_minimals F W a va).exists

pub returns-clause-unique : goal.returns-clause-unique
returns-clause-unique c = λ F W a va. (prime_minimals F W a va).unique

pub returns-clause-irreducible : goal.returns-clause-irreducible
returns-clause-irreducible c = λ F W a va. (prime_minimals F W a va).irreducible

pub returns-clause-divides : goal.returns-clause-divides
returns-clause-divides c = λ F W a va. (prime_minimals F W a va).divides
