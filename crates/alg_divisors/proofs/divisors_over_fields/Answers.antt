use Rattle.alg_rings.proofs.TestedCarriers.{tested_propositional}
use Rattle.alg_divisors.proofs.PolynomialFactors.{gcd_exists, gcd_unique, factorization_unique}
use Rattle.alg_divisors.proofs.divisors_over_fields.Goals as goal

pub returns-clause-gcd_exists : goal.returns-clause-gcd_exists
returns-clause-gcd_exists g c = λ s o test F. gcd_exists (tested_propositional s o test) F

pub returns-clause-gcd_unique : goal.returns-clause-gcd_unique
returns-clause-gcd_unique g c = λ s o test F a b h k d e. gcd_unique (tested_propositional s o test) F d e

pub returns-clause-factorization_unique : goal.returns-clause-factorization_unique
returns-clause-factorization_unique g c = λ s o test F f fs gs k l. factorization_unique (tested_propositional s o test) F k l
