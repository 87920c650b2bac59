use Rattle.alg_rings.proofs.Divisors.{division, division_unique}
use Rattle.alg_rings.proofs.TestedCarriers.{tested_propositional}
use Rattle.alg_rings.proofs.division_over_fields.Goals as goal

pub returns-clause-exists : goal.returns-clause-exists
returns-clause-exists g c = λ s o test F. division (tested_propositional s o test) F

pub returns-clause-unique : goal.returns-clause-unique
returns-clause-unique g c = λ s o test F. division_unique (tested_propositional s o test) F
