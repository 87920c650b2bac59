use Rattle.alg_rings.proofs.TestedCarriers.{tested_propositional}
use Rattle.alg_fields.proofs.OnCarriers.{root_bound}
use Rattle.alg_fields.proofs.ValueFields.{values_field}
use Rattle.alg_fields.proofs.values_over_fields.Goals as goal

pub returns-clause-field : goal.returns-clause-field
returns-clause-field g c = λ s o test F f m i. values_field (tested_propositional s o test) F (f, i.polynomial) i.not_constant m i

pub returns-clause-roots : goal.returns-clause-roots
returns-clause-roots g c = λ s o test F. root_bound (tested_propositional s o test) F
