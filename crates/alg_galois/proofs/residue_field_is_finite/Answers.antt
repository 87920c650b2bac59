use Rattle.alg_galois.proofs.Fields.{field_is, modulus_of}
use Rattle.alg_galois.proofs.FieldSizes.{all_values, power_of_size}
use Rattle.alg_galois.proofs.residue_field_is_finite.Goals as goal

pub returns-clause-field : goal.returns-clause-field
returns-clause-field c = λ F W. field_is F.characteristic W.characteristic F.polynomial (modulus_of F W)

pub returns-clause-size : goal.returns-clause-size
returns-clause-size c = all_values

pub returns-clause-powers : goal.returns-clause-powers
returns-clause-powers c = power_of_size
