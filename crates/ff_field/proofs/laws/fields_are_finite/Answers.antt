use Rattle.ff_field.proofs.SmallFieldLaws.{values_field}
use Rattle.ff_field.proofs.laws.fields_are_finite.Goals as goal

pub returns-clause-field : goal.returns-clause-field
returns-clause-field c = λ K W. values_field K W.finite
