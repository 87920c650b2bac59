use Rattle.natural_ops.proofs.TableValues.{value_at_valid, value_at_commutes}
use Rattle.natural_ops.proofs.laws.operations_commute.Goals as goal

pub returns-clause-value : goal.returns-clause-value
returns-clause-value c = value_at_valid

pub returns-clause-commute : goal.returns-clause-commute
returns-clause-commute c = value_at_commutes
