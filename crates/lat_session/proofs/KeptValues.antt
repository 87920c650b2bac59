-- What the operations of three tables give.
use Rattle.std.specs.Prelude.{List}
use Rattle.ff_poly.specs.Polynomial.{Polynomial}
use Rattle.natural_ops.specs.Operations.{IsOpTable}
use Rattle.natural_ops.proofs.TableValues.{value_at_valid}
use Rattle.lat_language.specs.declared.commands.Op.TheVariants.{First, Second, Third}
use Rattle.lat_session.specs.Outcomes.{operations_of, KeepsValues}

-- **the operations of tables give values of the field of their operand**
pub tables_keep : (first second third : List Polynomial) → IsOpTable first → IsOpTable second
    → IsOpTable third → KeepsValues (operations_of first second third)
tables_keep first second third f s t First K a W v = value_at_valid first K a f W v
tables_keep first second third f s t Second K a W v = value_at_valid second K a s W v
tables_keep first second third f s t Third K a W v = value_at_valid third K a t W v
