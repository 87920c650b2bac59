-- What the laws of this crate state.
use Rattle.alg_model.specs.Fields.{IsField}
use Rattle.alg_model.specs.Maps.{Field, IsFiniteField, field_values}
use Rattle.ff_field.specs.SmallFields.{IsSmallField}

-- what a `Field` is seen as is a finite field
abbrev pub SmallFieldIsFinite : Type 0
SmallFieldIsFinite = (K : Field) → IsSmallField K → IsFiniteField K

-- and its values form a field
abbrev pub SmallFieldIsField : Type 0
SmallFieldIsField = (K : Field) → IsSmallField K → IsField (field_values K)
