-- What the laws of this crate state.
use Rattle.std.specs.Prelude.{◌≡◌, ℕ, List}
use Rattle.alg_model.specs.Coefficients.{power, IsCharacteristic}
use Rattle.alg_model.specs.Maps.{Field, IsFiniteField, field_values}
use Rattle.natural_ops.specs.Operations.{value_at}
use Rattle.program_ops.specs.Tables.{table_with, square, artin_schreier, successor}

-- a * a
abbrev pub SquareValue : Type 0
SquareValue = (K : Field) (a : List ℕ) → IsCharacteristic K.characteristic → IsFiniteField K
    → (field_values K).Valid a
    → value_at (table_with square) K a ≡ (field_values K).ops.mul a a

-- a^p - a, for the characteristic p
abbrev pub ArtinSchreierValue : Type 0
ArtinSchreierValue = (K : Field) (a : List ℕ) → IsCharacteristic K.characteristic
    → IsFiniteField K → (field_values K).Valid a
    → value_at (table_with artin_schreier) K a
    ≡ (field_values K).ops.add (power (field_values K).ops a K.characteristic)
    ((field_values K).ops.neg a)

-- a + 1
abbrev pub SuccessorValue : Type 0
SuccessorValue = (K : Field) (a : List ℕ) → IsCharacteristic K.characteristic
    → IsFiniteField K → (field_values K).Valid a
    → value_at (table_with successor) K a
    ≡ (field_values K).ops.add a (field_values K).ops.one
