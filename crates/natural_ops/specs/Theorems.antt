-- What the laws of this crate state.
use Rattle.std.specs.Prelude.{◌≡◌, ℕ, List}
use Rattle.alg_model.specs.Maps.{Field, IsFiniteField, field_values, apply, IsEmbedding}
use Rattle.ff_poly.specs.Polynomial.{Polynomial}
use Rattle.natural_ops.specs.Operations.{IsOpTable, value_at}

-- an operation's value at a value of a field is a value of that field
abbrev pub OperationGivesValue : Type 0
OperationGivesValue = (table : List Polynomial) (K : Field) (a : List ℕ) → IsOpTable table
    → IsFiniteField K → (field_values K).Valid a → (field_values K).Valid (value_at table K a)

-- an embedding sends the operation's value at a to its value at the image of a
abbrev pub OperationCommutes : Type 0
OperationCommutes = (table : List Polynomial) (E F : Field) (m : List (List ℕ)) (a : List ℕ)
    → IsOpTable table → IsFiniteField E → IsFiniteField F → IsEmbedding E F m
    → (field_values E).Valid a
    → apply F m (value_at table E a) ≡ value_at table F (apply F m a)
