-- What a contract sees of an `Embedding`.
--     FieldMap                a field, a field, and a map from the one to the other: the images of
--                             1, x, x^2, ..
--     IsSmallEmbedding e      an embedding between two fields of a characteristic of the table and
--                             of degree at most MAX_DEGREE
--     IsInImage e b           b is what the map gives for a value of the source
use Rattle.std.specs.Prelude.{◌≡◌, ℕ, List}
use Rattle.alg_model.specs.Maps.{Field, field_values, apply, IsEmbedding}
use Rattle.ff_field.specs.SmallFields.{IsSmallField}

pub record FieldMap : Type 0 where
  pub source : Field
  pub target : Field
  pub images : List (List ℕ)

pub record IsSmallEmbedding (e : FieldMap) : Type 0 where
  pub source : IsSmallField e.source
  pub target : IsSmallField e.target
  pub embedding : IsEmbedding e.source e.target e.images

-- a value of the source is sent to b
abbrev pub IsInImage : FieldMap → List ℕ → Type 0
IsInImage e b = (a : List ℕ) × (field_values e.source).Valid a × (apply e.target e.images a ≡ b)
