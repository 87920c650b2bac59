-- What an `Embedding` keeps beside its fields. No public clause cites this module.
--     IsMap E F m           as many values of F as the degree of E, both of one characteristic
--     IsUndone e l          the map l back sends the image of each value to that value
--     IsKept e m l          m is the matrix of the embedding e, and l a matrix that undoes it
use Rattle.std.specs.Prelude.{◌≡◌, ℕ, List, length, All}
use Rattle.alg_model.specs.Maps.{Field, field_values, degree_of, apply}
use Rattle.ff_matrix.specs.ModularMatrix.{ModularMatrix}
use Rattle.ff_embed.specs.SmallEmbeddings.{FieldMap, IsSmallEmbedding}

pub record IsMap (E F : Field) (m : List (List ℕ)) : Type 0 where
  pub same_characteristic : E.characteristic ≡ F.characteristic
  pub count : length m ≡ degree_of E
  pub images : All (field_values F).Valid m

abbrev pub IsUndone : FieldMap → List (List ℕ) → Type 0
IsUndone e l = (a : List ℕ) → (field_values e.source).Valid a
    → apply e.source l (apply e.target e.images a) ≡ a

pub record IsKept (e : FieldMap) (m l : ModularMatrix) : Type 0 where
  pub small : IsSmallEmbedding e
  pub matrix_prime : m.prime ≡ e.target.characteristic
  pub matrix_rows : m.matrix.rows ≡ degree_of e.target
  pub inverse_prime : l.prime ≡ e.source.characteristic
  pub inverse_rows : l.matrix.rows ≡ degree_of e.source
  pub back : IsMap e.target e.source l.matrix.columns
  pub undone : IsUndone e l.matrix.columns
