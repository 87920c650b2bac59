-- What the embedding phi of field E into field F adds to a lattice L; `rows` are the rows
-- afterwards.
--     IsMapInto L E F phi rows i m     m is the map into F of the member or added field i
--     IsForced L E F phi rows i j m    m is the one map which, followed by j's map into F, is i's
--                                      map into F
--     IsStoredAfter L E F phi rows i k m     m is stored for i and k afterwards
--     IsMadeRow n p d row              an added field: number n, characteristic p, degree d
--     AreRowsAfter L E F rows          the rows of L and the added ones
--     IsFilled L E F phi M             M is L with all that phi adds
use Rattle.std.specs.Prelude.{◌≡◌, ◌↔◌, ℕ, ◌+◌, ◌<◌, ◌≤◌, List, ◌++◌, length, slice_index, slice_index_or}
use Rattle.alg_model.specs.Maps.{comp, constants, IsEmbedding}
use Rattle.alg_model.specs.Roots.{IsLeastRoot, IsLeastIrreducible}
use Rattle.alg_model.specs.Lattices.{Lattice, Row, no_row, field_at, made_name, Stored}
use Rattle.alg_model.specs.Candidates.{map_sending, AreMissing}

-- The stored map; the stored map into E and then phi; for an added field, the map by the least root
-- of its polynomial.
pub data IsMapInto (L : Lattice) (E F : ℕ) (phi : List (List ℕ)) (rows : List Row) (i : ℕ)
    : List (List ℕ) → Type 0 where
  stored : {m : List (List ℕ)} → Stored L i F m → IsMapInto L E F phi rows i m
  -- a common subfield of E and F has both maps: for a candidate these agree
  through : {m : List (List ℕ)} → Stored L i E m
      → IsMapInto L E F phi rows i (comp (field_at rows F) m phi)
  made : {v : List ℕ} → length L.rows ≤ i → i < length rows
      → IsLeastRoot (field_at rows F) (constants (field_at rows F) (field_at rows i).polynomial) v
      → IsMapInto L E F phi rows i (map_sending (field_at rows i) (field_at rows F) v)

-- The one map which, followed by j's map into F, is i's map into F.
pub record IsForced (L : Lattice) (E F : ℕ) (phi : List (List ℕ)) (rows : List Row) (i j : ℕ)
    (m : List (List ℕ)) : Type 0 where
  pub first : List (List ℕ)
  pub second : List (List ℕ)
  pub first_into : IsMapInto L E F phi rows i first
  pub second_into : IsMapInto L E F phi rows j second
  pub embedding : IsEmbedding (field_at rows i) (field_at rows j) m
  pub followed : comp (field_at rows F) m second ≡ first

-- The maps stored before, the forced ones, and forced ones followed by stored ones.
pub data IsStoredAfter (L : Lattice) (E F : ℕ) (phi : List (List ℕ)) (rows : List Row) (i k : ℕ)
    : List (List ℕ) → Type 0 where
  before : {m : List (List ℕ)} → Stored L i k m → IsStoredAfter L E F phi rows i k m
  forced : {m : List (List ℕ)} → IsForced L E F phi rows i k m → IsStoredAfter L E F phi rows i k m
  beyond : {j : ℕ} {m n : List (List ℕ)} → IsForced L E F phi rows i j m → Stored L j k n
      → IsStoredAfter L E F phi rows i k (comp (field_at rows k) m n)

-- An added field has its number's name and the least irreducible polynomial of its degree.
pub record IsMadeRow (n p d : ℕ) (row : Row) : Type 0 where
  pub name : row.name ≡ made_name n
  pub characteristic : row.field.characteristic ≡ p
  pub polynomial : IsLeastIrreducible p d row.field.polynomial

-- A field is added for each missing degree, lowest first.
pub record AreRowsAfter (L : Lattice) (E F : ℕ) (rows : List Row) : Type 0 where
  pub degrees : List ℕ
  pub missing : AreMissing L E F degrees
  pub made : List Row
  pub appended : rows ≡ L.rows ++ made
  pub count : length made ≡ length degrees
  pub made_rows : (k : ℕ) → k < length degrees
      → IsMadeRow (length L.rows + k) (field_at L.rows F).characteristic (slice_index degrees k)
      (slice_index_or made k no_row)

-- The rows and the maps are the old ones and the added ones.
pub record IsFilled (L : Lattice) (E F : ℕ) (phi : List (List ℕ)) (M : Lattice) : Type 0 where
  pub edition : M.edition ≡ L.edition
  pub rows : AreRowsAfter L E F M.rows
  pub maps : {i k : ℕ} {m : List (List ℕ)} → Stored M i k m ↔ IsStoredAfter L E F phi M.rows i k m
