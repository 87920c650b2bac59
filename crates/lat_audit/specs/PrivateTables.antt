-- Maps by the numbers of their fields. No public clause cites this module.
--     pair_of m                    the numbers of a map's fields
--     HasNoMap maps i j            no map of the list is one from i to j
--     IsMapAt maps i j k           the map at place k is one from i to j
--     ArePlaces maps places        where the map of each pair stands
--     lattice_with rows maps       the lattice of these fields and maps
--     IsTable rows maps places     fields, maps of theirs, each pair once, and their places
--     IsFound L i j r              what is stored for a pair
use Rattle.std.specs.Prelude.{◌≡◌, ◌≢◌, ℕ, ◌+◌, ◌*◌, ◌<◌, ◌≤◌, List, length, map, All, AllPairs, Option, None, MatchOption, slice_index_or}
use Rattle.std.specs.FinMap.{get, from_entries}
use Rattle.alg_model.specs.Lattices.{first_edition, Row, Lattice, Stored}
use Rattle.ff_embed.specs.SmallEmbeddings.{FieldMap}
use Rattle.lat_core.specs.SharedRows.{IsBetween, AreBetween}
use Rattle.lat_core.specs.declared.rows.MapRow.{MapRow}
use Rattle.lat_core.specs.declared.TheConstants.{MAX_FIELDS}
use Rattle.lat_audit.specs.PrivateFaults.{entry_of}
use Rattle.lat_audit.specs.PrivateReadings.{IsBefore}

abbrev pub pair_of : MapRow → ℕ × ℕ
pair_of m = (m.from, m.into)

abbrev pub HasNoMap : List MapRow → ℕ → ℕ → Type 0
HasNoMap maps i j = All (λ m. pair_of m ≢ (i, j)) maps

pub record IsMapAt (maps : List MapRow) (i j k : ℕ) : Type 0 where
  pub within : k < length maps
  pub pair : (d : MapRow) → pair_of (slice_index_or maps k d) ≡ (i, j)

abbrev pub ArePlaces : List MapRow → List (Option ℕ) → Type 0
ArePlaces maps places = (i j : ℕ) → i < MAX_FIELDS → j < MAX_FIELDS
    → MatchOption (slice_index_or places (MAX_FIELDS * i + j) None) (HasNoMap maps i j) (IsMapAt maps i j)

abbrev pub lattice_with : List Row → List MapRow → Lattice
lattice_with rows maps = record {
  edition = first_edition;
  rows = rows;
  maps = from_entries (map entry_of maps);
}

pub record IsTable (rows : List Row) (maps : List MapRow) (places : List (Option ℕ)) : Type 0 where
  pub few : length rows ≤ MAX_FIELDS
  pub within : All (λ m. (m.from < length rows) × (m.into < length rows)) maps
  pub between : AreBetween rows maps
  pub rising : AllPairs (λ a b. IsBefore (pair_of a) (pair_of b)) maps
  pub count : length places ≡ MAX_FIELDS * MAX_FIELDS
  pub placed : ArePlaces maps places

-- the map that is stored for a pair, if one is
abbrev pub IsFound : Lattice → ℕ → ℕ → Option FieldMap → Type 0
IsFound L i j r = MatchOption r (get L.maps (i, j) ≡ None)
    (λ e. Stored L i j e.images × IsBetween L.rows i j e)
