-- What a `Lattice` and a `SharedRow` keep. No public clause cites this module.
--     row_maps_code, lattice_code     how a proof tells values of these types apart
--     maps_of es            the finite map of a row's entries
--     row_with n r maps     row n with those of the maps that begin there
--     rows_with n rows maps     the same for rows from number n on
--     lattice_of edition rows     the lattice of these rows with their maps
--     AreKept edition rows  it is compatible, and each embedding goes between the fields of its
--                           numbers
use Rattle.std.specs.Prelude.{◌≡◌, ℕ, suc, ◌==◌, if◌then◌else◌, List, [], ◌∷◌, ◌++◌, map, slice_index_or, Some, refl}
use Rattle.std.specs.Ordering.{nat_cmp}
use Rattle.std.specs.FinMap.{FinMap, get, empty, insert, entries, from_entries, code}
use Rattle.std.specs.Coded.{Coded, code_by, coded×, coded_ℕ, coded_list}
use Rattle.alg_model.specs.Maps.{Field}
use Rattle.alg_model.specs.Lattices.{Edition, Row, Lattice, no_row, pair_cmp, IsCompatible}
use Rattle.ff_embed.specs.SmallEmbeddings.{FieldMap}
use Rattle.lat_core.specs.declared.rows.MapRow.{MapRow}
use Rattle.lat_core.specs.SharedRows.{RowMaps, IsBetween}

-- ---- codes
abbrev pub list_code : Coded (List ℕ)
list_code = coded_list coded_ℕ

abbrev pub field_code : Coded Field
field_code = code_by (ℕ × List ℕ) (coded× coded_ℕ list_code)
    (λ K. (K.characteristic, K.polynomial))
    (λ p. record { characteristic = p.0; polynomial = p.1 }) (λ _. refl)

abbrev pub row_code : Coded Row
row_code = code_by (List ℕ × Field) (coded× list_code field_code) (λ r. (r.name, r.field))
    (λ p. record { name = p.0; field = p.1 }) (λ _. refl)

abbrev pub field_map_code : Coded FieldMap
field_map_code = code_by ((Field × Field) × List (List ℕ))
    (coded× (coded× field_code field_code) (coded_list list_code))
    (λ e. ((e.source, e.target), e.images))
    (λ p. record { source = p.0.0; target = p.0.1; images = p.1 }) (λ _. refl)

abbrev pub row_maps_code : Coded RowMaps
row_maps_code = code_by (Row × FinMap nat_cmp FieldMap)
    (coded× row_code (code coded_ℕ field_map_code)) (λ r. (r.row, r.maps))
    (λ p. record { row = p.0; maps = p.1 }) (λ _. refl)

abbrev pub edition_code : Coded Edition
edition_code = code_by (List ℕ × (ℕ × ℕ)) (coded× list_code (coded× coded_ℕ coded_ℕ))
    (λ e. (e.primes, (e.top, e.room)))
    (λ p. record { primes = p.0; top = p.1.0; room = p.1.1 }) (λ _. refl)

abbrev pub lattice_code : Coded Lattice
lattice_code = code_by (Edition × (List Row × FinMap pair_cmp (List (List ℕ))))
    (coded× edition_code
    (coded× (coded_list row_code) (code (coded× coded_ℕ coded_ℕ) (coded_list list_code))))
    (λ L. (L.edition, (L.rows, L.maps)))
    (λ p. record { edition = p.0; rows = p.1.0; maps = p.1.1 }) (λ _. refl)

-- ---- rows with their maps
abbrev pub maps_of : List (ℕ × FieldMap) → FinMap nat_cmp FieldMap
maps_of es = from_entries es

-- what is past the last row
abbrev pub no_maps : RowMaps
no_maps = record { row = no_row; maps = empty }

-- the maps from i, by pairs
abbrev pub entries_from : ℕ → List (ℕ × FieldMap) → List ((ℕ × ℕ) × List (List ℕ))
entries_from i es = map (λ e. ((i, e.0), e.1.images)) es

-- the maps of all rows, whose numbers begin with i
abbrev pub entries_of : ℕ → List RowMaps → List ((ℕ × ℕ) × List (List ℕ))
entries_of i [] = []
entries_of i (r ∷ rs) = entries_from i (entries r.maps) ++ entries_of (suc i) rs

abbrev pub lattice_of : Edition → List RowMaps → Lattice
lattice_of edition rows = record {
  edition = edition;
  rows = map (λ r. r.row) rows;
  maps = from_entries (entries_of 0 rows);
}

-- a row with a map put in, if it begins at the row's number n
abbrev pub row_put : ℕ → RowMaps → MapRow → RowMaps
row_put n r m = if m.from == n
    then record { row = r.row; maps = insert r.maps m.into m.map }
    else r

-- and with all of these
abbrev pub row_with : ℕ → RowMaps → List MapRow → RowMaps
row_with n r [] = r
row_with n r (m ∷ ms) = row_with n (row_put n r m) ms

-- all rows, whose numbers begin with n
abbrev pub rows_with : ℕ → List RowMaps → List MapRow → List RowMaps
rows_with n [] ms = []
rows_with n (r ∷ rs) ms = row_with n r ms ∷ rows_with (suc n) rs ms

-- a field from which no map is stored
abbrev pub new_row : Row → RowMaps
new_row row = record { row = row; maps = empty }

pub record AreKept (edition : Edition) (rows : List RowMaps) : Type 0 where
  pub compatible : IsCompatible (lattice_of edition rows)
  pub between : {i j : ℕ} {e : FieldMap} → get (slice_index_or rows i no_maps).maps j ≡ Some e
      → IsBetween (map (λ r. r.row) rows) i j e
