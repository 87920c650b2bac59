-- What contracts see of a `SharedRow`, and how rows and maps are added to a lattice.
--     RowMaps                 a named field, and the embeddings that start there, by the numbers of
--                             the fields in which they end
--     IsBetween rows i j e    the embedding e goes from field i to field j
--     IsRowOf L n r           r is field n of L, with exactly the maps that are stored from it
--     map_count L             how many maps are stored
--     with_rows L rows maps   L with these rows after its own, and these maps put in
--     AreBetween rows maps    each map goes between the fields of its numbers
--     no_rows edition         the lattice with no rows and no maps
use Rattle.std.specs.Prelude.{◌≡◌, ℕ, List, [], ◌∷◌, ◌++◌, slice_index_or, All, Some}
use Rattle.std.specs.Option.{option_map}
use Rattle.std.specs.Ordering.{nat_cmp}
use Rattle.std.specs.FinMap.{FinMap, get, insert, empty, len}
use Rattle.alg_model.specs.Lattices.{Edition, Row, Lattice, no_row, field_at, pair_cmp}
use Rattle.ff_embed.specs.SmallEmbeddings.{FieldMap}
use Rattle.lat_core.specs.declared.rows.MapRow.{MapRow}

pub record RowMaps : Type 0 where
  pub row : Row
  pub maps : FinMap nat_cmp FieldMap

-- e begins in field i and ends in field j
pub record IsBetween (rows : List Row) (i j : ℕ) (e : FieldMap) : Type 0 where
  pub source : e.source ≡ field_at rows i
  pub target : e.target ≡ field_at rows j

-- row n of L, and what is stored from it
pub record IsRowOf (L : Lattice) (n : ℕ) (r : RowMaps) : Type 0 where
  pub row : r.row ≡ slice_index_or L.rows n no_row
  pub maps : (j : ℕ) → option_map (λ e. e.images) (get r.maps j) ≡ get L.maps (n, j)
  pub between : {j : ℕ} {e : FieldMap} → get r.maps j ≡ Some e → IsBetween L.rows n j e

abbrev pub map_count : Lattice → ℕ
map_count L = len L.maps

-- a later map takes the place of an earlier one of its pair
abbrev pub with_maps : FinMap pair_cmp (List (List ℕ)) → List MapRow
    → FinMap pair_cmp (List (List ℕ))
with_maps maps [] = maps
with_maps maps (m ∷ ms) = with_maps (insert maps (m.from, m.into) m.map.images) ms

abbrev pub with_rows : Lattice → List Row → List MapRow → Lattice
with_rows L rows maps = record {
  edition = L.edition;
  rows = L.rows ++ rows;
  maps = with_maps L.maps maps;
}

abbrev pub AreBetween : List Row → List MapRow → Type 0
AreBetween rows maps = All (λ m. IsBetween rows m.from m.into m.map) maps

abbrev pub no_rows : Edition → Lattice
no_rows edition = record { edition = edition; rows = []; maps = empty }
