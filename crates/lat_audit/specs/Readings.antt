-- Reading a dump, line by line, up to the first line that isn't of the form that its place asks
-- for. A dump is read of a lattice of the first edition.
--     ended_lines text       the lines of a text, each with its line feed
--     Image                  a pair of numbers, and the image of the generator
--     Content                what a dump holds
--     IsNewName rows name    the name of an added field, behind these rows
--     IsNextRow rows row     the row may stand behind these
--     IsNextImage rows images e     the image may stand behind these
--     Place                  where a reader stands: the line asked for, and what was read before
--     LeadsTo place line next     the line is of the form asked for, and leads to the next place
--     Reading place n lines read    what lines say, from line n on
--     IsDump text c          the text is a dump with this content
--     IsBadLine text n       line n is the first bad one
--     lattice_of c           the lattice of a content
use Rattle.std.specs.Prelude.{◌≡◌, ◌≢◌, ◌⊎◌, ℕ, ◌+◌, ◌<◌, ◌≤◌, ◌==◌, if◌then◌else◌, List, [], ◌∷◌, ◌++◌, length, map, All, slice_index, Result, Ok, Err}
use Rattle.std.specs.List.{onto_first}
use Rattle.std.specs.FinMap.{from_entries}
use Rattle.std.specs.declared.cmp.Ordering.TheVariants.{Less}
use Rattle.alg_model.specs.Maps.{field_values}
use Rattle.alg_model.specs.Lattices.{first_edition, Row, Lattice, prime_row, made_name, field_at, pair_cmp}
use Rattle.alg_model.specs.Candidates.{map_sending}
use Rattle.lat_core.specs.Names.{IsDeclaredName}
use Rattle.lat_core.specs.Step.{IsWellFormed}
use Rattle.lat_audit.specs.Dumps.{header_line, fields_line, field_line, maps_line, map_line, end_line, Entry}
use Rattle.lat_audit.specs.declared.line_forms.TheConstants.{MAX_MAPS}

-- each line with the line feed, 10, that ends it, which the last one may lack
abbrev pub ended_lines : List ℕ → List (List ℕ)
ended_lines [] = []
ended_lines (b ∷ text) =
    if b == 10 then (b ∷ []) ∷ ended_lines text else onto_first b (ended_lines text)

-- ---- what a dump holds
-- the numbers of two fields, and where the generator of the first one goes in the second one
abbrev pub Image : Type 0
Image = (ℕ × ℕ) × List ℕ

pub record Content : Type 0 where
  pub rows : List Row
  pub images : List Image

-- the rows so far, and what may stand behind them: first the prime fields of the edition, in their
-- order, and then fields with a declared name that no earlier one has, or with `_` and their
-- number, a characteristic of the edition, and a monic polynomial of degree 2 up to the greatest
abbrev pub IsNewName : List Row → List ℕ → Type 0
IsNewName rows name = (IsDeclaredName name × All (λ row. row.name ≢ name) rows)
    ⊎ (name ≡ made_name (length rows))

abbrev pub IsNewRow : List Row → Row → Type 0
IsNewRow rows row = IsNewName rows row.name
    × IsWellFormed first_edition row.field.characteristic row.field.polynomial

abbrev pub IsNextRow : List Row → Row → Type 0
IsNextRow rows row = let primes = first_edition.primes in
    ((length rows < length primes) × (row ≡ prime_row (slice_index primes (length rows))))
    ⊎ ((length primes ≤ length rows) × IsNewRow rows row)

-- the images so far, and what may stand behind them: pairs rise by their first numbers and then by
-- their second, and the image is a value of the second field
pub record IsNextImage (rows : List Row) (images : List Image) (e : Image) : Type 0 where
  pub source : e.0.0 < length rows
  pub target : e.0.1 < length rows
  pub value : (field_values (field_at rows e.0.1)).Valid e.1
  pub rising : All (λ earlier. pair_cmp earlier.0 e.0 ≡ Less) images

-- ---- the lines in their order
-- where a reader stands: at the header, at the number of fields, at a field, at the number of maps,
-- at a map, at the last line, or behind it
pub data Place : Type 0 where
  Header : Place
  FieldCount : Place
  Field : ℕ → List Row → Place
  MapCount : List Row → Place
  Map : List Row → ℕ → List Image → Place
  End : Content → Place
  Behind : Content → Place

-- behind the last of the fields the number of maps is asked for
abbrev pub field_place : ℕ → List Row → Place
field_place count rows = if length rows == count then MapCount rows else Field count rows

-- and behind the last of the maps the end
abbrev pub map_place : List Row → ℕ → List Image → Place
map_place rows count images = if length images == count
    then End (record { rows = rows; images = images })
    else Map rows count images

-- numbers of fields and of maps are within their limits; the lines stand in order, so that a field
-- has the number of those before it
abbrev pub LeadsTo : Place → List ℕ → Place → Type 0
LeadsTo Header line next = (line ≡ header_line 1) × (next ≡ FieldCount)
LeadsTo FieldCount line next = (n : ℕ) × (line ≡ fields_line n)
    × (length first_edition.primes ≤ n) × (n ≤ first_edition.room) × (next ≡ field_place n [])
LeadsTo (Field count rows) line next = (row : Row) × (line ≡ field_line (length rows) row)
    × IsNextRow rows row × (next ≡ field_place count (rows ++ row ∷ []))
LeadsTo (MapCount rows) line next = (n : ℕ) × (line ≡ maps_line n)
    × (n ≤ MAX_MAPS) × (next ≡ map_place rows n [])
LeadsTo (Map rows count images) line next = (e : Image) × (line ≡ map_line e.0 e.1)
    × IsNextImage rows images e × (next ≡ map_place rows count (images ++ e ∷ []))
LeadsTo (End c) line next = (line ≡ end_line) × (next ≡ Behind c)
LeadsTo (Behind c) line next = ⊥

-- Line by line, up to the first one that isn't of the form asked for, or is missing. All lines of
-- these forms end with a line feed, and none has more than 4,096 bytes.
abbrev pub Reading : Place → ℕ → List (List ℕ) → Result Content ℕ → Type 0
Reading place n [] read = ((c : Content) × (place ≡ Behind c) × (read ≡ Ok c))
    ⊎ (((c : Content) → place ≢ Behind c) × (read ≡ Err n))
Reading place n (line ∷ lines) read =
    ((next : Place) × LeadsTo place line next × Reading next (n + 1) lines read)
    ⊎ (((next : Place) → ¬ LeadsTo place line next) × (read ≡ Err n))

abbrev pub IsDump : List ℕ → Content → Type 0
IsDump text c = Reading Header 1 (ended_lines text) (Ok c)

abbrev pub IsBadLine : List ℕ → ℕ → Type 0
IsBadLine text n = Reading Header 1 (ended_lines text) (Err n)

-- ---- the lattice of a content
-- the map that sends the generator to the image, by the powers of that
abbrev pub map_of : List Row → Image → Entry
map_of rows e = (e.0, map_sending (field_at rows e.0.0) (field_at rows e.0.1) e.1)

abbrev pub lattice_of : Content → Lattice
lattice_of c = record {
  edition = first_edition;
  rows = c.rows;
  maps = from_entries (map (map_of c.rows) c.images);
}
