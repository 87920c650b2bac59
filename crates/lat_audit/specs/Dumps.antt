-- The dump of a lattice.
--     edition_number e             1 or 2
--     header_line, fields_line, field_line, maps_line, map_line, end_line     its lines
--     field_lines n rows           the lines of fields whose numbers begin with n
--     Entry, generator_image       a pair of numbers and its map; the image of the generator
--     stored_lines rows entries    the lines of maps between fields of these rows
--     dump_text L                  the dump
use Rattle.std.specs.Prelude.{ℕ, suc, ◌==◌, if◌then◌else◌, List, [], ◌∷◌, ◌++◌, length, flat_map, codes, decimal}
use Rattle.std.specs.FinMap.{entries, len}
use Rattle.alg_model.specs.Maps.{generator, apply}
use Rattle.alg_model.specs.Lattices.{Edition, first_edition, Row, Lattice, field_at}
use Rattle.lat_language.specs.Commands.{digits_text}
use Rattle.lat_language.specs.CanonicalText.{line_of}

abbrev pub edition_number : Edition → ℕ
edition_number e = if e.top == first_edition.top then 1 else 2

abbrev pub header_line : ℕ → List ℕ
header_line n = line_of (codes "lattice-dump" ∷ decimal n ∷ [])

abbrev pub fields_line : ℕ → List ℕ
fields_line n = line_of (codes "fields" ∷ decimal n ∷ [])

-- number, name, characteristic and polynomial, the lowest coefficient first
abbrev pub field_line : ℕ → Row → List ℕ
field_line n row = line_of (codes "field" ∷ decimal n ∷ row.name
    ∷ decimal row.field.characteristic ∷ digits_text row.field.polynomial ∷ [])

abbrev pub field_lines : ℕ → List Row → List ℕ
field_lines n [] = []
field_lines n (row ∷ rows) = field_line n row ++ field_lines (suc n) rows

abbrev pub maps_line : ℕ → List ℕ
maps_line n = line_of (codes "maps" ∷ decimal n ∷ [])

-- from one field to another, by the image of the generator
abbrev pub map_line : ℕ × ℕ → List ℕ → List ℕ
map_line pair image =
    line_of (codes "map" ∷ decimal pair.0 ∷ decimal pair.1 ∷ digits_text image ∷ [])

abbrev pub end_line : List ℕ
end_line = line_of (codes "end" ∷ [])

-- a pair of numbers, and the map that is stored for it
abbrev pub Entry : Type 0
Entry = (ℕ × ℕ) × List (List ℕ)

abbrev pub generator_image : List Row → Entry → List ℕ
generator_image rows e = apply (field_at rows e.0.1) e.1 (generator (field_at rows e.0.0))

abbrev pub stored_lines : List Row → List Entry → List ℕ
stored_lines rows entries = flat_map (λ e. map_line e.0 (generator_image rows e)) entries

-- by the first numbers, and then by the second
abbrev pub map_lines : Lattice → List ℕ
map_lines L = stored_lines L.rows (entries L.maps)

abbrev pub dump_text : Lattice → List ℕ
dump_text L = header_line (edition_number L.edition)
    ++ (fields_line (length L.rows) ++ field_lines 0 L.rows)
    ++ (maps_line (len L.maps) ++ map_lines L)
    ++ end_line
