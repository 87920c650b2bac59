-- Each text has a reading.
--     ArePolys rows       the rows have polynomials of the edition
--     AreWithin rows images     the images are between fields of these rows
--     IsSound place       what was read before is so
use Rattle.std.proofs.Common.{◌≡◌, Bool, true, false, ℕ, ◌+◌, ◌<◌, ◌≤◌, cond, Result, Ok, Err, List, [], ◌∷◌, ◌++◌, length, sym, refl, ap, ◌∙◌, subst, inl, inr, arith}
use Rattle.std.specs.Prelude.{◌==◌, All}
use Rattle.std.proofs.lemmas.List.Elements.{All-get_or, All-push, All-nil}
use Rattle.alg_model.specs.Lattices.{first_edition, Row, no_row, field_at}
use Rattle.lat_language.specs.PrivateDecisions.{Decided, same_text}
use Rattle.lat_audit.specs.Dumps.{header_line, fields_line, maps_line, end_line}
use Rattle.lat_audit.specs.Readings.{ended_lines, Image, Content, Place, Header, FieldCount, Field, MapCount, Map, End, Behind, field_place, map_place, LeadsTo, Reading, IsDump}
use Rattle.lat_audit.specs.PrivateReadings.{IsFieldPoly}
use Rattle.lat_audit.specs.declared.line_forms.TheConstants.{MAX_MAPS}
use Rattle.lat_audit.proofs.ReadRows.{next_poly}
use Rattle.lat_audit.proofs.FiniteSearches.{told_as, both_told, some_below}
use Rattle.lat_audit.proofs.LineDecisions.{le_told, row_told, image_told}

-- ---- what was read before
abbrev IsPoly : Row → Type 0
IsPoly row = IsFieldPoly row.field.characteristic row.field.polynomial

abbrev pub ArePolys : List Row → Type 0
ArePolys rows = All (λ row. IsFieldPoly row.field.characteristic row.field.polynomial) rows

abbrev IsWithin : List Row → Image → Type 0
IsWithin rows e = (e.0.0 < length rows) × (e.0.1 < length rows)

abbrev pub AreWithin : List Row → List Image → Type 0
AreWithin rows images = All (λ e. (e.0.0 < length rows) × (e.0.1 < length rows)) images

abbrev pub IsSound : Place → Type 0
IsSound Header = Unit {0}
IsSound FieldCount = Unit {0}
IsSound (Field count rows) = ArePolys rows
IsSound (MapCount rows) = ArePolys rows
IsSound (Map rows count images) = ArePolys rows × AreWithin rows images
IsSound (End c) = ArePolys c.rows × AreWithin c.rows c.images
IsSound (Behind c) = ArePolys c.rows × AreWithin c.rows c.images

pub poly_at : (rows : List Row) → ArePolys rows → (j : ℕ) → j < length rows
    → IsFieldPoly (field_at rows j).characteristic (field_at rows j).polynomial
poly_at rows polys j l = All-get_or IsPoly rows j no_row l polys

sound_field : (count : ℕ) (rows : List Row) → ArePolys rows → IsSound (field_place count rows)
sound_field count rows polys = by_test (length rows == count) where
  by_test : (t : Bool) → IsSound (cond t (MapCount rows) (Field count rows))
  by_test true = polys
  by_test false = polys

sound_map : (rows : List Row) (count : ℕ) (images : List Image) → ArePolys rows
    → AreWithin rows images → IsSound (map_place rows count images)
sound_map rows count images polys within = by_test (length images == count) where
  by_test : (t : Bool)
      → IsSound (cond t (End (record { rows = rows; images = images })) (Map rows count images))
  by_test true = (polys, within)
  by_test false = (polys, within)

sound_next : (place : Place) (line : List ℕ) (next : Place) → IsSound place
    → LeadsTo place line next → IsSound next
sound_next Header line next sound h = subst IsSound (sym h.1) tt
sound_next FieldCount line next sound h = subst IsSound (sym h.4) (sound_field h.0 [] (All-nil IsPoly))
sound_next (Field count rows) line next sound h =
    subst IsSound (sym h.3) (sound_field count (rows ++ h.0 ∷ [])
    (All-push IsPoly rows h.0 sound (next_poly rows h.0 h.2)))
sound_next (MapCount rows) line next sound h =
    subst IsSound (sym h.3) (sound_map rows h.0 [] sound (All-nil (IsWithin rows)))
sound_next (Map rows count images) line next sound h =
    subst IsSound (sym h.3) (sound_map rows count (images ++ h.0 ∷ []) sound.0
    (All-push (IsWithin rows) images h.0 sound.1 (h.2.source, h.2.target)))
sound_next (End c) line next sound h = subst IsSound (sym h.1) sound
sound_next (Behind c) line next sound h = absurd h

-- ---- where a line leads
abbrev Leads : Place → List ℕ → Type 0
Leads place line = Decided ((next : Place) × LeadsTo place line next)

count_told : (low high : ℕ) (line : List ℕ) (text : ℕ → List ℕ)
    → Decided ((n : ℕ) × (line ≡ text n) × (low ≤ n) × (n ≤ high))
count_told low high line text = told_as
    (λ (n, l, h). (n, h.0, h.1, omega (arith, l)))
    (λ (n, e, a, b). (n, omega (arith, b), (e, a)))
    (some_below (λ n. (line ≡ text n) × (low ≤ n)) (high + 1)
    (λ n l. both_told (same_text line (text n)) (le_told low n)))

leads : (place : Place) (line : List ℕ) → IsSound place → Leads place line
leads Header line sound = told_as
    (λ e. (FieldCount, (e, refl))) (λ (next, h). h.0) (same_text line (header_line 1))
leads FieldCount line sound = told_as
    (λ (n, e, a, b). (field_place n [], (n, e, a, b, refl)))
    (λ (next, h). (h.0, h.1, h.2, h.3))
    (count_told (length first_edition.primes) first_edition.room line fields_line)
leads (Field count rows) line sound = told_as
    (λ (row, e, next). (field_place count (rows ++ row ∷ []), (row, e, next, refl)))
    (λ (next, h). (h.0, h.1, h.2))
    (row_told rows line)
leads (MapCount rows) line sound = told_as
    (λ (n, e, a, b). (map_place rows n [], (n, e, b, refl)))
    (λ (next, h). (h.0, h.1, omega arith, h.2))
    (count_told 0 MAX_MAPS line maps_line)
leads (Map rows count images) line sound = told_as
    (λ (e, is, next). (map_place rows count (images ++ e ∷ []), (e, is, next, refl)))
    (λ (next, h). (h.0, h.1, h.2))
    (image_told rows images line (poly_at rows sound.0))
leads (End c) line sound = told_as
    (λ e. (Behind c, (e, refl))) (λ (next, h). h.0) (same_text line end_line)
leads (Behind c) line sound = inr (λ h. h.1)

-- ---- readings
abbrev SomeReading : Place → ℕ → List (List ℕ) → Type 0
SomeReading place n lines = (r : Result Content ℕ) × Reading place n lines r

at_end : (place : Place) (n : ℕ) → SomeReading place n []
at_end Header n = (Err n, inr (λ c e. cc, refl))
at_end FieldCount n = (Err n, inr (λ c e. cc, refl))
at_end (Field count rows) n = (Err n, inr (λ c e. cc, refl))
at_end (MapCount rows) n = (Err n, inr (λ c e. cc, refl))
at_end (Map rows count images) n = (Err n, inr (λ c e. cc, refl))
at_end (End c) n = (Err n, inr (λ d e. cc, refl))
at_end (Behind c) n = (Ok c, inl (c, refl, refl))

reading_from : (place : Place) (n : ℕ) (lines : List (List ℕ)) → IsSound place
    → SomeReading place n lines
reading_from place n [] sound = at_end place n
reading_from place n (line ∷ lines) sound =
    on (leads place line sound) (λ next h. reading_from next (n + 1) lines (sound_next place line next sound h))
  where
    on : Leads place line
        → ((next : Place) → LeadsTo place line next → SomeReading next (n + 1) lines)
        → SomeReading place n (line ∷ lines)
    on (inl (next, h)) more = ((more next h).0, inl (next, h, (more next h).1))
    on (inr none) more = (Err n, inr (λ next h. none (next, h), refl))

-- **a text is a dump in form, or has a first bad line**
pub some_reading : (text : List ℕ)
    → (r : Result Content ℕ) × Reading Header 1 (ended_lines text) r
some_reading text = reading_from Header 1 (ended_lines text) tt

-- what a dump holds is sound
read_sound : (place : Place) (n : ℕ) (lines : List (List ℕ)) (c : Content) → IsSound place
    → Reading place n lines (Ok c) → IsSound (Behind c)
read_sound place n [] c sound (inl (d, is, e)) =
    let same : d ≡ c = cc in subst IsSound (is ∙ ap Behind same) sound
read_sound place n [] c sound (inr (asks, e)) = cc
read_sound place n (line ∷ lines) c sound (inl (next, leads, more)) =
    read_sound next (n + 1) lines c (sound_next place line next sound leads) more
read_sound place n (line ∷ lines) c sound (inr (none, e)) = cc

pub dump_sound : (text : List ℕ) (c : Content) → IsDump text c
    → ArePolys c.rows × AreWithin c.rows c.images
dump_sound text c dump = read_sound Header 1 (ended_lines text) c tt dump
