-- Lines say one thing.
use Rattle.std.proofs.Common.{◌≡◌, Bool, true, false, ℕ, ◌+◌, ◌<◌, ◌≤◌, ◌^◌, Result, Ok, List, [], ◌∷◌, ◌++◌, length, sym, refl, ap, ◌∙◌, subst, inl, inr, ⊎_elim, arith, decimal}
use Rattle.std.specs.Prelude.{◌==◌, if◌then◌else◌, All, codes}
use Rattle.std.specs.List.{join_with_byte}
use Rattle.std.proofs.lemmas.Bool.{cases_eq}
use Rattle.std.proofs.lemmas.Fmt.{decimal_injective}
use Rattle.std.proofs.lemmas.List.{length_push}
use Rattle.std.proofs.lemmas.List.Elements.{All-get_or, All-push, All-nil}
use Rattle.alg_model.specs.Lattices.{first_edition, Row, field_at, no_row}
use Rattle.lat_core.specs.Digits.{AreDigits}
use Rattle.lat_language.specs.CanonicalText.{line_of}
use Rattle.lat_language.specs.Commands.{digits_text}
use Rattle.lat_language.specs.PrivateCoefficients.{digits_text_injective}
use Rattle.lat_audit.specs.Dumps.{field_line, map_line}
use Rattle.lat_audit.specs.Readings.{ended_lines, Image, Content, IsNextRow, IsNextImage, Place, Header, FieldCount, Field, MapCount, Map, End, Behind, field_place, map_place, LeadsTo, Reading}
use Rattle.lat_audit.specs.PrivateReadings.{IsFieldPoly}
use Rattle.lat_audit.proofs.LineWords.{counted_once, one_field, one_map}
use Rattle.lat_audit.proofs.ReadRows.{characteristic_small, poly_digits, value_digits, next_poly, row_words, image_words}
use Rattle.lat_audit.proofs.ReadLines.{field_asked, fields_done}

-- ---- a line is that of one row, or of one image
abbrev HasPoly : Row → Type 0
HasPoly row = IsFieldPoly row.field.characteristic row.field.polynomial

same_row : (r s : Row) → r.name ≡ s.name → r.field.characteristic ≡ s.field.characteristic
    → r.field.polynomial ≡ s.field.polynomial → r ≡ s
same_row r s a b c = λ i. record {
  name = a i;
  field = record { characteristic = b i; polynomial = c i };
}

-- the line of a row with no line feed
abbrev row_text : ℕ → Row → List ℕ
row_text n r = join_with_byte 32 (codes "field" ∷ decimal n ∷ r.name
    ∷ decimal r.field.characteristic ∷ digits_text r.field.polynomial ∷ [])

one_row : (rows : List Row) (r s : Row) → length rows < 2 ^ 64 → IsNextRow rows r → IsNextRow rows s
    → field_line (length rows) r ≡ field_line (length rows) s → r ≡ s
unfolding line_of
one_row rows r s few next other e =
    let number = decimal (length rows) in
    let line = row_text (length rows) r in
    let p = next_poly rows r next in
    let q = next_poly rows s other in
    let low : r.field.characteristic < 32 = characteristic_small r.field.characteristic p.characteristic in
    let small : s.field.characteristic < 32 = characteristic_small s.field.characteristic q.characteristic in
    let same = one_field line number r.name (decimal r.field.characteristic) (digits_text r.field.polynomial)
    number s.name (decimal s.field.characteristic) (digits_text s.field.polynomial)
    (row_words rows line r few next refl) (row_words rows line s few other e) in
    same_row r s same.1
    (decimal_injective r.field.characteristic s.field.characteristic (omega (arith, low)) (omega (arith, small)) same.2)
    (digits_text_injective r.field.polynomial s.field.polynomial
    (poly_digits r.field.characteristic r.field.polynomial p)
    (poly_digits s.field.characteristic s.field.polynomial q) same.3)

known_poly : (rows : List Row) (i : ℕ) → i < length rows → All HasPoly rows
    → IsFieldPoly (field_at rows i).characteristic (field_at rows i).polynomial
known_poly rows i l known = All-get_or HasPoly rows i no_row l known

one_image : (rows : List Row) (images : List Image) (d e : Image) → length rows ≤ first_edition.room
    → All HasPoly rows → IsNextImage rows images d → IsNextImage rows images e
    → map_line d.0 d.1 ≡ map_line e.0 e.1 → d ≡ e
unfolding line_of
one_image rows images d e few known next other is =
    let line = join_with_byte 32 (codes "map" ∷ decimal d.0.0 ∷ decimal d.0.1 ∷ digits_text d.1 ∷ []) in
    let same = one_map line (decimal d.0.0) (decimal d.0.1) (digits_text d.1)
    (decimal e.0.0) (decimal e.0.1) (digits_text e.1)
    (image_words rows images line d few next refl) (image_words rows images line e few other is) in
    let source : d.0.0 ≡ e.0.0 = one_number d.0.0 e.0.0 next.source other.source same.0 in
    let target : d.0.1 ≡ e.0.1 = one_number d.0.1 e.0.1 next.target other.target same.1 in
    let value : d.1 ≡ e.1 = digits_text_injective d.1 e.1 (digits d next) (digits e other) same.2 in
    λ i. ((source i, target i), value i)
  where
    one_number : (m n : ℕ) → m < length rows → n < length rows → decimal m ≡ decimal n → m ≡ n
    one_number m n lm ln = decimal_injective m n (omega (arith, few, lm)) (omega (arith, few, ln))

    digits : (e : Image) → IsNextImage rows images e → AreDigits e.1
    digits e next = value_digits (field_at rows e.0.1) e.1 (known_poly rows e.0.1 next.target known) next.value

-- ---- what is known at a place
abbrev Fits : Place → Type 0
Fits Header = Unit {0}
Fits FieldCount = Unit {0}
Fits (Field count rows) = (length rows < count) × (count ≤ first_edition.room) × All HasPoly rows
Fits (MapCount rows) = (length rows ≤ first_edition.room) × All HasPoly rows
Fits (Map rows count images) = (length rows ≤ first_edition.room) × All HasPoly rows
Fits (End c) = Unit {0}
Fits (Behind c) = Unit {0}

fits_field : (count : ℕ) (rows : List Row) → length rows ≤ count → count ≤ first_edition.room
    → All HasPoly rows → Fits (field_place count rows)
fits_field count rows within few known = ⊎_elim
    (λ e. subst Fits (sym (fields_done count rows e)) (omega (arith, e, few), known))
    (λ apart. let l : length rows < count = omega (arith, within, apart) in
    subst Fits (sym (field_asked count rows l)) (l, few, known))
    (cases_eq (length rows) count)

fits_map : (rows : List Row) (count : ℕ) (images : List Image) → Fits (MapCount rows)
    → Fits (map_place rows count images)
fits_map rows count images fits = by_test (length images == count)
  where
    by_test : (t : Bool) → Fits (if t then End (record { rows = rows; images = images }) else Map rows count images)
    by_test true = tt
    by_test false = fits

fits_next : (place : Place) (line : List ℕ) (next : Place) → Fits place → LeadsTo place line next → Fits next
fits_next Header line next fits (is, at) = subst Fits (sym at) tt
fits_next FieldCount line next fits (n, is, low, high, at) =
    subst Fits (sym at) (fits_field n [] (omega arith) high (All-nil HasPoly))
fits_next (Field count rows) line next (less, few, known) (row, is, new, at) =
    subst Fits (sym at) (fits_field count (rows ++ row ∷ []) (omega (arith, less, length_push rows row)) few
    (All-push HasPoly rows row known (next_poly rows row new)))
fits_next (MapCount rows) line next fits (n, is, few, at) = subst Fits (sym at) (fits_map rows n [] fits)
fits_next (Map rows count images) line next fits (e, is, new, at) =
    subst Fits (sym at) (fits_map rows count (images ++ e ∷ []) fits)
fits_next (End c) line next fits (is, at) = subst Fits (sym at) tt
fits_next (Behind c) line next fits leads = absurd leads

-- ---- a line leads to one place
one_step : (place : Place) (line : List ℕ) (next other : Place) → Fits place → LeadsTo place line next
    → LeadsTo place line other → next ≡ other
one_step Header line next other fits (is, at) (also, there) = at ∙ sym there
one_step FieldCount line next other fits (m, is, low, high, at) (n, also, above, below, there) =
    let word = codes "fields" in
    let same : m ≡ n = counted_once word m n (omega (arith, high)) (omega (arith, below)) (sym is ∙ also) in
    at ∙ ap (λ k. field_place k []) same ∙ sym there
one_step (Field count rows) line next other (less, few, known) (r, is, new, at) (s, also, fresh, there) =
    let same : r ≡ s = one_row rows r s (omega (arith, less, few)) new fresh (sym is ∙ also) in
    at ∙ ap (λ (t : Row). field_place count (rows ++ t ∷ [])) same ∙ sym there
one_step (MapCount rows) line next other fits (m, is, few, at) (n, also, less, there) =
    let same : m ≡ n = counted_once (codes "maps") m n (omega (arith, few)) (omega (arith, less)) (sym is ∙ also) in
    at ∙ ap (λ k. map_place rows k []) same ∙ sym there
one_step (Map rows count images) line next other (few, known) (d, is, new, at) (e, also, fresh, there) =
    let same : d ≡ e = one_image rows images d e few known new fresh (sym is ∙ also) in
    at ∙ ap (λ (t : Image). map_place rows count (images ++ t ∷ [])) same ∙ sym there
one_step (End c) line next other fits (is, at) (also, there) = at ∙ sym there
one_step (Behind c) line next other fits leads also = absurd leads

-- ---- lines have one reading
one_from : (place : Place) (n : ℕ) (lines : List (List ℕ)) (a b : Result Content ℕ) → Fits place
    → Reading place n lines a → Reading place n lines b → a ≡ b
one_from place n [] a b fits (inl (c, at, is)) (inl (d, there, also)) =
    let place_same : Behind c ≡ Behind d = sym at ∙ there in
    let same : c ≡ d = cc in
    is ∙ ap (λ (e : Content). Ok e) same ∙ sym also
one_from place n [] a b fits (inl (c, at, is)) (inr (asks, also)) = absurd (asks c at)
one_from place n [] a b fits (inr (asks, is)) (inl (d, there, also)) = absurd (asks d there)
one_from place n [] a b fits (inr (asks, is)) (inr (asking, also)) = is ∙ sym also
one_from place n (line ∷ lines) a b fits (inl (next, leads, more)) (inl (other, leading, rest)) =
    let same : next ≡ other = one_step place line next other fits leads leading in
    one_from next (n + 1) lines a b (fits_next place line next fits leads) more
    (subst (λ (p : Place). Reading p (n + 1) lines b) (sym same) rest)
one_from place n (line ∷ lines) a b fits (inl (next, leads, more)) (inr (none, also)) = absurd (none next leads)
one_from place n (line ∷ lines) a b fits (inr (none, is)) (inl (other, leading, rest)) = absurd (none other leading)
one_from place n (line ∷ lines) a b fits (inr (none, is)) (inr (never, also)) = is ∙ sym also

-- **a text has one reading**
pub one_reading : (text : List ℕ) (a b : Result Content ℕ) → Reading Header 1 (ended_lines text) a
    → Reading Header 1 (ended_lines text) b → a ≡ b
one_reading text a b = one_from Header 1 (ended_lines text) a b tt
