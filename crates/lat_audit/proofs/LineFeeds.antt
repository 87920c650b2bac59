-- Lines that end in their only line feed, and texts that are joined of lines.
use Rattle.std.proofs.Common.{◌≡◌, Bool, true, false, ℕ, ◌<◌, ◌^◌, List, [], ◌∷◌, ◌++◌, length, sym, refl, ap, ◌∙◌, subst, inl, inr, arith, eqb, cond, decimal, map, append_assoc}
use Rattle.std.specs.Prelude.{◌≢◌, ◌==◌, All, codes, slice_index}
use Rattle.std.specs.List.{onto_first, join_with_byte, concat}
use Rattle.std.specs.Str.Parse.{AllDigits}
use Rattle.std.specs.Char.{IsAsciiAlphabetic}
use Rattle.std.proofs.lemmas.Fmt.{decimal_is_IsNumeral}
use Rattle.std.proofs.lemmas.Str.Parse.{digit_from_value}
use Rattle.std.proofs.lemmas.Bool.{eqb-false}
use Rattle.std.proofs.lemmas.List.Elements.{All-head, All-tail, All-cons, All-nil, All-append, All-get_or, All-from_recursion}
use Rattle.alg_model.specs.Lattices.{first_edition, Row, no_row, field_at}
use Rattle.lat_core.specs.Names.{IsNameByte, IsDeclaredName}
use Rattle.lat_core.specs.Digits.{AreDigits}
use Rattle.lat_language.specs.CanonicalText.{line_of}
use Rattle.lat_language.specs.Commands.{digits_text}
use Rattle.lat_audit.specs.Dumps.{header_line, fields_line, field_line, maps_line, map_line, end_line}
use Rattle.lat_audit.specs.Readings.{ended_lines, Image, IsNewName, IsNextRow, IsNextImage}
use Rattle.lat_audit.specs.PrivateReadings.{Lacks, ended}
use Rattle.lat_audit.proofs.ContentRows.{HasPoly}
use Rattle.lat_audit.proofs.LineWords.{first_line}
use Rattle.lat_audit.proofs.ReadRows.{characteristic_small, next_poly, poly_digits, value_digits}

-- ---- texts joined of lines
onto_joined : (b : ℕ) (lines : List (List ℕ)) → concat (onto_first b lines) ≡ b ∷ concat lines
onto_joined b [] = refl
onto_joined b (line ∷ lines) = refl

-- the lines of a text, joined, are the text
pub joined_text : (text : List ℕ) → concat (ended_lines text) ≡ text
joined_text [] = refl
joined_text (b ∷ text) = by_test (b == 10) (ended_lines text) (joined_text text) where
  by_test : (t : Bool) (lines : List (List ℕ)) → concat lines ≡ text
      → concat (cond t ((b ∷ []) ∷ lines) (onto_first b lines)) ≡ b ∷ text
  by_test true lines e = ap (λ r. b ∷ r) e
  by_test false lines e = onto_joined b lines ∙ ap (λ r. b ∷ r) e

-- ---- lines
-- a line feed ends the line, and stands nowhere else in it
abbrev pub IsLine : List ℕ → Type 0
IsLine line = (l : List ℕ) × (line ≡ ended l) × Lacks 10 l

pub line_begins : (line rest : List ℕ) → IsLine line
    → ended_lines (line ++ rest) ≡ line ∷ ended_lines rest
line_begins line rest (l, is, none) =
    ap (λ t. ended_lines (t ++ rest)) is
    ∙ ap ended_lines (append_assoc l (10 ∷ []) rest)
    ∙ first_line (l ++ 10 ∷ rest) l rest (refl, none)
    ∙ ap (λ t. t ∷ ended_lines rest) (sym is)

joined_lacks : (byte : ℕ) → byte ≢ 10 → (words : List (List ℕ)) → All (Lacks 10) words
    → Lacks 10 (join_with_byte byte words)
joined_lacks byte other [] all = All-nil (λ b. b ≢ 10)
joined_lacks byte other (x ∷ []) all = All-head (Lacks 10) x [] all
joined_lacks byte other (x ∷ y ∷ words) all =
    All-append (λ b. b ≢ 10) x (byte ∷ join_with_byte byte (y ∷ words)) (All-head (Lacks 10) x (y ∷ words) all)
    (All-cons (λ b. b ≢ 10) byte (join_with_byte byte (y ∷ words)) other
    (joined_lacks byte other (y ∷ words) (All-tail (Lacks 10) x (y ∷ words) all)))

words_line : (words : List (List ℕ)) → All (Lacks 10) words → IsLine (line_of words)
unfolding line_of
words_line words all = (join_with_byte 32 words, refl, joined_lacks 32 (λ e. omega (arith, e)) words all)

-- ---- bytes of words
-- no line feed is met
abbrev has_none : List ℕ → Bool
has_none [] = true
has_none (b ∷ text) = cond (eqb b 10) false (has_none text)

tested : (text : List ℕ) → has_none text ≡ true → Lacks 10 text
tested [] e = All-nil (λ b. b ≢ 10)
tested (b ∷ text) e = by_test (eqb b 10) refl (tested text) e where
  by_test : (t : Bool) → eqb b 10 ≡ t → (has_none text ≡ true → Lacks 10 text)
      → cond t false (has_none text) ≡ true → Lacks 10 (b ∷ text)
  by_test true is rest e = cc
  by_test false is rest e = All-cons (λ b. b ≢ 10) b text (eqb-false b 10 is) (rest e)

digits_free : (ds : List ℕ) → AllDigits 10 ds → Lacks 10 ds
digits_free [] h = All-nil (λ b. b ≢ 10)
digits_free (d ∷ ds) h =
    let range = digit_from_value d h.0 in
    All-cons (λ b. b ≢ 10) d ds (λ e. omega (arith, range, e)) (digits_free ds h.1)

decimal_free : (n : ℕ) → n < 2 ^ 64 → Lacks 10 (decimal n)
decimal_free n l = digits_free (decimal n) (decimal_is_IsNumeral n l).0.1

decimals_free : (c : List ℕ) → All (λ n. n < 256) c → All (Lacks 10) (map decimal c)
decimals_free [] all = All-nil (Lacks 10)
decimals_free (n ∷ c) all =
    let small : n < 256 = All-head (λ n. n < 256) n c all in
    All-cons (Lacks 10) (decimal n) (map decimal c) (decimal_free n (omega (arith, small)))
    (decimals_free c (All-tail (λ n. n < 256) n c all))

coefficients_free : (c : List ℕ) → AreDigits c → Lacks 10 (digits_text c)
unfolding digits_text
coefficients_free c are = joined_lacks 44 (λ e. omega (arith, e)) (map decimal c) (decimals_free c are.bytes)

name_bytes_free : (bs : List ℕ) → All IsNameByte bs → Lacks 10 bs
name_bytes_free [] h = All-nil (λ b. b ≢ 10)
name_bytes_free (b ∷ bs) h =
    All-cons (λ b. b ≢ 10) b bs (λ e. other b (All-head IsNameByte b bs h) e)
    (name_bytes_free bs (All-tail IsNameByte b bs h))
  where
    other : (b : ℕ) → IsNameByte b → b ≡ 10 → ⊥
    other b (inl (inl (inl r))) e = omega (arith, r, e)
    other b (inl (inl (inr r))) e = omega (arith, r, e)
    other b (inl (inr r)) e = omega (arith, r, e)
    other b (inr r) e = omega (arith, r, e)

letter_free : (b : ℕ) → IsAsciiAlphabetic b → b ≡ 10 → ⊥
letter_free b (inl r) e = omega (arith, r, e)
letter_free b (inr r) e = omega (arith, r, e)

declared_free : (name : List ℕ) → IsDeclaredName name → Lacks 10 name
declared_free [] h = absurd h
declared_free (b ∷ bs) h = All-cons (λ b. b ≢ 10) b bs (letter_free b h.0) (name_bytes_free bs h.1)

-- the name of a prime field, and that of a made one
lettered_free : (letter n : ℕ) → letter ≢ 10 → n < 2 ^ 64 → Lacks 10 (letter ∷ decimal n)
lettered_free letter n other l = All-cons (λ b. b ≢ 10) letter (decimal n) other (decimal_free n l)

new_free : (rows : List Row) (name : List ℕ) → length rows < 2 ^ 64 → IsNewName rows name
    → Lacks 10 name
new_free rows name few (inl (declared, free)) = declared_free name declared
new_free rows name few (inr e) = subst (Lacks 10) (sym e) (lettered_free 95 (length rows) (λ t. omega (arith, t)) few)

name_free : (rows : List Row) (r : Row) → length rows < 2 ^ 64 → IsNextRow rows r → Lacks 10 r.name
name_free rows r small (inl (few, e)) =
    let p = slice_index first_edition.primes (length rows) in
    let is : r.field.characteristic ≡ p = ap (λ (s : Row). s.field.characteristic) e in
    let own = next_poly rows r (inl (few, e)) in
    let low : r.field.characteristic < 32 = characteristic_small r.field.characteristic own.characteristic in
    subst (λ (s : Row). Lacks 10 s.name) (sym e)
    (lettered_free 70 p (λ t. omega (arith, t)) (omega (arith, low, is)))
name_free rows r small (inr (many, new)) = new_free rows r.name small new.0

-- ---- the lines of a dump
number_line : (word : List ℕ) (n : ℕ) → Lacks 10 word → n < 2 ^ 64
    → IsLine (line_of (word ∷ decimal n ∷ []))
number_line word n none l = words_line (word ∷ decimal n ∷ [])
    (All-from_recursion (Lacks 10) (word ∷ decimal n ∷ []) (none, (decimal_free n l, tt)))

pub header_is : IsLine (header_line 1)
header_is = number_line (codes "lattice-dump") 1 (tested (codes "lattice-dump") refl) (omega arith)

pub fields_is : (n : ℕ) → n < 2 ^ 64 → IsLine (fields_line n)
fields_is n l = number_line (codes "fields") n (tested (codes "fields") refl) l

pub maps_is : (n : ℕ) → n < 2 ^ 64 → IsLine (maps_line n)
maps_is n l = number_line (codes "maps") n (tested (codes "maps") refl) l

pub end_is : IsLine end_line
end_is = words_line (codes "end" ∷ [])
    (All-from_recursion (Lacks 10) (codes "end" ∷ []) (tested (codes "end") refl, tt))

pub field_is : (rows : List Row) (row : Row) → length rows < 2 ^ 64 → IsNextRow rows row
    → IsLine (field_line (length rows) row)
field_is rows row small next =
    let own = next_poly rows row next in
    let low : row.field.characteristic < 32 = characteristic_small row.field.characteristic own.characteristic in
    let p = row.field.characteristic in
    let f = row.field.polynomial in
    let words = codes "field" ∷ decimal (length rows) ∷ row.name ∷ decimal p ∷ digits_text f ∷ [] in
    words_line words (All-from_recursion (Lacks 10) words (
      tested (codes "field") refl,
      (
        decimal_free (length rows) small,
        (
          name_free rows row small next,
          (
            decimal_free p (omega (arith, low)),
            (coefficients_free f (poly_digits p f own), tt),
          ),
        ),
      ),
    ))

pub map_is : (rows : List Row) (images : List Image) (e : Image) → length rows < 2 ^ 64
    → All HasPoly rows → IsNextImage rows images e → IsLine (map_line e.0 e.1)
map_is rows images e small polys next =
    let source : e.0.0 < length rows = next.source in
    let target : e.0.1 < length rows = next.target in
    let own = All-get_or HasPoly rows e.0.1 no_row target polys in
    let words = codes "map" ∷ decimal e.0.0 ∷ decimal e.0.1 ∷ digits_text e.1 ∷ [] in
    words_line words (All-from_recursion (Lacks 10) words (
      tested (codes "map") refl,
      (
        decimal_free e.0.0 (omega (arith, source, small)),
        (
          decimal_free e.0.1 (omega (arith, target, small)),
          (coefficients_free e.1 (value_digits (field_at rows e.0.1) e.1 own next.value), tt),
        ),
      ),
    ))
