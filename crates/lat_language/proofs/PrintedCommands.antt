-- The words of a command are those of a printed line.
use Rattle.std.proofs.Common.{◌≡◌, ℕ, ◌<◌, ◌≤◌, ◌^◌, Bool, true, ltb, leb, List, [], ◌∷◌, length, map, sym, refl, subst, inl, inr, arith, lit<, lit≤, length-append, ◌*◌}
use Rattle.std.specs.Prelude.{◌&&◌, All, codes, decimal}
use Rattle.std.specs.Char.{IsAsciiAlphabetic}
use Rattle.std.specs.List.{join_with_byte}
use Rattle.std.specs.Str.Parse.{AllDigits}
use Rattle.std.proofs.lemmas.Bool.{and_parts, ltb-true, leb-true}
use Rattle.std.proofs.lemmas.Fmt.{decimal_is_IsNumeral, decimal_nonempty, length-decimal-le}
use Rattle.std.proofs.lemmas.Str.Parse.{digit_from_value}
use Rattle.std.proofs.lemmas.List.{length-map}
use Rattle.std.proofs.lemmas.List.Elements.{All-nil, All-cons, All-head, All-tail, All-weaker, All-map}
use Rattle.lat_core.specs.Names.{IsNameByte, IsDeclaredName, IsFieldName}
use Rattle.lat_core.specs.Digits.{AreDigits}
use Rattle.lat_language.specs.declared.commands.Op.{Op}
use Rattle.lat_language.specs.declared.commands.Op.TheVariants.{First, Second, Third}
use Rattle.lat_language.specs.declared.commands.Command.{Command}
use Rattle.lat_language.specs.declared.commands.Command.TheVariants as command
use Rattle.lat_language.specs.Commands.{digits_text, op_text, Word, Fixed, Name, FieldWord, Number, Coefficients, Operation, word_text, IsWord, form_of, command_words}
use Rattle.lat_language.specs.Grammar.{header_words}
use Rattle.lat_language.proofs.PrintedLines.{IsPrintedWord, printed_weaker, joined_bytes, joined_length}

-- ---- names
alphabetic_above : (b : ℕ) → IsAsciiAlphabetic b → 32 < b
alphabetic_above b (inl h) = omega arith
alphabetic_above b (inr h) = omega arith

name_byte_above : (b : ℕ) → IsNameByte b → 32 < b
name_byte_above b (inl (inl (inl h))) = omega arith
name_byte_above b (inl (inl (inr h))) = omega arith
name_byte_above b (inl (inr h)) = omega arith
name_byte_above b (inr h) = omega arith

-- a declared name
pub declared_printed : (name : List ℕ) → IsDeclaredName name → IsPrintedWord 32 name
declared_printed [] h = absurd h
declared_printed (b ∷ bs) h = record {
  some = omega arith;
  fits = let short = h.2 in omega arith;
  bytes = All-cons (λ b. 32 < b) b bs (alphabetic_above b h.0) (All-weaker IsNameByte (λ b. 32 < b) name_byte_above bs h.1);
}

-- ---- numbers
digits_above : (ds : List ℕ) → AllDigits 10 ds → All (λ b. 32 < b) ds
digits_above [] h = All-nil (λ b. 32 < b)
digits_above (d ∷ ds) h =
    let range = digit_from_value d h.0 in
    All-cons (λ b. 32 < b) d ds (omega (arith, range)) (digits_above ds h.1)

number_printed : (most n : ℕ) → 0 < most → n < 10 ^ most → n < 2 ^ 64
    → IsPrintedWord most (decimal n)
number_printed most n some below fits = record {
  some = decimal_nonempty n fits;
  fits = length-decimal-le most n some below fits;
  bytes = digits_above (decimal n) (decimal_is_IsNumeral n fits).0.1;
}

-- a number of 64 bits has at most 20 digits
long_printed : (n : ℕ) → n < 2 ^ 64 → IsPrintedWord 20 (decimal n)
long_printed n fits = number_printed 20 n (lit< tt) (let most : 2 ^ 64 ≤ 10 ^ 20 = lit≤ tt in omega arith) fits

-- a number below 256 at most three
short_printed : (n : ℕ) → n < 256 → IsPrintedWord 3 (decimal n)
short_printed n small = number_printed 3 n (lit< tt) (omega arith) (omega arith)

-- the name of an added field
field_printed : (name : List ℕ) → IsFieldName name → IsPrintedWord 32 name
field_printed name (inl h) = declared_printed name h
field_printed name (inr h) = subst (IsPrintedWord 32) (sym h.2) (
    let number = short_printed h.0 (omega (arith, h.1)) in record {
      some = omega arith;
      fits = omega (arith, number.fits);
      bytes = All-cons (λ b. 32 < b) 95 (decimal h.0) (lit< tt) number.bytes;
    }
    )

-- ---- coefficient lists
decimals_printed : (c : List ℕ) → All (λ n. n < 256) c → All (IsPrintedWord 3) (map decimal c)
decimals_printed c small = All-map (IsPrintedWord 3) decimal c (All-weaker (λ n. n < 256) (λ n. IsPrintedWord 3 (decimal n)) short_printed c small)

joined_some : (words : List (List ℕ)) → 0 < length words → All (IsPrintedWord 3) words
    → 0 < length (join_with_byte 44 words)
joined_some [] some all = absurd (omega arith)
joined_some (w ∷ []) some all = (All-head (IsPrintedWord 3) w [] all).some
joined_some (w ∷ v ∷ words) some all = omega (arith, length-append w (44 ∷ join_with_byte 44 (v ∷ words)))

coefficients_printed : (c : List ℕ) → AreDigits c → IsPrintedWord 256 (digits_text c)
unfolding digits_text
coefficients_printed c h =
    let printed = decimals_printed c h.bytes in
    let count : length (map decimal c) ≡ length c = length-map c decimal in
    let most : length (join_with_byte 44 (map decimal c)) ≤ length (map decimal c) * 4 =
    joined_length 44 3 (map decimal c) (All-weaker (IsPrintedWord 3) (λ w. length w ≤ 3) (λ w p. p.fits) (map decimal c) printed) in record {
      some = joined_some (map decimal c) (omega (arith, h.count.0)) printed;
      fits = omega (arith, h.count.1);
      bytes = joined_bytes (λ b. 32 < b) 44 (lit< tt) (map decimal c) (All-weaker (IsPrintedWord 3) (All (λ b. 32 < b)) (λ w p. p.bytes) (map decimal c) printed);
    }

-- ---- fixed words
-- all bytes are above the space
all_above : List ℕ → Bool
all_above [] = true
all_above (b ∷ bs) = ltb 32 b && all_above bs

above_all : (text : List ℕ) → all_above text ≡ true → All (λ b. 32 < b) text
unfolding all_above
above_all [] e = All-nil (λ b. 32 < b)
above_all (b ∷ bs) e =
    let parts = and_parts (ltb 32 b) (all_above bs) e in
    All-cons (λ b. 32 < b) b bs (ltb-true 32 b parts.0) (above_all bs parts.1)

-- a fixed word is one of a printed line, and a number has at most 64 bits
is_plain : Word → Bool
is_plain (Fixed text) = ltb 0 (length text) && (leb (length text) 256 && all_above text)
is_plain (Name name) = true
is_plain (FieldWord name) = true
is_plain (Number bound n) = leb bound (2 ^ 64)
is_plain (Coefficients c) = true
is_plain (Operation op) = true

all_plain : List Word → Bool
all_plain [] = true
all_plain (word ∷ words) = is_plain word && all_plain words

op_printed : (op : Op) → IsPrintedWord 256 (op_text op)
unfolding all_above
op_printed First = record { some = lit< tt; fits = lit≤ tt; bytes = above_all (op_text First) refl }
op_printed Second = record { some = lit< tt; fits = lit≤ tt; bytes = above_all (op_text Second) refl }
op_printed Third = record { some = lit< tt; fits = lit≤ tt; bytes = above_all (op_text Third) refl }

word_printed : (word : Word) → IsWord word → is_plain word ≡ true
    → IsPrintedWord 256 (word_text word)
unfolding is_plain
word_printed (Fixed text) h e =
    let parts = and_parts (ltb 0 (length text)) (leb (length text) 256 && all_above text) e in
    let more = and_parts (leb (length text) 256) (all_above text) parts.1 in record {
      some = ltb-true 0 (length text) parts.0;
      fits = leb-true (length text) 256 more.0;
      bytes = above_all text more.1;
    }
word_printed (Name name) h e = printed_weaker 32 256 (lit≤ tt) name (declared_printed name h)
word_printed (FieldWord name) h e = printed_weaker 32 256 (lit≤ tt) name (field_printed name h)
word_printed (Number bound n) h e =
    let fits = leb-true bound (2 ^ 64) e in
    printed_weaker 20 256 (lit≤ tt) (decimal n) (long_printed n (omega (arith, h, fits)))
word_printed (Coefficients c) h e = coefficients_printed c h
word_printed (Operation op) h e = op_printed op

words_printed : (words : List Word) → All IsWord words → all_plain words ≡ true
    → All (IsPrintedWord 256) (map word_text words)
unfolding all_plain
words_printed [] all e = All-nil (IsPrintedWord 256)
words_printed (word ∷ words) all e =
    let parts = and_parts (is_plain word) (all_plain words) e in
    All-cons (IsPrintedWord 256) (word_text word) (map word_text words)
    (word_printed word (All-head IsWord word words all) parts.0)
    (words_printed words (All-tail IsWord word words all) parts.1)

form_plain : (c : Command) → all_plain (form_of c) ≡ true
unfolding all_plain is_plain all_above
form_plain command.Sync = refl
form_plain _ = refl

-- a command has one word to eight
pub form_some : (c : Command) → 0 < length (form_of c)
form_some command.Sync = lit< tt
form_some _ = lit< tt

pub form_short : (c : Command) → length (form_of c) ≤ 8
form_short command.Sync = lit≤ tt
form_short _ = lit≤ tt

-- the words of a command whose operands are those of the grammar
pub command_printed : (c : Command) → All IsWord (form_of c)
    → All (IsPrintedWord 256) (command_words c)
command_printed c h = words_printed (form_of c) h (form_plain c)

-- ---- the words that begin other lines
fixed_printed : (text : List ℕ) → 0 < length text → length text ≤ 32 → all_above text ≡ true
    → IsPrintedWord 32 text
fixed_printed text some fits above = record { some = some; fits = fits; bytes = above_all text above }

pub header_printed : All (IsPrintedWord 32) header_words
unfolding all_above
header_printed =
    All-cons (IsPrintedWord 32) (codes "lattice") (codes "1" ∷ []) (fixed_printed (codes "lattice") (lit< tt) (lit≤ tt) refl)
    (All-cons (IsPrintedWord 32) (codes "1") [] (fixed_printed (codes "1") (lit< tt) (lit≤ tt) refl) (All-nil (IsPrintedWord 32)))

pub session_printed : (name : List ℕ) → IsDeclaredName name
    → All (IsPrintedWord 32) (codes "session" ∷ name ∷ [])
unfolding all_above
session_printed name declared =
    All-cons (IsPrintedWord 32) (codes "session") (name ∷ []) (fixed_printed (codes "session") (lit< tt) (lit≤ tt) refl)
    (All-cons (IsPrintedWord 32) name [] (declared_printed name declared) (All-nil (IsPrintedWord 32)))

pub schedule_printed : (names : List (List ℕ)) → All IsDeclaredName names
    → All (IsPrintedWord 32) (codes "schedule" ∷ names)
unfolding all_above
schedule_printed names declared =
    All-cons (IsPrintedWord 32) (codes "schedule") names (fixed_printed (codes "schedule") (lit< tt) (lit≤ tt) refl)
    (All-weaker IsDeclaredName (IsPrintedWord 32) declared_printed names declared)
