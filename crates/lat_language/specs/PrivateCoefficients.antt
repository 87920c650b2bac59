-- Facts on coefficient lists. No public clause cites this module.
use Rattle.std.proofs.Common.{◌≡◌, ℕ, ◌<◌, Bool, true, false, cond, eqb, List, [], ◌∷◌, ◌++◌, length, map, sym, refl, ap, ◌∙◌, subst, inl, inr, arith, append_assoc}
use Rattle.std.specs.Prelude.{◌≢◌, ◌⊎◌, All, decimal}
use Rattle.std.specs.List.{slice_split, onto_first, join_with_byte}
use Rattle.std.specs.Str.Parse.{AllDigits}
use Rattle.std.proofs.lemmas.Fmt.{decimal_is_IsNumeral, decimal_injective}
use Rattle.std.proofs.lemmas.Str.Parse.{digit_from_value}
use Rattle.std.proofs.lemmas.List.{map-append, length_push, append-nil}
use Rattle.std.proofs.lemmas.List.Splits.{slice_split_none, slice_split_at, join_with_byte-slice_split}
use Rattle.std.proofs.lemmas.List.Elements.{All-head, All-tail, All-cons, All-push, All-nil}
use Rattle.std.proofs.lemmas.Bool.{ne_eqb}
use Rattle.lat_core.specs.declared.digits.TheConstants.{MAX_DIGITS}
use Rattle.lat_core.specs.Digits.{AreDigits}
use Rattle.lat_language.specs.Commands.{digits_text}

-- a text has a first part
pub split_cons : (p : ℕ → Bool) (text : List ℕ)
    → (first : List ℕ) × (more : List (List ℕ)) × (slice_split p text ≡ first ∷ more)
split_cons p [] = ([], [], refl)
split_cons p (x ∷ xs) =
    let rest = split_cons p xs in
    elim (p x) as (λ b. (first : List ℕ) × (more : List (List ℕ))
    × (cond b ([] ∷ slice_split p xs) (onto_first x (slice_split p xs)) ≡ first ∷ more)) [
      | true ↦ ([], slice_split p xs, refl)
      | false ↦ (x ∷ rest.0, rest.1, ap (onto_first x) rest.2)
    ]

-- what stands between the commas of a word
abbrev pub between_commas : List ℕ → List (List ℕ)
between_commas = slice_split (λ b. eqb b 44)

no_comma : (ds : List ℕ) → AllDigits 10 ds → All (λ b. eqb b 44 ≡ false) ds
no_comma [] h = All-nil (λ b. eqb b 44 ≡ false)
no_comma (d ∷ ds) h =
    let range = digit_from_value d h.0 in
    All-cons (λ b. eqb b 44 ≡ false) d ds (ne_eqb d 44 (λ e. omega (arith, range))) (no_comma ds h.1)

no_comma_in : (n : ℕ) → n < 256 → All (λ b. eqb b 44 ≡ false) (decimal n)
no_comma_in n l = no_comma (decimal n) (decimal_is_IsNumeral n (omega arith)).0.1

parts-join : (c : List ℕ) → 0 < length c → All (λ n. n < 256) c
    → between_commas (join_with_byte 44 (map decimal c)) ≡ map decimal c
parts-join [] some small = absurd (omega arith)
parts-join (n ∷ []) some small = slice_split_none (λ b. eqb b 44) (decimal n)
    (no_comma_in n (All-head (λ n. n < 256) n [] small))
parts-join (n ∷ m ∷ c) some small =
    slice_split_at (λ b. eqb b 44) (decimal n) 44 (join_with_byte 44 (map decimal (m ∷ c)))
    (no_comma_in n (All-head (λ n. n < 256) n (m ∷ c) small)) refl
    ∙ ap (λ r. decimal n ∷ r) (parts-join (m ∷ c) (omega arith) (All-tail (λ n. n < 256) n (m ∷ c) small))

-- the parts of the text of a list are its numbers in decimal
pub parts-digits_text : (c : List ℕ) → AreDigits c → between_commas (digits_text c) ≡ map decimal c
unfolding digits_text
parts-digits_text c h = parts-join c h.count.0 h.bytes

-- a word whose parts are the numbers of a list is the text of the list
pub digits_text_from_parts : (word c : List ℕ) → between_commas word ≡ map decimal c → word ≡ digits_text c
unfolding digits_text
digits_text_from_parts word c e = sym (join_with_byte-slice_split 44 word) ∙ ap (join_with_byte 44) e

map_injective : (c d : List ℕ) → All (λ n. n < 256) c → All (λ n. n < 256) d
    → map decimal c ≡ map decimal d → c ≡ d
map_injective [] [] hc hd e = refl
map_injective [] (n ∷ d) hc hd e = cc
map_injective (m ∷ c) [] hc hd e = cc
map_injective (m ∷ c) (n ∷ d) hc hd e =
    let first : decimal m ≡ decimal n = cc in
    let rest : map decimal c ≡ map decimal d = cc in
    let small_m = All-head (λ n. n < 256) m c hc in
    let small_n = All-head (λ n. n < 256) n d hd in
    let same : m ≡ n = decimal_injective m n (omega arith) (omega arith) first in
    let more : c ≡ d = map_injective c d (All-tail (λ n. n < 256) m c hc) (All-tail (λ n. n < 256) n d hd) rest in
    cc

-- a text is that of one list
pub digits_text_injective : (c d : List ℕ) → AreDigits c → AreDigits d
    → digits_text c ≡ digits_text d → c ≡ d
digits_text_injective c d hc hd e =
    map_injective c d hc.bytes hd.bytes (sym (parts-digits_text c hc) ∙ ap between_commas e ∙ parts-digits_text d hd)

-- the part after those of xs is a number of the list
next_number : (xs c part : List ℕ) (more : List (List ℕ))
    → map decimal xs ++ (part ∷ more) ≡ map decimal c → All (λ n. n < 256) c
    → (length xs < length c) × ((n : ℕ) × (n < 256) × (part ≡ decimal n))
next_number [] [] part more e small = cc
next_number [] (n ∷ c) part more e small =
    let is : part ≡ decimal n = cc in
    (omega arith, (n, All-head (λ n. n < 256) n c small, is))
next_number (x ∷ xs) [] part more e small = cc
next_number (x ∷ xs) (n ∷ c) part more e small =
    let rest : map decimal xs ++ (part ∷ more) ≡ map decimal c = cc in
    let found = next_number xs c part more rest (All-tail (λ n. n < 256) n c small) in
    (omega (arith, found.0), found.1)

-- no list is refused where a part is no number, or there is no room for it
pub not_digits : (word xs part : List ℕ) (more : List (List ℕ))
    → map decimal xs ++ (part ∷ more) ≡ between_commas word
    → (length xs ≡ MAX_DIGITS) ⊎ ((n : ℕ) → n < 256 → part ≢ decimal n) → (c : List ℕ) → AreDigits c
    → word ≢ digits_text c
not_digits word xs part more e bad c are is =
    let found = next_number xs c part more (e ∙ ap between_commas is ∙ parts-digits_text c are) are.bytes in
    elim bad [
      | inl full ↦ omega (arith, found.0, are.count.1)
      | inr none ↦ none found.1.0 found.1.1 found.1.2
    ]

-- one more number
pub push_parts : (xs part : List ℕ) (more all : List (List ℕ)) (n : ℕ)
    → map decimal xs ++ (part ∷ more) ≡ all → part ≡ decimal n
    → map decimal (xs ++ n ∷ []) ++ more ≡ all
push_parts xs part more all n e is =
    ap (λ r. r ++ more) (map-append decimal xs (n ∷ []))
    ∙ append_assoc (map decimal xs) (decimal n ∷ []) more
    ∙ ap (λ p. map decimal xs ++ (p ∷ more)) (sym is) ∙ e

-- a list with one more number, where there is room for it, is a coefficient list, and the word is
-- its text
pub pushed_last : (word xs part all : List ℕ) (n : ℕ) → All (λ n. n < 256) xs → n < 256
    → length xs < MAX_DIGITS → all ≡ xs ++ n ∷ []
    → map decimal xs ++ (part ∷ []) ≡ between_commas word → part ≡ decimal n
    → AreDigits all × (word ≡ digits_text all)
pushed_last word xs part all n small l room e so_far is =
    let more = push_parts xs part [] (between_commas word) n so_far is in
    let texts : between_commas word ≡ map decimal (xs ++ n ∷ []) =
    sym more ∙ append-nil (map decimal (xs ++ n ∷ [])) in (
      subst AreDigits (sym e) (record {
        count = (omega (arith, length_push xs n), omega (arith, length_push xs n));
        bytes = All-push (λ n. n < 256) xs n small l;
      }),
      digits_text_from_parts word (xs ++ n ∷ []) texts ∙ ap digits_text (sym e),
    )
