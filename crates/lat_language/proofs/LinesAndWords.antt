-- Facts on the lines and words of a text.
use Rattle.std.proofs.Common.{◌≡◌, ℕ, suc, ◌+◌, ◌-◌, ◌<◌, ◌≤◌, Bool, true, false, cond, Some, None, length-drop, eqb, ltb, List, [], ◌∷◌, length, get_or, take, drop, refl, sym, ap, ◌∙◌, subst, inl, inr, arith}
use Rattle.std.specs.Prelude.{◌==◌, ◌≢◌, nat_lt, filter, not, position}
use Rattle.std.specs.List.{slice_split, onto_first, position_or_len}
use Rattle.std.proofs.lemmas.List.Splits.{slice_split_first}
use Rattle.std.proofs.lemmas.List.{drop_more, take_rest, nil_from_length}
use Rattle.std.proofs.lemmas.Bool.{eqb-true, eqb-false, ne_eqb, lt-ltb, le-ltb, cases_lt, cond_below, cond-true, cond-false}
use Rattle.lat_language.specs.Grammar.{lines_of_parts, lines_of, words_of}
use Rattle.lat_language.specs.PrivateCoefficients.{split_cons}
use Rattle.lat_language.specs.PrivateCuts.{IsFirstPart, IsCutAt}

-- the first line
pub lines_cons : (line : List ℕ) (parts : List (List ℕ)) → 0 < length parts
    → lines_of_parts (line ∷ parts) ≡ line ∷ lines_of_parts parts
lines_cons line [] h = absurd (omega arith)
lines_cons line (next ∷ more) h = refl

line_last : (line : List ℕ) → 0 < length line → lines_of_parts (line ∷ []) ≡ line ∷ []
line_last line h = cond-false (eqb (length line) 0) [] (line ∷ []) (ne_eqb (length line) 0 (λ e. omega arith))

-- no bytes have no line
pub lines_none : lines_of [] ≡ []
unfolding lines_of
lines_none = refl

-- a cut at the first line feed gives the first line
pub first_line_taken : (text line rest : List ℕ) → 0 < length text → IsCutAt 10 text line rest
    → IsFirstPart lines_of text line rest
unfolding lines_of
first_line_taken text line rest some (inl cut) =
    let next = split_cons (λ b. b == 10) rest in
    (ap lines_of_parts cut.0 ∙ lines_cons line (slice_split (λ b. b == 10) rest) (rw next.2 (omega arith)), cut.1)
first_line_taken text line rest some (inr cut) =
    (ap lines_of_parts cut.0 ∙ line_last line (rw cut.1 some) ∙ ap (λ r. line ∷ lines_of r) (sym cut.2), rw cut.2 some)

-- the first word
abbrev pub is_word : List ℕ → Bool
is_word word = nat_lt 0 (length word)

-- a part that isn't empty is a word
pub word_taken : (word : List ℕ) (parts : List (List ℕ)) → 0 < length word
    → filter is_word (word ∷ parts) ≡ word ∷ filter is_word parts
word_taken word parts h = cond-true (ltb 0 (length word)) (word ∷ filter is_word parts) (filter is_word parts) (lt-ltb 0 (length word) h)

-- no bytes have no word
pub words_none : words_of [] ≡ []
unfolding words_of
words_none = refl

-- a space before a text adds no word
pub words_space : (rest : List ℕ) → words_of (32 ∷ rest) ≡ words_of rest
unfolding words_of
words_space rest = refl

-- a text that doesn't begin with a space begins with its first word
first_part_not_empty : (text first : List ℕ) (more : List (List ℕ)) → 0 < length text
    → get_or text 0 0 ≢ 32 → slice_split (λ b. b == 32) text ≡ first ∷ more → 0 < length first
first_part_not_empty [] first more some other cut = absurd (omega arith)
first_part_not_empty (x ∷ xs) first more some other cut =
    let rest = split_cons (λ b. b == 32) xs in
    let is : cond false ([] ∷ slice_split (λ b. b == 32) xs) (onto_first x (slice_split (λ b. b == 32) xs)) ≡ first ∷ more = subst (λ t. cond t ([] ∷ slice_split (λ b. b == 32) xs) (onto_first x (slice_split (λ b. b == 32) xs)) ≡ first ∷ more) (ne_eqb x 32 other) cut in
    let same : (x ∷ rest.0) ∷ rest.1 ≡ first ∷ more = sym (ap (onto_first x) rest.2) ∙ is in
    let e : x ∷ rest.0 ≡ first = cc in
    subst (λ f. 0 < length f) e (omega arith)

-- a cut at the first space of a text that begins with none gives the first word
pub first_word_taken : (text word rest : List ℕ) → 0 < length text → get_or text 0 0 ≢ 32
    → IsCutAt 32 text word rest → IsFirstPart words_of text word rest
unfolding words_of
first_word_taken text word rest some other (inl cut) =
    let whole = first_part_not_empty text word _ some other cut.0 in
    (ap (filter is_word) cut.0 ∙ word_taken word (slice_split (λ b. b == 32) rest) whole, cut.1)
first_word_taken text word rest some other (inr cut) =
    (ap (filter is_word) cut.0 ∙ word_taken word [] (rw cut.1 some) ∙ ap (λ r. word ∷ words_of r) (sym cut.2), rw cut.2 some)

-- a cut at the first place where the test passes
not_cut : (p : ℕ → Bool) (text : List ℕ) → length text ≤ position_or_len p text
    → slice_split p text ≡ text ∷ []
not_cut p [] h = refl
not_cut p (x ∷ xs) h =
    elim (p x) as (λ t. suc (length xs) ≤ cond (not t) (1 + position_or_len p xs) 0 → cond t ([] ∷ slice_split p xs) (onto_first x (slice_split p xs)) ≡ (x ∷ xs) ∷ []) [
      | true ↦ λ l. absurd (omega arith)
      | false ↦ λ l. ap (onto_first x) (not_cut p xs (omega arith))
    ] h

-- a text with no such byte is one part
pub cut_none : (p : ℕ → Bool) (text : List ℕ) → position p text ≡ None
    → slice_split p text ≡ text ∷ []
cut_none p text none = elim (cases_lt (position_or_len p text) (length text)) [
  | inl l ↦ absurd (let e : position p text ≡ Some (position_or_len p text) = sym (cond_below _ _ _ _ l) in cc)
  | inr l ↦ not_cut p text l
]

-- a text is cut at its first such byte
pub cut_some : (p : ℕ → Bool) (text : List ℕ) (i : ℕ) → position p text ≡ Some i
    → IsFirstPart (slice_split p) text (take i text)
    (take (length text - (i + 1)) (drop (i + 1) text))
cut_some p text i some = elim (cases_lt (position_or_len p text) (length text)) [
  | inl l ↦
      let e : position p text ≡ Some (position_or_len p text) = sym (cond_below _ _ _ _ l) in
      let same : i ≡ position_or_len p text = cc in
      rw (take_rest text (i + 1)) (
        subst (λ k. slice_split p text ≡ take k text ∷ slice_split p (drop (k + 1) text)) (sym same) (slice_split_first p text 0 l),
        omega (arith, length-drop (i + 1) text),
      )
  | inr l ↦ absurd (let e : position p text ≡ None = cond-false _ _ _ (le-ltb _ _ l) in cc)
]

-- one more space before what is left
pub words_space_at : (text : List ℕ) (i : ℕ) → i < length text → get_or text i 0 ≡ 32
    → words_of (drop (i + 1) text) ≡ words_of (drop i text)
words_space_at text i l space =
    sym (ap words_of (drop_more text i 0 l ∙ ap (λ b. b ∷ drop (i + 1) text) space) ∙ words_space (drop (i + 1) text))

-- what a test for no byte says
pub empty_from_test : (xs : List ℕ) (b : Bool) → b ≡ (length xs == 0) → b ≡ true → xs ≡ []
empty_from_test xs b e t = nil_from_length xs (eqb-true (length xs) 0 (sym e ∙ t))

-- what a test for some byte says
pub some_from_test : (xs : List ℕ) (b : Bool) → b ≡ (length xs == 0) → b ≡ false → 0 < length xs
some_from_test xs b e f = let none = eqb-false (length xs) 0 (sym e ∙ f) in omega arith
