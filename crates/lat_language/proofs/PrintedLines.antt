-- Printed lines: their words, their bytes and how long they are.
use Rattle.std.proofs.Common.{◌≡◌, ℕ, ◌+◌, ◌*◌, ◌<◌, ◌≤◌, false, eqb, eq-eqb, List, [], ◌∷◌, length, map, refl, ap, ◌∙◌, arith, append_assoc, length-append}
use Rattle.std.specs.Prelude.{All, filter, flat_map}
use Rattle.std.specs.List.{slice_split, join_with_byte}
use Rattle.std.proofs.lemmas.Bool.{ne_eqb}
use Rattle.std.proofs.lemmas.List.Splits.{slice_split_none, slice_split_at}
use Rattle.std.proofs.lemmas.List.Elements.{All-nil, All-cons, All-head, All-tail, All-append, All-weaker}
use Rattle.lat_language.specs.Grammar.{lines_of_parts, lines_of, words_of}
use Rattle.lat_language.specs.CanonicalText.{line_of}
use Rattle.lat_language.specs.PrivateCoefficients.{split_cons}
use Rattle.lat_language.proofs.LinesAndWords.{lines_cons, is_word, word_taken}

-- a word as it is printed: some bytes above the space, and not too many
pub record IsPrintedWord (most : ℕ) (word : List ℕ) : Type 0 where
  pub some : 0 < length word
  pub fits : length word ≤ most
  pub bytes : All (λ b. 32 < b) word

pub printed_weaker : (less most : ℕ) → less ≤ most → (word : List ℕ) → IsPrintedWord less word
    → IsPrintedWord most word
printed_weaker less most le word h = record {
  some = h.some;
  fits = omega (arith, h.fits);
  bytes = h.bytes;
}

-- what holds of the bytes of words holds of all bytes of the joined words
pub joined_bytes : (P : ℕ → Type 0) (byte : ℕ) → P byte → (words : List (List ℕ))
    → All (All P) words → All P (join_with_byte byte words)
joined_bytes P byte h [] all = All-nil P
joined_bytes P byte h (w ∷ []) all = All-head (All P) w [] all
joined_bytes P byte h (w ∷ v ∷ words) all =
    All-append P w (byte ∷ join_with_byte byte (v ∷ words)) (All-head (All P) w (v ∷ words) all)
    (All-cons P byte (join_with_byte byte (v ∷ words)) h (joined_bytes P byte h (v ∷ words) (All-tail (All P) w (v ∷ words) all)))

-- joined words that don't have the byte are cut into themselves
split_joined : (byte : ℕ) (words : List (List ℕ)) → 0 < length words
    → All (All (λ b. eqb b byte ≡ false)) words
    → slice_split (λ b. eqb b byte) (join_with_byte byte words) ≡ words
split_joined byte [] some all = absurd (omega arith)
split_joined byte (w ∷ []) some all =
    slice_split_none (λ b. eqb b byte) w (All-head (All (λ b. eqb b byte ≡ false)) w [] all)
split_joined byte (w ∷ v ∷ words) some all =
    slice_split_at (λ b. eqb b byte) w byte (join_with_byte byte (v ∷ words)) (All-head (All (λ b. eqb b byte ≡ false)) w (v ∷ words) all) (eq-eqb byte byte refl)
    ∙ ap (λ r. w ∷ r) (split_joined byte (v ∷ words) (omega arith) (All-tail (All (λ b. eqb b byte ≡ false)) w (v ∷ words) all))

no_space : (word : List ℕ) → All (λ b. 32 < b) word → All (λ b. eqb b 32 ≡ false) word
no_space word = All-weaker (λ b. 32 < b) (λ b. eqb b 32 ≡ false) (λ b above. ne_eqb b 32 (λ e. omega arith)) word

-- words of which none is empty are kept
all_words : (words : List (List ℕ)) → All (λ word. 0 < length word) words
    → filter is_word words ≡ words
all_words [] all = refl
all_words (w ∷ words) all =
    word_taken w words (All-head (λ word. 0 < length word) w words all)
    ∙ ap (λ r. w ∷ r) (all_words words (All-tail (λ word. 0 < length word) w words all))

-- no joined words are longer than all of them together
pub joined_length : (byte most : ℕ) (words : List (List ℕ))
    → All (λ word. length word ≤ most) words
    → length (join_with_byte byte words) ≤ length words * (most + 1)
joined_length byte most [] all = omega arith
joined_length byte most (w ∷ []) all =
    let first = All-head (λ word. length word ≤ most) w [] all in omega arith
joined_length byte most (w ∷ v ∷ words) all =
    let first = All-head (λ word. length word ≤ most) w (v ∷ words) all in
    let rest = joined_length byte most (v ∷ words) (All-tail (λ word. length word ≤ most) w (v ∷ words) all) in
    let sum = length-append w (byte ∷ join_with_byte byte (v ∷ words)) in
    grind (arith, first, rest, sum)

module _ (most : ℕ) (words : List (List ℕ)) (printed : All (IsPrintedWord most) words) where
  -- the words of a printed line
  pub printed_words : 0 < length words → words_of (join_with_byte 32 words) ≡ words
  unfolding words_of
  printed_words some =
      ap (filter is_word) (split_joined 32 words some
      (All-weaker (IsPrintedWord most) (All (λ b. eqb b 32 ≡ false)) (λ w h. no_space w h.bytes) words printed))
      ∙ all_words words (All-weaker (IsPrintedWord most) (λ word. 0 < length word) (λ w h. h.some) words printed)

  -- how long it is
  pub printed_length : length (join_with_byte 32 words) ≤ length words * (most + 1)
  printed_length = joined_length 32 most words (All-weaker (IsPrintedWord most) (λ word. length word ≤ most) (λ w h. h.fits) words printed)

  -- it has no line feed
  pub printed_line : All (λ b. eqb b 10 ≡ false) (join_with_byte 32 words)
  printed_line = joined_bytes (λ b. eqb b 10 ≡ false) 32 refl words
      (All-weaker (IsPrintedWord most) (All (λ b. eqb b 10 ≡ false)) (λ w h. All-weaker (λ b. 32 < b) (λ b. eqb b 10 ≡ false) (λ b above. ne_eqb b 10 (λ e. omega arith)) w h.bytes) words printed)

-- the lines of printed lines
pub printed_lines : (lines : List (List (List ℕ)))
    → All (λ words. All (λ b. eqb b 10 ≡ false) (join_with_byte 32 words)) lines
    → lines_of (flat_map line_of lines) ≡ map (join_with_byte 32) lines
unfolding lines_of line_of
printed_lines [] all = refl
printed_lines (words ∷ lines) all =
    let rest : List ℕ = flat_map line_of lines in
    let next = split_cons (λ b. eqb b 10) rest in
    let cut = slice_split_at (λ b. eqb b 10) (join_with_byte 32 words) 10 rest (All-head (λ words. All (λ b. eqb b 10 ≡ false) (join_with_byte 32 words)) words lines all) refl in
    ap (λ t. lines_of_parts (slice_split (λ b. eqb b 10) t)) (append_assoc (join_with_byte 32 words) (10 ∷ []) rest)
    ∙ ap lines_of_parts cut
    ∙ lines_cons (join_with_byte 32 words) (slice_split (λ b. eqb b 10) rest) (rw next.2 (omega arith))
    ∙ ap (λ r. join_with_byte 32 words ∷ r) (printed_lines lines (All-tail (λ words. All (λ b. eqb b 10 ≡ false) (join_with_byte 32 words)) words lines all))
