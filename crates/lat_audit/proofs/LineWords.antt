-- Lines and their words.
use Rattle.std.proofs.Common.{◌≡◌, ℕ, ◌<◌, ◌^◌, List, [], ◌∷◌, ◌++◌, sym, refl, ap, ◌∙◌, subst, inl, inr, arith, eqb, decimal}
use Rattle.std.specs.Prelude.{◌≢◌, All, codes}
use Rattle.std.specs.List.{onto_first, join_with_byte}
use Rattle.std.specs.Str.Parse.{AllDigits}
use Rattle.std.specs.Char.{IsAsciiAlphabetic}
use Rattle.std.proofs.lemmas.Fmt.{decimal_is_IsNumeral, decimal_injective, decimal_digit}
use Rattle.std.proofs.lemmas.Str.Parse.{digit_from_value}
use Rattle.std.proofs.lemmas.List.{append_cancel_left, append_cancel_right}
use Rattle.std.proofs.lemmas.List.Elements.{All-head, All-tail, All-cons, All-nil}
use Rattle.std.proofs.lemmas.Bool.{ne_eqb, cond-false}
use Rattle.alg_model.specs.Lattices.{made_name}
use Rattle.lat_core.specs.Names.{IsNameByte, IsDeclaredName}
use Rattle.lat_language.specs.CanonicalText.{line_of}
use Rattle.lat_audit.specs.Readings.{ended_lines}
use Rattle.lat_audit.specs.PrivateReadings.{Lacks, IsCut, ended, IsFirstLine, AreFieldWords, AreMapWords}

-- ---- cuts
-- a text with the byte has it
pub not_cut : (byte : ℕ) (a r : List ℕ) → Lacks byte (a ++ byte ∷ r) → ⊥
not_cut byte [] r h = All-head (λ b. b ≢ byte) byte r h refl
not_cut byte (x ∷ a) r h = not_cut byte a r (All-tail (λ b. b ≢ byte) x (a ++ byte ∷ r) h)

-- a text is cut at its first such byte in one way
pub one_cut : (byte : ℕ) (a b r s : List ℕ) → Lacks byte a → Lacks byte b
    → a ++ byte ∷ r ≡ b ++ byte ∷ s → (a ≡ b) × (r ≡ s)
one_cut byte [] [] r s la lb e = let t : r ≡ s = cc in (refl, t)
one_cut byte [] (y ∷ b) r s la lb e =
    let t : y ≡ byte = cc in absurd (All-head (λ b. b ≢ byte) y b lb t)
one_cut byte (x ∷ a) [] r s la lb e =
    let t : x ≡ byte = cc in absurd (All-head (λ b. b ≢ byte) x a la t)
one_cut byte (x ∷ a) (y ∷ b) r s la lb e =
    let same : x ≡ y = cc in
    let rest : a ++ byte ∷ r ≡ b ++ byte ∷ s = cc in
    let (p, q) = one_cut byte a b r s (All-tail (λ b. b ≢ byte) x a la) (All-tail (λ b. b ≢ byte) y b lb) rest in
    let whole : x ∷ a ≡ y ∷ b = cc in
    (whole, q)

-- ---- lines
-- a text with a line feed has the line before it for its first line
begins : (line rest : List ℕ) → Lacks 10 line
    → ended_lines (line ++ 10 ∷ rest) ≡ ended line ∷ ended_lines rest
begins [] rest none = refl
begins (b ∷ line) rest none =
    cond-false (eqb b 10) ((b ∷ []) ∷ ended_lines (line ++ 10 ∷ rest)) (onto_first b (ended_lines (line ++ 10 ∷ rest)))
    (ne_eqb b 10 (All-head (λ c. c ≢ 10) b line none))
    ∙ ap (onto_first b) (begins line rest (All-tail (λ c. c ≢ 10) b line none))

pub first_line : (text line rest : List ℕ) → IsCut 10 text line rest → IsFirstLine text line rest
first_line text line rest cut = ap ended_lines cut.0 ∙ begins line rest cut.1

-- a text with no line feed has no line, or is a line with none
pub unended : (b : ℕ) (text : List ℕ) → Lacks 10 (b ∷ text)
    → ended_lines (b ∷ text) ≡ (b ∷ text) ∷ []
unended b [] none = cond-false (eqb b 10) ((b ∷ []) ∷ []) (onto_first b []) (ne_eqb b 10 (All-head (λ c. c ≢ 10) b [] none))
unended b (c ∷ text) none =
    cond-false (eqb b 10) ((b ∷ []) ∷ ended_lines (c ∷ text)) (onto_first b (ended_lines (c ∷ text)))
    (ne_eqb b 10 (All-head (λ c. c ≢ 10) b (c ∷ text) none))
    ∙ ap (onto_first b) (unended c text (All-tail (λ c. c ≢ 10) b (c ∷ text) none))

-- the words of a line
pub line_words : (line : List ℕ) (words : List (List ℕ)) → ended line ≡ line_of words
    → line ≡ join_with_byte 32 words
unfolding line_of
line_words line words e = append_cancel_right line (join_with_byte 32 words) (10 ∷ []) e

pub line_from_words : (line : List ℕ) (words : List (List ℕ)) → line ≡ join_with_byte 32 words
    → ended line ≡ line_of words
unfolding line_of
line_from_words line words e = ap ended e

-- ---- bytes of words
digits_lack : (ds : List ℕ) → AllDigits 10 ds → Lacks 32 ds
digits_lack [] h = All-nil (λ b. b ≢ 32)
digits_lack (d ∷ ds) h =
    let range = digit_from_value d h.0 in
    All-cons (λ b. b ≢ 32) d ds (λ e. omega (arith, range, e)) (digits_lack ds h.1)

pub decimal_lacks : (n : ℕ) → n < 2 ^ 64 → Lacks 32 (decimal n)
decimal_lacks n l = digits_lack (decimal n) (decimal_is_IsNumeral n l).0.1

name_bytes_lack : (bs : List ℕ) → All IsNameByte bs → Lacks 32 bs
name_bytes_lack [] h = All-nil (λ b. b ≢ 32)
name_bytes_lack (b ∷ bs) h =
    All-cons (λ b. b ≢ 32) b bs (λ e. other b (All-head IsNameByte b bs h) e) (name_bytes_lack bs (All-tail IsNameByte b bs h))
  where
    other : (b : ℕ) → IsNameByte b → b ≡ 32 → ⊥
    other b (inl (inl (inl r))) e = omega (arith, r, e)
    other b (inl (inl (inr r))) e = omega (arith, r, e)
    other b (inl (inr r)) e = omega (arith, r, e)
    other b (inr r) e = omega (arith, r, e)

letter_lacks : (b : ℕ) → IsAsciiAlphabetic b → b ≡ 32 → ⊥
letter_lacks b (inl r) e = omega (arith, r, e)
letter_lacks b (inr r) e = omega (arith, r, e)

pub declared_lacks : (name : List ℕ) → IsDeclaredName name → Lacks 32 name
declared_lacks [] h = absurd h
declared_lacks (b ∷ bs) h = All-cons (λ b. b ≢ 32) b bs (letter_lacks b h.0) (name_bytes_lack bs h.1)

pub made_lacks : (n : ℕ) → n < 2 ^ 64 → Lacks 32 (made_name n)
made_lacks n l = All-cons (λ b. b ≢ 32) 95 (decimal n) (λ e. omega (arith, e)) (decimal_lacks n l)

-- ---- numbers
-- a line of a word and a number has one number
pub counted_once : (word : List ℕ) (m n : ℕ) → m < 2 ^ 64 → n < 2 ^ 64
    → line_of (word ∷ decimal m ∷ []) ≡ line_of (word ∷ decimal n ∷ []) → m ≡ n
unfolding line_of
counted_once word m n lm ln e =
    let joined : word ++ 32 ∷ decimal m ≡ word ++ 32 ∷ decimal n =
    append_cancel_right (word ++ 32 ∷ decimal m) (word ++ 32 ∷ decimal n) (10 ∷ []) e in
    let rest : 32 ∷ decimal m ≡ 32 ∷ decimal n = append_cancel_left word (32 ∷ decimal m) (32 ∷ decimal n) joined in
    let digits : decimal m ≡ decimal n = cc in
    decimal_injective m n lm ln digits

-- what stands behind a word
pub behind_word : (word a b : List ℕ) → word ++ 32 ∷ a ≡ word ++ 32 ∷ b → a ≡ b
behind_word word a b e =
    let rest : 32 ∷ a ≡ 32 ∷ b = append_cancel_left word (32 ∷ a) (32 ∷ b) e in cc

-- ---- lines of several words
pub header_text : join_with_byte 32 (codes "lattice-dump" ∷ decimal 1 ∷ []) ≡ codes "lattice-dump 1"
header_text = ap (λ d. codes "lattice-dump" ++ 32 ∷ d) (decimal_digit 1 (omega arith))

-- a cut in a text that is known to be cut
cut_again : (a b r s : List ℕ) → Lacks 32 a → Lacks 32 b → a ++ 32 ∷ r ≡ b ++ 32 ∷ s
    → (a ≡ b) × (r ≡ s)
cut_again a b r s = one_cut 32 a b r s

module _ (line a b c d : List ℕ) (w : AreFieldWords line a b c d) where
  field_rest : (rest : List ℕ) → line ≡ codes "field" ++ 32 ∷ rest
      → rest ≡ a ++ 32 ∷ (b ++ 32 ∷ (c ++ 32 ∷ d))
  field_rest rest e = behind_word (codes "field") rest (a ++ 32 ∷ (b ++ 32 ∷ (c ++ 32 ∷ d))) (sym e ∙ w.joined)

  field_behind_number : (rest x r : List ℕ) → line ≡ codes "field" ++ 32 ∷ rest → IsCut 32 rest x r
      → (x ≡ a) × (r ≡ b ++ 32 ∷ (c ++ 32 ∷ d))
  field_behind_number rest x r e cut =
      cut_again x a r (b ++ 32 ∷ (c ++ 32 ∷ d)) cut.1 w.first (sym cut.0 ∙ field_rest rest e)

  field_behind_name : (rest x r y s : List ℕ) → line ≡ codes "field" ++ 32 ∷ rest
      → IsCut 32 rest x r → IsCut 32 r y s → (y ≡ b) × (s ≡ c ++ 32 ∷ d)
  field_behind_name rest x r y s e cut next =
      cut_again y b s (c ++ 32 ∷ d) next.1 w.second (sym next.0 ∙ (field_behind_number rest x r e cut).1)

  -- a line of these words begins with the first one, and is cut three times
  pub field_not_begun : ((rest : List ℕ) → line ≡ codes "field" ++ 32 ∷ rest → ⊥) → ⊥
  field_not_begun none = none (a ++ 32 ∷ (b ++ 32 ∷ (c ++ 32 ∷ d))) w.joined

  pub field_uncut_first : (rest : List ℕ) → line ≡ codes "field" ++ 32 ∷ rest → Lacks 32 rest → ⊥
  field_uncut_first rest e none = not_cut 32 a (b ++ 32 ∷ (c ++ 32 ∷ d)) (subst (Lacks 32) (field_rest rest e) none)

  pub field_uncut_second : (rest x r : List ℕ) → line ≡ codes "field" ++ 32 ∷ rest
      → IsCut 32 rest x r → Lacks 32 r → ⊥
  field_uncut_second rest x r e cut none =
      not_cut 32 b (c ++ 32 ∷ d) (subst (Lacks 32) (field_behind_number rest x r e cut).1 none)

  pub field_uncut_third : (rest x r y s : List ℕ) → line ≡ codes "field" ++ 32 ∷ rest
      → IsCut 32 rest x r → IsCut 32 r y s → Lacks 32 s → ⊥
  field_uncut_third rest x r y s e cut next none =
      not_cut 32 c d (subst (Lacks 32) (field_behind_name rest x r y s e cut next).1 none)

-- the words that were cut
pub field_cut : (line rest x r y s z t : List ℕ) → line ≡ codes "field" ++ 32 ∷ rest
    → IsCut 32 rest x r → IsCut 32 r y s → IsCut 32 s z t → AreFieldWords line x y z t
field_cut line rest x r y s z t e first second third = record {
  joined = e ∙ ap (λ u. codes "field" ++ 32 ∷ u) (first.0 ∙ ap (λ u. x ++ 32 ∷ u) (second.0 ∙ ap (λ u. y ++ 32 ∷ u) third.0));
  first = first.1;
  second = second.1;
  third = third.1;
}

-- a line has its words in one way
pub one_field : (line a b c d x y z t : List ℕ) → AreFieldWords line a b c d
    → AreFieldWords line x y z t → (a ≡ x) × (b ≡ y) × (c ≡ z) × (d ≡ t)
one_field line a b c d x y z t v w =
    let rest = behind_word (codes "field") (a ++ 32 ∷ (b ++ 32 ∷ (c ++ 32 ∷ d))) (x ++ 32 ∷ (y ++ 32 ∷ (z ++ 32 ∷ t))) (sym v.joined ∙ w.joined) in
    let first = cut_again a x (b ++ 32 ∷ (c ++ 32 ∷ d)) (y ++ 32 ∷ (z ++ 32 ∷ t)) v.first w.first rest in
    let second = cut_again b y (c ++ 32 ∷ d) (z ++ 32 ∷ t) v.second w.second first.1 in
    let third = cut_again c z d t v.third w.third second.1 in
    (first.0, second.0, third.0, third.1)

module _ (line a b c : List ℕ) (w : AreMapWords line a b c) where
  map_rest : (rest : List ℕ) → line ≡ codes "map" ++ 32 ∷ rest
      → rest ≡ a ++ 32 ∷ (b ++ 32 ∷ c)
  map_rest rest e = behind_word (codes "map") rest (a ++ 32 ∷ (b ++ 32 ∷ c)) (sym e ∙ w.joined)

  pub map_not_begun : ((rest : List ℕ) → line ≡ codes "map" ++ 32 ∷ rest → ⊥) → ⊥
  map_not_begun none = none (a ++ 32 ∷ (b ++ 32 ∷ c)) w.joined

  pub map_uncut_first : (rest : List ℕ) → line ≡ codes "map" ++ 32 ∷ rest → Lacks 32 rest → ⊥
  map_uncut_first rest e none = not_cut 32 a (b ++ 32 ∷ c) (subst (Lacks 32) (map_rest rest e) none)

  pub map_uncut_second : (rest x r : List ℕ) → line ≡ codes "map" ++ 32 ∷ rest
      → IsCut 32 rest x r → Lacks 32 r → ⊥
  map_uncut_second rest x r e cut none =
      not_cut 32 b c (subst (Lacks 32) (cut_again x a r (b ++ 32 ∷ c) cut.1 w.first (sym cut.0 ∙ map_rest rest e)).1 none)

pub map_cut : (line rest x r y s : List ℕ) → line ≡ codes "map" ++ 32 ∷ rest
    → IsCut 32 rest x r → IsCut 32 r y s → AreMapWords line x y s
map_cut line rest x r y s e first second = record {
  joined = e ∙ ap (λ u. codes "map" ++ 32 ∷ u) (first.0 ∙ ap (λ u. x ++ 32 ∷ u) second.0);
  first = first.1;
  second = second.1;
}

pub one_map : (line a b c x y z : List ℕ) → AreMapWords line a b c → AreMapWords line x y z
    → (a ≡ x) × (b ≡ y) × (c ≡ z)
one_map line a b c x y z v w =
    let rest = behind_word (codes "map") (a ++ 32 ∷ (b ++ 32 ∷ c)) (x ++ 32 ∷ (y ++ 32 ∷ z)) (sym v.joined ∙ w.joined) in
    let first = cut_again a x (b ++ 32 ∷ c) (y ++ 32 ∷ z) v.first w.first rest in
    let second = cut_again b y c z v.second w.second first.1 in
    (first.0, second.0, second.1)
