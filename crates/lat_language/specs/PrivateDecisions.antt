-- Each condition on a word of a line holds or fails. No public clause cites this module.
use Rattle.std.proofs.Common.{◌≡◌, ℕ, zero, suc, ◌<◌, ◌≤◌, Option, Some, None, List, [], ◌∷◌, length, map, sym, refl, ap, ◌∙◌, subst, inl, inr, arith}
use Rattle.std.specs.Prelude.{◌⊎◌, ◌==◌, decimal, All, IfSome}
use Rattle.std.specs.Char.{IsAsciiAlphabetic}
use Rattle.std.specs.Int.{IsInRange}
use Rattle.std.proofs.lemmas.List.{length-map}
use Rattle.std.proofs.lemmas.List.Elements.{All-head, All-tail, All-cons, All-nil}
use Rattle.std.proofs.lemmas.Bool.{cases_eq, cases_lt}
use Rattle.alg_model.specs.Lattices.{made_name}
use Rattle.lat_core.specs.declared.TheConstants.{MAX_FIELDS}
use Rattle.lat_core.specs.declared.names.TheConstants.{MAX_NAME}
use Rattle.lat_core.specs.declared.digits.TheConstants.{MAX_DIGITS}
use Rattle.lat_core.specs.Names.{IsNameByte, IsDeclaredName, IsFieldName}
use Rattle.lat_core.specs.Digits.{AreDigits}
use Rattle.lat_language.specs.Commands.{digits_text, Word, Name, FieldWord, Number, Coefficients, word_text, IsWord}
use Rattle.lat_language.specs.PrivateCoefficients.{split_cons, between_commas, parts-digits_text, digits_text_from_parts}

-- a statement that holds or fails
abbrev pub Decided : Type 0 → Type 0
Decided P = P ⊎ ¬ P

both : {P Q : Type 0} → Decided P → Decided Q → Decided (P × Q)
both (inl p) (inl q) = inl (p, q)
both (inl p) (inr q) = inr (λ h. q h.1)
both (inr p) q = inr (λ h. p h.0)

all_three : {P Q R : Type 0} → Decided P → Decided Q → Decided R → Decided (P × Q × R)
all_three (inl p) (inl q) (inl r) = inl (p, q, r)
all_three (inl p) (inl q) (inr r) = inr (λ h. r h.2)
all_three (inl p) (inr q) r = inr (λ h. q h.1)
all_three (inr p) q r = inr (λ h. p h.0)

either : {P Q : Type 0} → Decided P → Decided Q → Decided (P ⊎ Q)
either (inl p) q = inl (inl p)
either (inr p) (inl q) = inl (inr q)
either (inr p) (inr q) = inr (λ h. elim h [ inl x ↦ p x | inr y ↦ q y ])

decide_le : (m n : ℕ) → Decided (m ≤ n)
decide_le m n = elim (cases_lt n m) [
  | inl l ↦ inr (λ h. omega (arith, l, h))
  | inr l ↦ inl l
]

decide_lt : (m n : ℕ) → Decided (m < n)
decide_lt m n = elim (cases_lt m n) [
  | inl l ↦ inl l
  | inr l ↦ inr (λ h. omega (arith, l, h))
]

decide_range : (low high n : ℕ) → Decided (IsInRange low high n)
decide_range low high n = both (decide_le low n) (decide_le n high)

-- equality of lists, where that of their elements is decided
same_lists : {A : Type 0} → ((x y : A) → Decided (x ≡ y)) → (xs ys : List A) → Decided (xs ≡ ys)
same_lists same [] [] = inl refl
same_lists same [] (y ∷ ys) = inr (λ e. cc)
same_lists same (x ∷ xs) [] = inr (λ e. cc)
same_lists same (x ∷ xs) (y ∷ ys) = same_cons x y xs ys (same x y) (same_lists same xs ys) where
  same_cons : {A : Type 0} → (x y : A) (xs ys : List A) → Decided (x ≡ y) → Decided (xs ≡ ys)
      → Decided (x ∷ xs ≡ y ∷ ys)
  same_cons x y xs ys (inl e) (inl f) = inl (cc)
  same_cons x y xs ys (inl e) (inr f) = inr (λ h. f (cc))
  same_cons x y xs ys (inr e) f = inr (λ h. e (cc))

-- two texts are equal or not
pub same_text : (v w : List ℕ) → Decided (v ≡ w)
same_text = same_lists cases_eq

-- two lists of words are equal or not
pub same_words : (v w : List (List ℕ)) → Decided (v ≡ w)
same_words = same_lists same_text

decide_all : {A : Type 0} (P : A → Type 0) → ((x : A) → Decided (P x)) → (xs : List A)
    → Decided (All P xs)
decide_all P test [] = inl (All-nil P)
decide_all P test (x ∷ xs) = more (test x) (decide_all P test xs) where
  more : Decided (P x) → Decided (All P xs) → Decided (All P (x ∷ xs))
  more (inl h) (inl hs) = inl (All-cons P x xs h hs)
  more (inl h) (inr none) = inr (λ all. none (All-tail P x xs all))
  more (inr none) hs = inr (λ all. none (All-head P x xs all))

-- a name
decide_letter : (b : ℕ) → Decided (IsAsciiAlphabetic b)
decide_letter b = either (decide_range 65 90 b) (decide_range 97 122 b)

decide_name_byte : (b : ℕ) → Decided (IsNameByte b)
decide_name_byte b = either (either (either (decide_range 48 57 b) (decide_range 65 90 b))
    (decide_range 97 122 b)) (cases_eq b 95)

pub decide_declared : (text : List ℕ) → Decided (IsDeclaredName text)
decide_declared [] = inr (λ h. h)
decide_declared (b ∷ bs) = all_three (decide_letter b)
    (decide_all IsNameByte decide_name_byte bs) (decide_lt (length bs) MAX_NAME)

-- a number below a bound
decide_decimal : (word : List ℕ) (bound : ℕ) → Decided ((n : ℕ) × (n < bound) × (word ≡ decimal n))
decide_decimal word zero = inr (λ h. omega (arith, h.1))
decide_decimal word (suc n) = at_last (same_text word (decimal n)) (decide_decimal word n) where
  at_last : Decided (word ≡ decimal n) → Decided ((k : ℕ) × (k < n) × (word ≡ decimal k))
      → Decided ((k : ℕ) × (k < suc n) × (word ≡ decimal k))
  at_last (inl e) below = inl (n, omega arith, e)
  at_last (inr other) (inl found) = inl (found.0, omega (arith, found.1), found.2)
  at_last (inr other) (inr none) = inr (λ h. elim (cases_lt h.0 n) [
    | inl l ↦ none (h.0, l, h.2)
    | inr l ↦ let last : h.0 ≡ n = omega (arith, h.1, l) in other (h.2 ∙ ap decimal last)
  ])

-- numbers below 256 in a form
abbrev AreNumbers : List (List ℕ) → Type 0
AreNumbers parts = (c : List ℕ) × All (λ n. n < 256) c × (parts ≡ map decimal c)

decide_numbers : (parts : List (List ℕ)) → Decided (AreNumbers parts)
decide_numbers [] = inl ([], All-nil (λ n. n < 256), refl)
decide_numbers (part ∷ parts) = more (decide_decimal part 256) (decide_numbers parts) where
  more : Decided ((n : ℕ) × (n < 256) × (part ≡ decimal n)) → Decided (AreNumbers parts)
      → Decided (AreNumbers (part ∷ parts))
  more (inl n) (inl c) = let e = n.2 in let f = c.2 in inl (n.0 ∷ c.0, All-cons (λ n. n < 256) n.0 c.0 n.1 c.1, cc)
  more (inl n) (inr none) = inr (λ h. no_rest h.0 h.1 h.2) where
    no_rest : (c : List ℕ) → All (λ n. n < 256) c → part ∷ parts ≡ map decimal c → ⊥
    no_rest [] small e = cc
    no_rest (n ∷ c) small e =
        let is : parts ≡ map decimal c = cc in
        none (c, All-tail (λ n. n < 256) n c small, is)
  more (inr none) rest = inr (λ h. no_first h.0 h.1 h.2) where
    no_first : (c : List ℕ) → All (λ n. n < 256) c → part ∷ parts ≡ map decimal c → ⊥
    no_first [] small e = cc
    no_first (n ∷ c) small e =
        let is : part ≡ decimal n = cc in
        none (n, All-head (λ n. n < 256) n c small, is)

-- a coefficient list
decide_list : (word : List ℕ) → Decided ((c : List ℕ) × AreDigits c × (word ≡ digits_text c))
decide_list word = by_parts (decide_numbers (between_commas word)) where
  sized : (c : List ℕ) → All (λ n. n < 256) c → between_commas word ≡ map decimal c
      → Decided (length c ≤ MAX_DIGITS)
      → Decided ((c : List ℕ) × AreDigits c × (word ≡ digits_text c))
  sized c small e (inl room) =
      let first = split_cons (λ b. b == 44) word in
      inl (
        c,
        record {
          count = (omega (arith, ap length e, ap length first.2, length-map c decimal), room);
          bytes = small;
        },
        digits_text_from_parts word c e,
      )
  sized c small e (inr long) = inr (λ h.
      let same = ap length (sym e ∙ ap between_commas h.2 ∙ parts-digits_text h.0 h.1) in
      long (omega (arith, same, length-map c decimal, length-map h.0 decimal, h.1.count.1)))

  by_parts : Decided (AreNumbers (between_commas word))
      → Decided ((c : List ℕ) × AreDigits c × (word ≡ digits_text c))
  by_parts (inl c) = sized c.0 c.1 c.2 (decide_le (length c.0) MAX_DIGITS)
  by_parts (inr none) = inr (λ h. none (h.0, h.1.bytes, ap between_commas h.2 ∙ parts-digits_text h.0 h.1))

-- ---- operands
-- the text is that of the word, whose operand is one of the grammar
abbrev pub Spelled : List ℕ → Word → Type 0
Spelled text word = (text ≡ word_text word) × IsWord word

-- what was found, if anything was
abbrev pub found : {A : Type 0} {P : A → Type 0} → Decided ((a : A) × P a) → Option A
found (inl x) = Some x.0
found (inr none) = None

-- a text is the only text of a word that is itself
itself : {P : List ℕ → Type 0} → (text : List ℕ) → Decided (P text)
    → Decided ((name : List ℕ) × ((text ≡ name) × P name))
itself text (inl h) = inl (text, (refl, h))
itself {P = P} text (inr none) = inr (λ h. none (subst P (sym h.1.0) h.1.1))

pub decide_name : (text : List ℕ) → Decided ((name : List ℕ) × Spelled text (Name name))
decide_name text = itself {P = IsDeclaredName} text (decide_declared text)

-- the name of an added field
decide_made_below : (text : List ℕ) (bound : ℕ)
    → Decided ((n : ℕ) × (n < bound) × (text ≡ made_name n))
decide_made_below text zero = inr (λ h. omega (arith, h.1))
decide_made_below text (suc n) = at_last (same_text text (made_name n)) (decide_made_below text n) where
  at_last : Decided (text ≡ made_name n) → Decided ((k : ℕ) × (k < n) × (text ≡ made_name k))
      → Decided ((k : ℕ) × (k < suc n) × (text ≡ made_name k))
  at_last (inl e) below = inl (n, omega arith, e)
  at_last (inr other) (inl made) = inl (made.0, omega (arith, made.1), made.2)
  at_last (inr other) (inr none) = inr (λ h. elim (cases_lt h.0 n) [
    | inl l ↦ none (h.0, l, h.2)
    | inr l ↦ let last : h.0 ≡ n = omega (arith, h.1, l) in other (h.2 ∙ ap made_name last)
  ])

decide_field_name : (text : List ℕ) → Decided (IsFieldName text)
decide_field_name text = either (decide_declared text) (decide_made_below text MAX_FIELDS)

pub decide_field_word : (text : List ℕ) → Decided ((name : List ℕ) × Spelled text (FieldWord name))
decide_field_word text = itself {P = IsFieldName} text (decide_field_name text)

pub decide_number : (text : List ℕ) (bound : ℕ)
    → Decided ((n : ℕ) × Spelled text (Number bound n))
decide_number text bound = elim (decide_decimal text bound) [
  | inl h ↦ inl (h.0, (h.2, h.1))
  | inr none ↦ inr (λ h. none (h.0, h.1.1, h.1.0))
]

pub decide_digits : (text : List ℕ) → Decided ((c : List ℕ) × Spelled text (Coefficients c))
decide_digits text = elim (decide_list text) [
  | inl h ↦ inl (h.0, (h.2, h.1))
  | inr none ↦ inr (λ h. none (h.0, h.1.1, h.1.0))
]

-- ---- lines
-- names, all of them
pub decide_all_declared : (names : List (List ℕ)) → Decided (All IsDeclaredName names)
decide_all_declared names = decide_all IsDeclaredName decide_declared names

-- a line is passed over or not, by its first byte that isn't a space
pub decide_passed_by : (first : Option ℕ) → Decided (IfSome first (λ b. b ≡ 35))
decide_passed_by None = inl tt
decide_passed_by (Some b) = cases_eq b 35
