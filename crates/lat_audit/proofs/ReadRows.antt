-- The rows and the images that lines are.
use Rattle.std.proofs.Common.{◌≡◌, ℕ, zero, suc, ◌-◌, ◌<◌, ◌≤◌, ◌^◌, Option, Some, None, List, [], ◌∷◌, length, get_or, sym, refl, ap, ◌∙◌, subst, inl, inr, arith, eqb, decimal}
use Rattle.std.specs.Prelude.{◌≢◌, All, Contains, codes, SomeIff, MatchOption, slice_index, slice_index_or}
use Rattle.std.specs.List.{join_with_byte, slice_get}
use Rattle.std.proofs.lemmas.Fmt.{decimal_injective}
use Rattle.std.proofs.lemmas.List.Elements.{All-get_or, All-from_get_or, All-from_recursion, All-cons, All-nil}
use Rattle.std.proofs.lemmas.List.{get_or_default}
use Rattle.std.proofs.lemmas.Bool.{cases_lt, ne_eqb, cond-false}
use Rattle.alg_model.specs.Coefficients.{mod_ops}
use Rattle.alg_model.specs.Polynomials.{trim, leading, cons_trimmed}
use Rattle.alg_model.specs.Maps.{Field, field_values}
use Rattle.alg_model.specs.Lattices.{first_edition, prime_row, Row, no_row}
use Rattle.alg_compatible.proofs.Tables.{pair_total}
use Rattle.lat_core.specs.declared.TheConstants.{MAX_FIELDS}
use Rattle.lat_core.specs.Names.{IsDeclaredName, IsFieldName}
use Rattle.lat_core.specs.Digits.{AreDigits}
use Rattle.lat_core.proofs.NameLengths.{prime_named}
use Rattle.lat_language.specs.Commands.{digits_text}
use Rattle.lat_language.specs.PrivateCoefficients.{digits_text_injective}
use Rattle.lat_audit.specs.Dumps.{field_line, map_line}
use Rattle.lat_audit.specs.Readings.{Image, IsNewName, IsNextRow, IsNextImage}
use Rattle.lat_audit.specs.PrivateReadings.{Lacks, ended, AreFieldWords, AreMapWords, IsFieldPoly, AreCoefficients, IsBefore, IsRising}
use Rattle.lat_audit.proofs.LineWords.{line_words, line_from_words, decimal_lacks, declared_lacks, made_lacks, one_field, one_map}

-- ---- characteristics and coefficients
prime_bounds : All (λ p. (1 < p) × (p < 32)) first_edition.primes
prime_bounds = All-from_recursion (λ p. (1 < p) × (p < 32)) first_edition.primes (
  (omega arith, omega arith),
  (
    (omega arith, omega arith),
    (
      (omega arith, omega arith),
      (
        (omega arith, omega arith),
        (
          (omega arith, omega arith),
          (
            (omega arith, omega arith),
            (
              (omega arith, omega arith),
              (
                (omega arith, omega arith),
                (
                  (omega arith, omega arith),
                  ((omega arith, omega arith), ((omega arith, omega arith), tt)),
                ),
              ),
            ),
          ),
        ),
      ),
    ),
  ),
)

prime_range : (p : ℕ) → Contains first_edition.primes p → (1 < p) × (p < 32)
prime_range p (k, l, e) = subst (λ q. (1 < q) × (q < 32)) e
    (All-get_or (λ q. (1 < q) × (q < 32)) first_edition.primes k p l prime_bounds)

pub characteristic_small : (p : ℕ) → Contains first_edition.primes p → p < 32
characteristic_small p is = (prime_range p is).1

all_weaker : (m n : ℕ) (c : List ℕ) → m ≤ n → All (λ a. a < m) c → All (λ a. a < n) c
all_weaker m n c l all = All-from_get_or (λ a. a < n) c 0
    (λ i within. let s : get_or c i 0 < m = All-get_or (λ a. a < m) c i 0 within all in omega (arith, s, l))

-- coefficients and digits are lists that can be written
pub poly_digits : (p : ℕ) (f : List ℕ) → IsFieldPoly p f → AreDigits f
poly_digits p f is =
    let small : p < 32 = characteristic_small p is.characteristic in
    let low = is.degree.0 in
    let high = is.degree.1 in
    record { count = (omega arith, omega arith); bytes = all_weaker p 256 f (omega arith) is.coefficients }

pub value_digits : (K : Field) (v : List ℕ) → IsFieldPoly K.characteristic K.polynomial
    → (field_values K).Valid v → AreDigits v
value_digits K v is valid =
    let small : K.characteristic < 32 = characteristic_small K.characteristic is.characteristic in
    let low = is.degree.0 in
    let high = is.degree.1 in
    let len = valid.1 in
    record { count = (omega arith, omega arith); bytes = all_weaker K.characteristic 256 v (omega arith) valid.0 }

last_at : (p x : ℕ) (xs : List ℕ) → get_or (x ∷ xs) (length xs) 0 ≡ leading (mod_ops p) (x ∷ xs)
last_at p x [] = refl
last_at p x (y ∷ ys) = last_at p y ys

pub leading_last : (p : ℕ) (f : List ℕ) → slice_index f (length f - 1) ≡ leading (mod_ops p) f
leading_last p [] = refl
leading_last p (x ∷ xs) = let e : length (x ∷ xs) - 1 ≡ length xs = omega arith in
    ap (λ i. get_or (x ∷ xs) i 0) e ∙ last_at p x xs

pub trim_monic : (p : ℕ) (f : List ℕ) → leading (mod_ops p) f ≡ 1 → trim (mod_ops p) f ≡ f
trim_monic p [] e = absurd (omega (arith, e))
trim_monic p (x ∷ []) e = cond-false (eqb x 0) [] (x ∷ []) (ne_eqb x 0 (λ z. omega (arith, z, e)))
trim_monic p (x ∷ y ∷ ys) e = ap (cons_trimmed (mod_ops p) x) (trim_monic p (y ∷ ys) e)

-- what was read is a polynomial
pub poly_read : (p : ℕ) (f : List ℕ) → Contains first_edition.primes p → AreCoefficients p f
    → IsFieldPoly p f
poly_read p f prime is =
    let low = is.degree.0 in
    let high = is.degree.1 in
    record {
      characteristic = prime;
      degree = (omega arith, omega arith);
      coefficients = is.coefficients;
      monic = sym (leading_last p f) ∙ is.last;
    }

pub poly_coefficients : (p : ℕ) (f : List ℕ) → IsFieldPoly p f → AreCoefficients p f
poly_coefficients p f is =
    let low = is.degree.0 in
    let high = is.degree.1 in
    record {
      degree = (omega arith, omega arith);
      coefficients = is.coefficients;
      last = leading_last p f ∙ is.monic;
    }

-- ---- rows
abbrev first_byte : List ℕ → ℕ
first_byte xs = get_or xs 0 0

pub prime_declared : (p : ℕ) → 1 < p → p < 64 → IsDeclaredName (70 ∷ decimal p)
prime_declared p low high = declared (prime_named p low high) where
  declared : IsFieldName (70 ∷ decimal p) → IsDeclaredName (70 ∷ decimal p)
  declared (inl h) = h
  declared (inr (n, l, e)) = let first : ◌≡◌ {A = ℕ} 70 95 = ap first_byte e in absurd (omega (arith, first))

pub prime_name_read : (r : Option (List ℕ)) (word : List ℕ) (p : ℕ) → 1 < p → p < 64
    → SomeIff r (IsDeclaredName word) word → word ≡ (prime_row p).name
    → MatchOption r (word ≢ (prime_row p).name) (λ name. (name ≡ word) × (word ≡ (prime_row p).name))
prime_name_read None word p low high none e = absurd (none (subst IsDeclaredName (sym e) (prime_declared p low high)))
prime_name_read (Some x) word p low high some e = (some.1, e)

prime_in_table : (n : ℕ) → n < length first_edition.primes
    → Contains first_edition.primes (slice_index first_edition.primes n)
prime_in_table n l = (n, l, get_or_default first_edition.primes n (slice_index first_edition.primes n) 0 l)

prime_poly : (p : ℕ) → Contains first_edition.primes p → IsFieldPoly p (0 ∷ 1 ∷ [])
prime_poly p is =
    let bounds = prime_range p is in
    let low : 1 < p = bounds.0 in
    let positive : 0 < p = omega (arith, low) in
    record {
      characteristic = is;
      degree = (omega arith, omega arith);
      coefficients = All-cons (λ a. a < p) 0 (1 ∷ []) positive (All-cons (λ a. a < p) 1 [] low (All-nil (λ a. a < p)));
      monic = refl;
    }

pub next_poly : (rows : List Row) (r : Row) → IsNextRow rows r
    → IsFieldPoly r.field.characteristic r.field.polynomial
next_poly rows r (inl (few, e)) =
    subst (λ (s : Row). IsFieldPoly s.field.characteristic s.field.polynomial) (sym e)
    (prime_poly (slice_index first_edition.primes (length rows)) (prime_in_table (length rows) few))
next_poly rows r (inr (many, new)) =
    let formed = new.1 in
    let range = formed.in_range in
    record {
      characteristic = formed.characteristic;
      degree = (omega (arith, range.0), range.1);
      coefficients = formed.coefficients;
      monic = formed.monic;
    }

new_lacks : (rows : List Row) (name : List ℕ) → length rows < 2 ^ 64 → IsNewName rows name → Lacks 32 name
new_lacks rows name few (inl (declared, free)) = declared_lacks name declared
new_lacks rows name few (inr e) = subst (Lacks 32) (sym e) (made_lacks (length rows) few)

name_lacks : (rows : List Row) (r : Row) → length rows < 2 ^ 64 → IsNextRow rows r → Lacks 32 r.name
name_lacks rows r small (inl (few, e)) =
    let p = slice_index first_edition.primes (length rows) in
    let range = prime_range p (prime_in_table (length rows) few) in
    let fits : p < 2 ^ 64 = omega (arith, range.1) in
    subst (λ (s : Row). Lacks 32 s.name) (sym e)
    (All-cons (λ b. b ≢ 32) 70 (decimal p) (λ t. omega (arith, t)) (decimal_lacks p fits))
name_lacks rows r small (inr (many, new)) = new_lacks rows r.name small new.0

pub row_words : (rows : List Row) (line : List ℕ) (r : Row) → length rows < 2 ^ 64 → IsNextRow rows r
    → ended line ≡ field_line (length rows) r
    → AreFieldWords line (decimal (length rows)) r.name (decimal r.field.characteristic) (digits_text r.field.polynomial)
row_words rows line r small next e =
    let few : r.field.characteristic < 32 = characteristic_small r.field.characteristic (next_poly rows r next).characteristic in
    record {
      joined = line_words line (codes "field" ∷ decimal (length rows) ∷ r.name ∷ decimal r.field.characteristic ∷ digits_text r.field.polynomial ∷ []) e;
      first = decimal_lacks (length rows) small;
      second = name_lacks rows r small next;
      third = decimal_lacks r.field.characteristic (omega (arith, few));
    }

joined_field : (a b c d x y z t : List ℕ) → a ≡ x → b ≡ y → c ≡ z → d ≡ t
    → join_with_byte 32 (codes "field" ∷ a ∷ b ∷ c ∷ d ∷ []) ≡ join_with_byte 32 (codes "field" ∷ x ∷ y ∷ z ∷ t ∷ [])
joined_field a b c d x y z t p q r s = λ i. join_with_byte 32 (codes "field" ∷ p i ∷ q i ∷ r i ∷ s i ∷ [])

-- what the words of a line are
module _ (rows : List Row) (line a b c d : List ℕ) (words : AreFieldWords line a b c d)
    (few : length rows < MAX_FIELDS) where
  small : length rows < 2 ^ 64
  small = omega (arith, few)

  same : (r : Row) → IsNextRow rows r → ended line ≡ field_line (length rows) r
      → (a ≡ decimal (length rows)) × (b ≡ r.name) × (c ≡ decimal r.field.characteristic) × (d ≡ digits_text r.field.polynomial)
  same r next e = one_field line a b c d (decimal (length rows)) r.name (decimal r.field.characteristic) (digits_text r.field.polynomial)
      words (row_words rows line r small next e)

  pub other_number : (a ≡ decimal (length rows) → ⊥) → (r : Row) → IsNextRow rows r
      → ended line ≡ field_line (length rows) r → ⊥
  other_number none r next e = none (same r next e).0

  pub no_poly : ((p : ℕ) (f : List ℕ) → IsFieldPoly p f → c ≡ decimal p → d ≢ digits_text f)
      → (r : Row) → IsNextRow rows r → ended line ≡ field_line (length rows) r → ⊥
  no_poly none r next e =
      let s = same r next e in
      none r.field.characteristic r.field.polynomial (next_poly rows r next) s.2 s.3

  pub row_read : a ≡ decimal (length rows) → (p : ℕ) (f : List ℕ) → IsFieldPoly p f → c ≡ decimal p
      → d ≡ digits_text f → (result : Option Row)
      → MatchOption result
      ((r : Row) → IsNextRow rows r → b ≡ r.name → p ≡ r.field.characteristic → f ≢ r.field.polynomial)
      (λ r. IsNextRow rows r × (r.name ≡ b) × (r.field.characteristic ≡ p) × (r.field.polynomial ≡ f))
      → MatchOption result
      ((r : Row) → IsNextRow rows r → ended line ≢ field_line (length rows) r)
      (λ r. IsNextRow rows r × (ended line ≡ field_line (length rows) r))
  row_read number p f is cp df None none = λ r next e.
      let s = same r next e in
      let own = next_poly rows r next in
      let low : p < 32 = characteristic_small p is.characteristic in
      let other : r.field.characteristic < 32 = characteristic_small r.field.characteristic own.characteristic in
      none r next s.1
      (decimal_injective p r.field.characteristic (omega (arith, low)) (omega (arith, other)) (sym cp ∙ s.2))
      (digits_text_injective f r.field.polynomial (poly_digits p f is) (poly_digits r.field.characteristic r.field.polynomial own) (sym df ∙ s.3))
  row_read number p f is cp df (Some r) some = (
    some.0,
    line_from_words line (codes "field" ∷ decimal (length rows) ∷ r.name ∷ decimal r.field.characteristic ∷ digits_text r.field.polynomial ∷ [])
        (words.joined ∙ joined_field a b c d (decimal (length rows)) r.name (decimal r.field.characteristic) (digits_text r.field.polynomial)
        number (sym some.1) (cp ∙ ap decimal (sym some.2)) (df ∙ ap digits_text (sym some.3))),
  )

-- ---- images
slice_get_is : {X : Type 0} (xs : List X) (i : ℕ) (x d : X) → Some x ≡ slice_get xs i
    → slice_index_or xs i d ≡ x
slice_get_is [] i x d e = absurd (let f : Some x ≡ None = e in cc)
slice_get_is (y ∷ ys) zero x d e = cc
slice_get_is (y ∷ ys) (suc i) x d e = slice_get_is ys i x d e

pub not_empty : {X : Type 0} (xs : List X) (x : X) → Some x ≡ slice_get xs (length xs - 1) → 0 < length xs
not_empty [] x e = absurd (let f : Some x ≡ None = e in cc)
not_empty (y ∷ ys) x e = omega arith

-- the pair of the last image decides
module _ (images : List Image) (last : Image) (pair : ℕ × ℕ) (rising : IsRising images)
    (is : Some last ≡ slice_get images (length images - 1)) where
  pub behind_all : IsBefore last.0 pair → (k : ℕ) (d : Image) → k < length images
      → IsBefore (slice_index_or images k d).0 pair
  behind_all before k d l = elim (cases_lt k (length images - 1)) [
    | inl below ↦
        let at_last : (slice_index_or images (length images - 1) d).0 ≡ last.0 =
        ap (λ (e : Image). e.0) (slice_get_is images (length images - 1) last d is) in
        pair_total.trans (slice_index_or images k d).0 last.0 pair
        (subst (λ (q : ℕ × ℕ). IsBefore (slice_index_or images k d).0 q) at_last (rising k (length images - 1) d below (omega (arith, l))))
        before
    | inr above ↦
        let same : k ≡ length images - 1 = omega (arith, l, above) in
        let at_last : slice_index_or images k d ≡ last =
        ap (λ i. slice_index_or images i d) same ∙ slice_get_is images (length images - 1) last d is in
        subst (λ (e : Image). IsBefore e.0 pair) (sym at_last) before
  ]

  pub behind_last : All (λ (e : Image). IsBefore e.0 pair) images → IsBefore last.0 pair
  behind_last all =
      let some : 0 < length images = not_empty images last is in
      subst (λ (e : Image). IsBefore e.0 pair) (slice_get_is images (length images - 1) last last is)
      (All-get_or (λ (e : Image). IsBefore e.0 pair) images (length images - 1) last (omega (arith, some)) all)

pub image_words : (rows : List Row) (images : List Image) (line : List ℕ) (e : Image)
    → length rows ≤ MAX_FIELDS → IsNextImage rows images e → ended line ≡ map_line e.0 e.1
    → AreMapWords line (decimal e.0.0) (decimal e.0.1) (digits_text e.1)
image_words rows images line e few next is =
    let source : e.0.0 < length rows = next.source in
    let target : e.0.1 < length rows = next.target in
    record {
      joined = line_words line (codes "map" ∷ decimal e.0.0 ∷ decimal e.0.1 ∷ digits_text e.1 ∷ []) is;
      first = decimal_lacks e.0.0 (omega (arith, few, source));
      second = decimal_lacks e.0.1 (omega (arith, few, target));
    }

joined_map : (a b c x y z : List ℕ) → a ≡ x → b ≡ y → c ≡ z
    → join_with_byte 32 (codes "map" ∷ a ∷ b ∷ c ∷ []) ≡ join_with_byte 32 (codes "map" ∷ x ∷ y ∷ z ∷ [])
joined_map a b c x y z p q r = λ i. join_with_byte 32 (codes "map" ∷ p i ∷ q i ∷ r i ∷ [])

-- what the words of a line are
module _ (rows : List Row) (images : List Image) (line a b c : List ℕ)
    (words : AreMapWords line a b c) (few : length rows ≤ MAX_FIELDS) where
  same_map : (e : Image) → IsNextImage rows images e → ended line ≡ map_line e.0 e.1
      → (a ≡ decimal e.0.0) × (b ≡ decimal e.0.1) × (c ≡ digits_text e.1)
  same_map e next is = one_map line a b c (decimal e.0.0) (decimal e.0.1) (digits_text e.1)
      words (image_words rows images line e few next is)

  pub no_source : ((n : ℕ) → n < length rows → a ≢ decimal n) → (e : Image)
      → IsNextImage rows images e → ended line ≡ map_line e.0 e.1 → ⊥
  no_source none e next is = none e.0.0 next.source (same_map e next is).0

  pub no_target : ((n : ℕ) → n < length rows → b ≢ decimal n) → (e : Image)
      → IsNextImage rows images e → ended line ≡ map_line e.0 e.1 → ⊥
  no_target none e next is = none e.0.1 next.target (same_map e next is).1

  one_number : (m n : ℕ) → m < length rows → n < length rows → decimal m ≡ decimal n → m ≡ n
  one_number m n lm ln e = decimal_injective m n (omega (arith, few, lm)) (omega (arith, few, ln)) e

  pub no_value : (into : ℕ) (row : Row) → into < length rows → b ≡ decimal into
      → row ≡ slice_index_or rows into no_row
      → ((v : List ℕ) → (field_values row.field).Valid v → c ≢ digits_text v)
      → (e : Image) → IsNextImage rows images e → ended line ≡ map_line e.0 e.1 → ⊥
  no_value into row l bi at none e next is =
      let s = same_map e next is in
      let target : e.0.1 ≡ into = one_number e.0.1 into next.target l (sym s.1 ∙ bi) in
      let here : slice_index_or rows e.0.1 no_row ≡ row = ap (λ j. slice_index_or rows j no_row) target ∙ sym at in
      none e.1 (subst (λ (r : Row). (field_values r.field).Valid e.1) here next.value) s.2

  pub not_behind : (from into : ℕ) → from < length rows → into < length rows → a ≡ decimal from
      → b ≡ decimal into → (All (λ (x : Image). IsBefore x.0 (from, into)) images → ⊥)
      → (e : Image) → IsNextImage rows images e → ended line ≡ map_line e.0 e.1 → ⊥
  not_behind from into lf li af bi none e next is =
      let s = same_map e next is in
      let source : e.0.0 ≡ from = one_number e.0.0 from next.source lf (sym s.0 ∙ af) in
      let target : e.0.1 ≡ into = one_number e.0.1 into next.target li (sym s.1 ∙ bi) in
      let pair : ◌≡◌ {A = ℕ × ℕ} (e.0.0, e.0.1) (from, into) = λ i. (source i, target i) in
      none (subst (λ (q : ℕ × ℕ). All (λ (x : Image). IsBefore x.0 q) images) pair next.rising)

  pub image_read : (from into : ℕ) (row : Row) (v : List ℕ) → from < length rows
      → into < length rows → a ≡ decimal from → b ≡ decimal into
      → row ≡ slice_index_or rows into no_row → (field_values row.field).Valid v
      → c ≡ digits_text v → All (λ (x : Image). IsBefore x.0 (from, into)) images
      → IsNextImage rows images ((from, into), v) × (ended line ≡ map_line (from, into) v)
  image_read from into row v lf li af bi at valid cv rising = (
    record {
      source = lf;
      target = li;
      value = subst (λ (r : Row). (field_values r.field).Valid v) at valid;
      rising = rising;
    },
    line_from_words line (codes "map" ∷ decimal from ∷ decimal into ∷ digits_text v ∷ [])
        (words.joined ∙ joined_map a b c (decimal from) (decimal into) (digits_text v) af bi cv),
  )

-- a line of other words is no row and no image
pub no_row_line : (rows : List Row) (line : List ℕ) → length rows < MAX_FIELDS
    → ((a b c d : List ℕ) → AreFieldWords line a b c d → ⊥)
    → (r : Row) → IsNextRow rows r → ended line ≡ field_line (length rows) r → ⊥
no_row_line rows line few none r next e =
    none (decimal (length rows)) r.name (decimal r.field.characteristic) (digits_text r.field.polynomial)
    (row_words rows line r (omega (arith, few)) next e)

pub no_line : (rows : List Row) (images : List Image) (line : List ℕ) → length rows ≤ MAX_FIELDS
    → ((a b c : List ℕ) → AreMapWords line a b c → ⊥)
    → (e : Image) → IsNextImage rows images e → ended line ≡ map_line e.0 e.1 → ⊥
no_line rows images line few none e next is =
    none (decimal e.0.0) (decimal e.0.1) (digits_text e.1) (image_words rows images line e few next is)
