-- Whether a line is that of a field or of a map that may stand at its place.
--     IsBehind word text rest     the text is the word, a space and the rest
use Rattle.std.proofs.Common.{◌≡◌, ℕ, ◌<◌, ◌≤◌, List, [], ◌∷◌, ◌++◌, length, sym, refl, ap, ◌∙◌, subst, inl, inr, ⊎_elim, arith, decimal}
use Rattle.std.specs.Prelude.{◌≢◌, ◌⊎◌, All, codes, slice_index}
use Rattle.std.specs.List.{join_with_byte}
use Rattle.std.specs.declared.cmp.Ordering.{Ordering}
use Rattle.std.specs.declared.cmp.Ordering.TheVariants.{Less, Equal, Greater}
use Rattle.std.proofs.lemmas.List.{append_cancel_right}
use Rattle.std.proofs.lemmas.List.Elements.{All-cons, All-nil}
use Rattle.std.proofs.lemmas.Bool.{cases_lt, cases_eq}
use Rattle.std.proofs.lemmas.Fmt.{decimal_injective}
use Rattle.alg_model.specs.Coefficients.{mod_ops}
use Rattle.alg_model.specs.Polynomials.{leading}
use Rattle.alg_model.specs.Values.{degree}
use Rattle.alg_model.specs.Maps.{Field, field_values}
use Rattle.alg_model.specs.Lattices.{first_edition, Row, prime_row, made_name, field_at, pair_cmp}
use Rattle.lat_core.specs.Names.{IsDeclaredName}
use Rattle.lat_core.specs.Digits.{AreDigits}
use Rattle.lat_core.specs.Step.{IsWellFormed}
use Rattle.lat_core.proofs.Decisions.{contains_or_not}
use Rattle.lat_language.specs.Commands.{digits_text}
use Rattle.lat_language.specs.PrivateDecisions.{Decided, same_text, decide_declared, decide_number, decide_digits}
use Rattle.lat_language.specs.PrivateCoefficients.{digits_text_injective}
use Rattle.lat_audit.specs.Dumps.{field_line, map_line}
use Rattle.lat_audit.specs.Readings.{Image, IsNewName, IsNewRow, IsNextRow, IsNextImage}
use Rattle.lat_audit.specs.PrivateReadings.{Lacks, IsCut, ended, IsFieldPoly}
use Rattle.lat_audit.proofs.LineWords.{not_cut, one_cut, behind_word, line_from_words, decimal_lacks, declared_lacks}
use Rattle.lat_audit.proofs.ReadRows.{characteristic_small, poly_digits, value_digits}
use Rattle.lat_audit.proofs.FiniteSearches.{told_as, both_told, either_told, fails_told, found_then, all_told, some_below}

-- ---- numbers
lt_told : (m n : ℕ) → Decided (m < n)
lt_told m n = ⊎_elim (λ l. inl l) (λ above. inr (λ l. omega (arith, l, above))) (cases_lt m n)

pub le_told : (m n : ℕ) → Decided (m ≤ n)
le_told m n = ⊎_elim (λ l. inr (λ h. omega (arith, l, h))) (λ h. inl h) (cases_lt n m)

less_told : (o : Ordering) → Decided (o ≡ Less)
less_told Less = inl refl
less_told Equal = inr (λ e. cc)
less_told Greater = inr (λ e. cc)

-- ---- texts
-- a line ends with a line feed or not
pub ended_told : (line : List ℕ) → Decided ((l : List ℕ) × (line ≡ ended l))
ended_told [] = inr (λ h. no_end h.0 h.1) where
  no_end : (l : List ℕ) → [] ≡ l ++ 10 ∷ [] → ⊥
  no_end [] e = cc
  no_end (x ∷ l) e = cc
ended_told (x ∷ line) = told_as
    (λ h. ⊎_elim (λ (l, e). (x ∷ l, ap (λ t. x ∷ t) e)) (λ (p, q). ([], λ i. p i ∷ q i)) h)
    (λ h. back h.0 h.1)
    (either_told (ended_told line) (both_told (cases_eq x 10) (same_text line [])))
  where
    back : (l : List ℕ) → x ∷ line ≡ l ++ 10 ∷ []
        → ((l : List ℕ) × (line ≡ ended l)) ⊎ ((x ≡ 10) × (line ≡ []))
    back [] e = let p : x ≡ 10 = cc in let q : line ≡ [] = cc in inr (p, q)
    back (y ∷ l) e = let q : line ≡ l ++ 10 ∷ [] = cc in inl (l, q)

pub ended_one : (line l m : List ℕ) → line ≡ ended l → line ≡ ended m → l ≡ m
ended_one line l m e f = append_cancel_right l m (10 ∷ []) (sym e ∙ f)

abbrev pub IsBehind : List ℕ → List ℕ → List ℕ → Type 0
IsBehind word text rest = text ≡ word ++ 32 ∷ rest

pub behind_told : (word text : List ℕ) → Decided ((rest : List ℕ) × IsBehind word text rest)
behind_told [] [] = inr (λ h. let e : [] ≡ 32 ∷ h.0 = h.1 in cc)
behind_told [] (x ∷ text) = told_as
    (λ e. (text, ap (λ b. b ∷ text) e))
    (λ h. let e : x ∷ text ≡ 32 ∷ h.0 = h.1 in cc)
    (cases_eq x 32)
behind_told (w ∷ word) [] = inr (λ h. let e : [] ≡ w ∷ (word ++ 32 ∷ h.0) = h.1 in cc)
behind_told (w ∷ word) (x ∷ text) = told_as
    (λ (p, (rest, q)). (rest, λ i. p i ∷ q i))
    (λ h.
    let e : x ∷ text ≡ w ∷ (word ++ 32 ∷ h.0) = h.1 in
    let p : x ≡ w = cc in
    let q : text ≡ word ++ 32 ∷ h.0 = cc in
    (p, (h.0, q)))
    (both_told (cases_eq x w) (behind_told word text))

behind_one : (word text a b : List ℕ) → IsBehind word text a → IsBehind word text b → a ≡ b
behind_one word text a b e f = behind_word word a b (sym e ∙ f)

-- behind this word a further statement is decided
behind_then : (word text : List ℕ) (Q : List ℕ → Type 0) → ((rest : List ℕ) → Decided (Q rest))
    → Decided ((rest : List ℕ) × IsBehind word text rest × Q rest)
behind_then word text Q told =
    found_then (IsBehind word text) Q (behind_one word text) (λ rest e. told rest) (behind_told word text)

-- and of what stands before the line feed
ended_then : (line : List ℕ) (Q : List ℕ → Type 0) → ((l : List ℕ) → Decided (Q l))
    → Decided ((l : List ℕ) × (line ≡ ended l) × Q l)
ended_then line Q told =
    found_then (λ l. line ≡ ended l) Q (ended_one line) (λ l e. told l) (ended_told line)

-- a text is cut at its first such byte, or lacks it
pub cut_or_lacks : (byte : ℕ) (text : List ℕ)
    → ((a : List ℕ) × (b : List ℕ) × IsCut byte text a b) ⊎ Lacks byte text
cut_or_lacks byte [] = inr (All-nil (λ b. b ≢ byte))
cut_or_lacks byte (x ∷ text) = ⊎_elim
    (λ here. inl ([], text, (ap (λ b. b ∷ text) here, All-nil (λ b. b ≢ byte))))
    (λ other. ⊎_elim
    (λ (a, b, cut). inl (x ∷ a, b, (ap (λ t. x ∷ t) cut.0, All-cons (λ b. b ≢ byte) x a other cut.1)))
    (λ none. inr (All-cons (λ b. b ≢ byte) x text other none))
    (cut_or_lacks byte text))
    (cases_eq x byte)

-- ---- polynomials and values
pub formed_told : (p : ℕ) (f : List ℕ) → Decided (IsWellFormed first_edition p f)
formed_told p f = told_as
    (λ h. record { characteristic = h.0; in_range = h.1.0; coefficients = h.1.1.0; monic = h.1.1.1 })
    (λ w. (w.characteristic, (w.in_range, (w.coefficients, w.monic))))
    (both_told (contains_or_not first_edition.primes p)
    (both_told (both_told (le_told 2 (degree f)) (le_told (degree f) first_edition.top))
    (both_told (all_told (λ a. a < p) (λ a. lt_told a p) f) (cases_eq (leading (mod_ops p) f) 1))))

pub formed_poly : (p : ℕ) (f : List ℕ) → IsWellFormed first_edition p f → IsFieldPoly p f
formed_poly p f w =
    let low = w.in_range.0 in
    record {
      characteristic = w.characteristic;
      degree = (omega (arith, low), w.in_range.1);
      coefficients = w.coefficients;
      monic = w.monic;
    }

pub value_told : (K : Field) (v : List ℕ) → Decided ((field_values K).Valid v)
value_told K v = both_told (all_told (λ a. a < K.characteristic) (λ a. lt_told a K.characteristic) v)
    (cases_eq (length v) (degree K.polynomial))

-- the text of a coefficient list, of which a further statement is decided
digits_then : (text : List ℕ) (Q : List ℕ → Type 0) → ((c : List ℕ) → Decided (Q c))
    → Decided ((c : List ℕ) × ((text ≡ digits_text c) × AreDigits c) × Q c)
digits_then text Q told = found_then (λ c. (text ≡ digits_text c) × AreDigits c) Q
    (λ c d h k. digits_text_injective c d h.1 k.1 (sym h.0 ∙ k.0))
    (λ c h. told c) (decide_digits text)

-- ---- the line of a field
-- characteristic and polynomial
abbrev Tail : List ℕ → Type 0
Tail text = (k : ℕ × List ℕ) × (text ≡ decimal k.0 ++ 32 ∷ digits_text k.1)
    × IsWellFormed first_edition k.0 k.1

small_characteristic : (p : ℕ) (f : List ℕ) → IsWellFormed first_edition p f → p < 32
small_characteristic p f w = characteristic_small p w.characteristic

abbrev Formed : List ℕ → ℕ → Type 0
Formed d p = (f : List ℕ) × ((d ≡ digits_text f) × AreDigits f) × IsWellFormed first_edition p f

tail_cut : (text c d : List ℕ) → IsCut 32 text c d → Decided (Tail text)
tail_cut text c d cut = told_as
    (λ (p, e, (f, g, w)). ((p, f), cut.0 ∙ (λ i. e.0 i ++ 32 ∷ g.0 i), w))
    (λ (k, e, w). back k.0 k.1 e w)
    (found_then (λ p. (c ≡ decimal p) × (p < 32)) (Formed d) one
    (λ p e. digits_then d (λ f. IsWellFormed first_edition p f) (formed_told p)) (decide_number c 32))
  where
    one : (p q : ℕ) → (c ≡ decimal p) × (p < 32) → (c ≡ decimal q) × (q < 32) → p ≡ q
    one p q h k = decimal_injective p q (omega (arith, h.1)) (omega (arith, k.1)) (sym h.0 ∙ k.0)

    back : (p : ℕ) (f : List ℕ) → text ≡ decimal p ++ 32 ∷ digits_text f
        → IsWellFormed first_edition p f → (p : ℕ) × ((c ≡ decimal p) × (p < 32)) × Formed d p
    back p f e w =
        let small = small_characteristic p f w in
        let lacks = decimal_lacks p (omega (arith, small)) in
        let same = one_cut 32 c (decimal p) d (digits_text f) cut.1 lacks (sym cut.0 ∙ e) in
        (p, (same.0, small), (f, (same.1, poly_digits p f (formed_poly p f w)), w))

tail_told : (text : List ℕ) → Decided (Tail text)
tail_told text = ⊎_elim
    (λ (c, d, cut). tail_cut text c d cut)
    (λ none. inr (λ (k, e, w). not_cut 32 (decimal k.0) (digits_text k.1) (subst (Lacks 32) e none)))
    (cut_or_lacks 32 text)

-- a name and what follows it
module _ (rows : List Row) where
  abbrev IsFree : List ℕ → Type 0
  IsFree name = IsDeclaredName name × All (λ row. row.name ≢ name) rows

  abbrev BehindName : List ℕ → List ℕ → Type 0
  BehindName text name = (rest : List ℕ) × IsBehind name text rest × Tail rest

  free_told : (name : List ℕ) → Decided (IsFree name)
  free_told name = both_told (decide_declared name)
      (all_told (λ row. row.name ≢ name) (λ row. fails_told (same_text row.name name)) rows)

  declared_told : (text : List ℕ) → Decided ((name : List ℕ) × IsFree name × BehindName text name)
  declared_told text = ⊎_elim
      (λ (a, r, cut). told_as
      (λ h. (a, h.0, (r, cut.0, h.1)))
      (λ (name, free, (rest, e, t)).
      let same = one_cut 32 a name r rest cut.1 (declared_lacks name free.0) (sym cut.0 ∙ e) in
      (subst IsFree (sym same.0) free, subst Tail (sym same.1) t))
      (both_told (free_told a) (tail_told r)))
      (λ none. inr (λ (name, free, (rest, e, t)). not_cut 32 name rest (subst (Lacks 32) e none)))
      (cut_or_lacks 32 text)

  abbrev Named : List ℕ → Type 0
  Named text = (name : List ℕ) × IsNewName rows name × BehindName text name

  named_told : (text : List ℕ) → Decided (Named text)
  named_told text = told_as
      (λ h. ⊎_elim
      (λ (name, free, more). (name, inl free, more))
      (λ more. (made_name (length rows), inr refl, more)) h)
      (λ (name, new, more). ⊎_elim
      (λ free. inl (name, free, more))
      (λ made. inr (subst (BehindName text) made more)) new)
      (either_told (declared_told text) (behind_then (made_name (length rows)) text Tail tail_told))

  -- a new row
  abbrev NewRow : List ℕ → Type 0
  NewRow line = (row : Row) × (line ≡ field_line (length rows) row) × IsNewRow rows row

  abbrev Numbered : List ℕ → Type 0
  Numbered text = (rest : List ℕ) × IsBehind (decimal (length rows)) text rest × Named rest

  abbrev FieldWords : List ℕ → Type 0
  FieldWords l = (a : List ℕ) × IsBehind (codes "field") l a × Numbered a

  new_row_told : (line : List ℕ) → Decided (NewRow line)
  new_row_told line = told_as
      (λ (l, e, (a, f, (b, g, (name, new, (rest, h, (k, t, w)))))). (
        record { name = name; field = record { characteristic = k.0; polynomial = k.1 } },
        e ∙ line_from_words l (codes "field" ∷ decimal (length rows) ∷ name ∷ decimal k.0 ∷ digits_text k.1 ∷ [])
            (f ∙ ap (λ u. codes "field" ++ 32 ∷ u) (g ∙ ap (λ u. decimal (length rows) ++ 32 ∷ u)
            (h ∙ ap (λ u. name ++ 32 ∷ u) t))),
        (new, w),
      ))
      (λ (row, e, new). back row e new)
      (ended_then line FieldWords
      (λ l. behind_then (codes "field") l Numbered
      (λ a. behind_then (decimal (length rows)) a Named named_told)))
    where
      back : (row : Row) → line ≡ field_line (length rows) row → IsNewRow rows row
          → (l : List ℕ) × (line ≡ ended l) × FieldWords l
      back row e new =
          let words = codes "field" ∷ decimal (length rows) ∷ row.name ∷ decimal row.field.characteristic
          ∷ digits_text row.field.polynomial ∷ [] in
          let tail = decimal row.field.characteristic ++ 32 ∷ digits_text row.field.polynomial in (
            join_with_byte 32 words,
            e ∙ sym (line_from_words (join_with_byte 32 words) words refl),
            (
              decimal (length rows) ++ 32 ∷ (row.name ++ 32 ∷ tail),
              refl,
              (
                row.name ++ 32 ∷ tail,
                refl,
                (row.name, new.0, (tail, refl, ((row.field.characteristic, row.field.polynomial), refl, new.1))),
              ),
            ),
          )

-- a row that may stand behind the others
pub row_told : (rows : List Row) (line : List ℕ)
    → Decided ((row : Row) × (line ≡ field_line (length rows) row) × IsNextRow rows row)
row_told rows line = ⊎_elim
    (λ few.
    let row = prime_row (slice_index first_edition.primes (length rows)) in
    told_as
    (λ e. (row, e, inl (few, refl)))
    (λ (r, e, next). ⊎_elim
    (λ (l, same). e ∙ ap (field_line (length rows)) same)
    (λ (many, new). absurd (omega (arith, few, many))) next)
    (same_text line (field_line (length rows) row)))
    (λ many. told_as
    (λ (r, e, new). (r, e, inr (many, new)))
    (λ (r, e, next). ⊎_elim
    (λ (few, same). absurd (omega (arith, few, many)))
    (λ (m, new). (r, e, new)) next)
    (new_row_told rows line))
    (cases_lt (length rows) (length first_edition.primes))

-- ---- the line of a map
module _ (rows : List Row) (images : List Image) (line : List ℕ)
    (polys : (j : ℕ) → j < length rows
    → IsFieldPoly (field_at rows j).characteristic (field_at rows j).polynomial) where
  abbrev Follows : ℕ → ℕ → List ℕ → Type 0
  Follows i j v = (field_values (field_at rows j)).Valid v
      × All (λ earlier. pair_cmp earlier.0 (i, j) ≡ Less) images

  follows_told : (i j : ℕ) (v : List ℕ) → Decided (Follows i j v)
  follows_told i j v = both_told (value_told (field_at rows j) v)
      (all_told (λ earlier. pair_cmp earlier.0 (i, j) ≡ Less) (λ earlier. less_told (pair_cmp earlier.0 (i, j))) images)

  abbrev Value : ℕ → ℕ → List ℕ → Type 0
  Value i j text = (v : List ℕ) × ((text ≡ digits_text v) × AreDigits v) × Follows i j v

  abbrev Into : ℕ → ℕ → List ℕ → Type 0
  Into i j text = (c : List ℕ) × IsBehind (decimal j) text c × Value i j c

  abbrev From : ℕ → ℕ → List ℕ → Type 0
  From i j text = (b : List ℕ) × IsBehind (decimal i) text b × Into i j b

  abbrev Between : ℕ → ℕ → Type 0
  Between i j = (v : List ℕ) × (line ≡ map_line (i, j) v) × Follows i j v

  abbrev MapWords : ℕ → ℕ → List ℕ → Type 0
  MapWords i j l = (a : List ℕ) × IsBehind (codes "map") l a × From i j a

  between_told : (i j : ℕ) → j < length rows → Decided (Between i j)
  between_told i j within = told_as
      (λ (l, e, (a, f, (b, g, (c, h, (v, k, follows))))). (
        v,
        e ∙ line_from_words l (codes "map" ∷ decimal i ∷ decimal j ∷ digits_text v ∷ [])
            (f ∙ ap (λ u. codes "map" ++ 32 ∷ u) (g ∙ ap (λ u. decimal i ++ 32 ∷ u)
            (h ∙ ap (λ u. decimal j ++ 32 ∷ u) k.0))),
        follows,
      ))
      (λ (v, e, follows). back v e follows)
      (ended_then line (MapWords i j)
      (λ l. behind_then (codes "map") l (From i j)
      (λ a. behind_then (decimal i) a (Into i j)
      (λ b. behind_then (decimal j) b (Value i j)
      (λ c. digits_then c (Follows i j) (follows_told i j))))))
    where
      back : (v : List ℕ) → line ≡ map_line (i, j) v → Follows i j v
          → (l : List ℕ) × (line ≡ ended l) × MapWords i j l
      back v e follows =
          let words = codes "map" ∷ decimal i ∷ decimal j ∷ digits_text v ∷ [] in
          let digits = value_digits (field_at rows j) v (polys j within) follows.0 in (
            join_with_byte 32 words,
            e ∙ sym (line_from_words (join_with_byte 32 words) words refl),
            (
              decimal i ++ 32 ∷ (decimal j ++ 32 ∷ digits_text v),
              refl,
              (
                decimal j ++ 32 ∷ digits_text v,
                refl,
                (digits_text v, refl, (v, (refl, digits), follows)),
              ),
            ),
          )

  -- an image that may stand behind the others
  pub image_told : Decided ((e : Image) × (line ≡ map_line e.0 e.1) × IsNextImage rows images e)
  image_told = told_as
      (λ (i, li, (j, lj, (v, e, follows))). (
        ((i, j), v),
        e,
        record { source = li; target = lj; value = follows.0; rising = follows.1 },
      ))
      (λ (e, is, next). (e.0.0, next.source, (e.0.1, next.target, (e.1, is, (next.value, next.rising)))))
      (some_below (λ i. (j : ℕ) × (j < length rows) × Between i j) (length rows)
      (λ i li. some_below (Between i) (length rows) (λ j lj. between_told i j lj)))
