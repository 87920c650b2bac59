-- Prime fields with their identities are the opening lattice of their edition.
use Rattle.std.proofs.Common.{◌≡◌, ◌≢◌, ◌⊎◌, ⊎_elim, inl, inr, ℕ, zero, suc, ◌+◌, ◌<◌, List, [], ◌∷◌, ◌++◌, map, take, length, slice_index_or, refl, sym, ap, ap₂, ◌∙◌, subst, cond, true, false, Bool, arith, Option, Some, None, length-take}
use Rattle.std.specs.Prelude.{Contains, SomeIff, IsSome}
use Rattle.std.specs.Cmp.{unsigned_tied}
use Rattle.std.specs.Ordering.{nat_cmp, eq_by_cmp, is_eq}
use Rattle.std.specs.FinMap.{FinMap, get, insert, empty, get-empty, get-insert}
use Rattle.std.proofs.lemmas.Bool.{cases_lt, cases_eq}
use Rattle.std.proofs.lemmas.Cmp.{tied_itself}
use Rattle.std.proofs.lemmas.List.{take_more}
use Rattle.std.proofs.lemmas.List.Elements.{All-cons, All-nil, All-contains_itself, Contains-append_left}
use Rattle.alg_model.specs.Coefficients.{primes, residues, IsCharacteristic}
use Rattle.alg_model.specs.Factors.{IsIrreducible}
use Rattle.alg_model.specs.Maps.{identity_map}
use Rattle.alg_model.specs.Lattices.{Edition, Lattice, Row, field_at, pair_cmp, prime_row, Stored, IsEdition, IsCompatible}
use Rattle.alg_model.specs.Declaring.{IsOpening}
use Rattle.alg_rings.proofs.Decisions.{both_or_not}
use Rattle.alg_galois.proofs.Fields.{prime_field_finite}
use Rattle.alg_compatible.proofs.Laws.{editions_law, opening_law}
use Rattle.alg_compatible.proofs.Tables.{pair_total}
use Rattle.lat_core.specs.declared.editions.Edition as declared
use Rattle.lat_core.specs.declared.rows.MapRow.{MapRow}
use Rattle.lat_core.specs.Editions.{edition_of}
use Rattle.lat_core.specs.SharedRows.{IsBetween, with_maps, with_rows, no_rows, AreBetween}
use Rattle.lat_core.specs.PrivateOpening.{identity_row, identities_from}
use Rattle.lat_core.proofs.Decisions.{prime_of}
use Rattle.lat_core.proofs.GrownRows.{same_number}
use Rattle.lat_core.proofs.KeptMaps.{same_first, other_first}

-- ---- the characteristics of an edition
later : List ℕ
later = 37 ∷ 41 ∷ 43 ∷ 47 ∷ 53 ∷ 59 ∷ 61 ∷ []

first_primes : take 11 primes ++ later ≡ primes
unfolding later
first_primes = refl

-- each is in the table
pub known_characteristic : (e : declared.Edition) (p : ℕ) → Contains (edition_of e).primes p
    → IsCharacteristic p
known_characteristic declared.TheVariants.One p h =
    subst (λ ps. Contains ps p) first_primes (Contains-append_left (take 11 primes) later p h)
known_characteristic declared.TheVariants.Two p h = h

pub is_edition : (e : declared.Edition) → IsEdition (edition_of e)
is_edition declared.TheVariants.One = editions_law.0
is_edition declared.TheVariants.Two = editions_law.1

-- the polynomial x makes a field
pub prime_irreducible : (p : ℕ) → IsCharacteristic p → IsIrreducible (residues p) (0 ∷ 1 ∷ [])
prime_irreducible p h =
    (prime_field_finite p (prime_of (is_edition declared.TheVariants.Two) p h)).irreducible

-- ---- the list of identities
pub identities_push : (rows : List Row) (n : ℕ) (row : Row)
    → identities_from n (rows ++ row ∷ []) ≡ identities_from n rows ++ identity_row (n + length rows) row ∷ []
identities_push [] n row = ap (λ k. identity_row k row ∷ []) (omega arith)
identities_push (r ∷ rows) n row = ap (λ ms. identity_row n r ∷ ms)
    (identities_push rows (suc n) row
    ∙ ap (λ k. identities_from (suc n) rows ++ identity_row k row ∷ []) (omega arith))

-- one identity more
pub pushed_identity : (rows : List Row) (i : ℕ) (row : Row) (maps : List MapRow) (m : MapRow)
    → maps ≡ identities_from 0 (take i rows) → i < length rows → row ≡ slice_index_or rows i row
    → m ≡ identity_row i row → maps ++ m ∷ [] ≡ identities_from 0 (take (i + 1) rows)
pushed_identity rows i row maps m so_far h at made =
    ap₂ (λ ms x. ms ++ x ∷ []) so_far (made ∙ ap₂ identity_row count at)
    ∙ sym (identities_push (take i rows) 0 (slice_index_or rows i row))
    ∙ ap (identities_from 0) (sym (take_more rows i row h))
  where
    count : i ≡ 0 + length (take i rows)
    count = omega (arith, length-take i rows, h)

-- ---- what they store
pair_itself : (i j : ℕ) → eq_by_cmp pair_cmp (i, j) (i, j) ≡ true
pair_itself i j = ap is_eq (tied_itself pair_total (i, j))

-- other pairs are as before
identities_miss : (rows : List Row) (b i j : ℕ) (M : FinMap pair_cmp (List (List ℕ)))
    → ((k : ℕ) → k < length rows → i ≡ b + k → j ≡ b + k → ⊥)
    → get (with_maps M (identities_from b rows)) (i, j) ≡ get M (i, j)
identities_miss [] b i j M apart = refl
identities_miss (row ∷ rows) b i j M apart =
    identities_miss rows (suc b) i j (insert M (b, b) (identity_map row.field))
    (λ k h e d. apart (suc k) (omega (arith, h)) (omega (arith, e)) (omega (arith, d)))
    ∙ get-insert pair_total M (b, b) (identity_map row.field) (i, j)
    ∙ ap (λ t. cond t (Some (identity_map row.field)) (get M (i, j))) (differ (cases_eq i b))
  where
    differ : (i ≡ b) ⊎ (i ≢ b) → eq_by_cmp pair_cmp (i, j) (b, b) ≡ false
    differ (inr other) = other_first i j b b other
    differ (inl e) =
        ap (λ a. eq_by_cmp pair_cmp (a, j) (b, b)) e ∙ same_first b j b
        ∙ apart_from (eq_by_cmp nat_cmp j b) refl
      where
        apart_from : (t : Bool) → eq_by_cmp nat_cmp j b ≡ t → eq_by_cmp nat_cmp j b ≡ false
        apart_from false d = d
        apart_from true d = absurd (apart 0 (omega arith) (omega (arith, e))
            (let same = same_number j b (sym (unsigned_tied j b) ∙ d) in omega (arith, same)))

-- each field has its identity
identities_hit : (rows : List Row) (b k i : ℕ) (M : FinMap pair_cmp (List (List ℕ)))
    → k < length rows → i ≡ b + k
    → get (with_maps M (identities_from b rows)) (i, i) ≡ Some (identity_map (field_at rows k))
identities_hit [] b k i M h e = absurd (omega (arith, h))
identities_hit (row ∷ rows) b zero i M h e =
    identities_miss rows (suc b) i i (insert M (b, b) (identity_map row.field))
    (λ k l d c. omega (arith, e, d))
    ∙ ap (λ a. get (insert M (a, a) (identity_map row.field)) (i, i)) (let d : b ≡ i = omega (arith, e) in d)
    ∙ get-insert pair_total M (i, i) (identity_map row.field) (i, i)
    ∙ ap (λ t. cond t (Some (identity_map row.field)) (get M (i, i))) (pair_itself i i)
identities_hit (row ∷ rows) b (suc k) i M h e =
    identities_hit rows (suc b) k i (insert M (b, b) (identity_map row.field)) (omega (arith, h)) (omega (arith, e))

identities_between : (all rows : List Row) (b : ℕ)
    → ((k : ℕ) → k < length rows → field_at all (b + k) ≡ field_at rows k)
    → AreBetween all (identities_from b rows)
identities_between all [] b same = All-nil (λ m. IsBetween all m.from m.into m.map)
identities_between all (row ∷ rows) b same =
    let here : field_at all b ≡ row.field = ap (field_at all) (omega arith) ∙ same 0 (omega arith) in
    All-cons (λ m. IsBetween all m.from m.into m.map) (identity_row b row) (identities_from (suc b) rows)
    (record { source = sym here; target = sym here })
    (identities_between all rows (suc b) (λ k h. ap (field_at all) (omega arith) ∙ same (suc k) (omega (arith, h))))

module _ (edition : Edition) (rows : List Row) where
  abbrev pub opening : Lattice
  opening = with_rows (no_rows edition) rows (identities_from 0 rows)

  opened : (i j : ℕ) (m : List (List ℕ)) → (i ≡ j) × (j < length rows)
      → get opening.maps (i, j) ≡ Some (identity_map (field_at rows j))
  opened i j m (e, h) = ap (λ a. get opening.maps (a, j)) e ∙ identities_hit rows 0 j j empty h (omega arith)

  only_identities : (i j : ℕ) (m : List (List ℕ)) → Stored opening i j m
      → (i ≡ j) × (j < length rows) × (m ≡ identity_map (field_at rows j))
  only_identities i j m s = ⊎_elim
      (λ both. let found = opened i j m both in let stored : get opening.maps (i, j) ≡ Some m = s.found in
      (both.0, both.1, let d : Some m ≡ Some (identity_map (field_at rows j)) = sym stored ∙ found in cc))
      (λ fails. let none : get opening.maps (i, j) ≡ None
      = identities_miss rows 0 i j empty (λ k h e d. fails (omega (arith, e, d), omega (arith, d, h))) ∙ get-empty pair_cmp (i, j) in
      let stored : get opening.maps (i, j) ≡ Some m = s.found in
      absurd (let d : Some m ≡ None = sym stored ∙ none in cc))
      (both_or_not (cases_eq i j) (⊎_elim (λ h. inl h) (λ h. inr (λ k. omega (arith, h, k))) (cases_lt j (length rows))))

  -- **the prime fields with their identities are the opening lattice**
  pub is_opening : rows ≡ map prime_row edition.primes → IsOpening opening
  is_opening e = record {
    rows = e;
    maps = λ {i} {j} {m}. (
      λ s. only_identities i j m s,
      λ (same, h, d). record { found = opened i j m (same, h) ∙ ap Some (sym d) },
    );
  }

-- ---- the calls
-- the characteristics of an edition are told as such
pub told_at : (e : declared.Edition) (ps : List ℕ) (i d : ℕ) (o : Option ℕ)
    → ps ≡ (edition_of e).primes → i < length ps
    → SomeIff o (IsCharacteristic (slice_index_or ps i d)) (slice_index_or ps i d) → IsSome o
told_at e ps i d None same h s = absurd (s (known_characteristic e (slice_index_or ps i d)
    (subst (λ qs. Contains qs (slice_index_or ps i d)) same (All-contains_itself ps i d h))))
told_at e ps i d (Some x) same h s = refl

pub open_compatible : (e : declared.Edition) (fields : List Row) (maps : List MapRow)
    → fields ≡ map prime_row (edition_of e).primes → maps ≡ identities_from 0 fields
    → IsCompatible (with_rows (no_rows (edition_of e)) fields maps)
open_compatible e fields maps same identities =
    subst (λ ms. IsCompatible (with_rows (no_rows (edition_of e)) fields ms)) (sym identities)
    (opening_law (opening (edition_of e) fields) (is_edition e) (is_opening (edition_of e) fields same))

pub open_between : (fields : List Row) (maps : List MapRow) → maps ≡ identities_from 0 fields
    → AreBetween fields maps
open_between fields maps identities = subst (AreBetween fields) (sym identities)
    (identities_between fields fields 0 (λ k h. ap (field_at fields) (omega arith)))

pub open_opening : (e : declared.Edition) (fields : List Row) (maps : List MapRow) (L : Lattice)
    → fields ≡ map prime_row (edition_of e).primes → maps ≡ identities_from 0 fields
    → L ≡ with_rows (no_rows (edition_of e)) fields maps → IsOpening L
open_opening e fields maps L same identities made = subst IsOpening (sym made)
    (subst (λ ms. IsOpening (with_rows (no_rows (edition_of e)) fields ms)) (sym identities)
    (is_opening (edition_of e) fields same))
