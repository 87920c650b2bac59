-- Where the map of each pair stands in a list, and what is stored for the pair.
use Rattle.std.proofs.Common.{◌≡◌, false, ℕ, zero, suc, ◌+◌, ◌*◌, ◌<◌, Option, Some, None, List, [], ◌∷◌, ◌++◌, length, get_or, set, map, sym, refl, ap, ◌∙◌, subst, ⊎_elim, arith, cond, get_or-set_same, get_or-set_other, append_assoc, length-append}
use Rattle.std.specs.Prelude.{◌≢◌, All, AllPairs, MatchOption, slice_index_or}
use Rattle.std.specs.FinMap.{get, insert, from_entries, get-from_entries, from_entries_push, find}
use Rattle.std.specs.Ordering.{eq_by_cmp, is_eq}
use Rattle.std.proofs.lemmas.Bool.{cases_eq, cases_Bool}
use Rattle.std.proofs.lemmas.Cmp.{tied_itself}
use Rattle.std.proofs.lemmas.List.{length_push, get_or_append_left, map-append, append-nil}
use Rattle.std.proofs.lemmas.List.Elements.{All-head, All-tail, All-push, All-nil, All-get_or, All-from_get_or}
use Rattle.alg_model.specs.Lattices.{first_edition, Row, Stored, pair_cmp}
use Rattle.alg_compatible.proofs.Tables.{pair_total, pair_antisymmetric}
use Rattle.lat_core.specs.declared.rows.MapRow.{MapRow}
use Rattle.lat_core.specs.declared.TheConstants.{MAX_FIELDS}
use Rattle.lat_core.specs.SharedRows.{IsBetween, with_maps, with_rows, no_rows}
use Rattle.lat_audit.specs.PrivateReadings.{IsBefore}
use Rattle.lat_audit.specs.PrivateFaults.{entry_of}
use Rattle.lat_audit.specs.PrivateTables.{pair_of, HasNoMap, IsMapAt, ArePlaces, lattice_with, IsTable}
use Rattle.lat_audit.proofs.StoredMaps.{pair_before, pair_tied}

-- ---- places
get_front : {X : Type 0} (xs : List X) (y : X) (k : ℕ) (d : X) → k < length xs
    → slice_index_or (xs ++ y ∷ []) k d ≡ slice_index_or xs k d
get_front [] y k d l = absurd (omega (arith, l))
get_front (x ∷ xs) y zero d l = refl
get_front (x ∷ xs) y (suc k) d l = get_front xs y k d (omega (arith, l))

get_last : {X : Type 0} (xs : List X) (y d : X) → slice_index_or (xs ++ y ∷ []) (length xs) d ≡ y
get_last [] y d = refl
get_last (x ∷ xs) y d = get_last xs y d

-- no map at all
pub none_placed : (places : List (Option ℕ)) → All (λ place. place ≡ None) places → ArePlaces [] places
none_placed places none i j li lj = by_place (slice_index_or places (MAX_FIELDS * i + j) None) (at (MAX_FIELDS * i + j)) where
  at : (q : ℕ) → slice_index_or places q None ≡ None
  at q = every places q none where
    every : (ps : List (Option ℕ)) (q : ℕ) → All (λ place. place ≡ None) ps → slice_index_or ps q None ≡ None
    every [] q h = refl
    every (p ∷ ps) zero h = All-head (λ place. place ≡ None) p ps h
    every (p ∷ ps) (suc q) h = every ps q (All-tail (λ place. place ≡ None) p ps h)

  by_place : (r : Option ℕ) → r ≡ None → MatchOption r (HasNoMap [] i j) (IsMapAt [] i j)
  by_place None e = All-nil (λ m. pair_of m ≢ (i, j))
  by_place (Some k) e = cc

-- one map more
module _ (ms : List MapRow) (m : MapRow) (places new : List (Option ℕ)) (n : ℕ) (counted : length ms ≡ n)
    (from : m.from < MAX_FIELDS) (into : m.into < MAX_FIELDS) (count : length places ≡ MAX_FIELDS * MAX_FIELDS)
    (so_far : ArePlaces ms places) (put : new ≡ set places (MAX_FIELDS * m.from + m.into) (Some n)) where
  own : (i j : ℕ) → m.from ≡ i → m.into ≡ j → slice_index_or new (MAX_FIELDS * i + j) None ≡ Some n
  own i j e f =
      let within : MAX_FIELDS * m.from + m.into < length places = omega (arith, count, from, into) in
      let same : MAX_FIELDS * i + j ≡ MAX_FIELDS * m.from + m.into = omega (arith, e, f) in
      ap (λ q. slice_index_or new q None) same ∙ ap (λ ps. slice_index_or ps (MAX_FIELDS * m.from + m.into) None) put
      ∙ get_or-set_same places (MAX_FIELDS * m.from + m.into) (Some n) None within

  other : (i j : ℕ) → j < MAX_FIELDS → (m.from ≡ i → m.into ≡ j → ⊥)
      → slice_index_or new (MAX_FIELDS * i + j) None ≡ slice_index_or places (MAX_FIELDS * i + j) None
  other i j lj apart =
      let differ : MAX_FIELDS * i + j ≢ MAX_FIELDS * m.from + m.into = λ e.
      let first : m.from ≡ i = omega (arith, e, lj, into) in
      let second : m.into ≡ j = omega (arith, e, first) in
      apart first second in
      ap (λ ps. slice_index_or ps (MAX_FIELDS * i + j) None) put
      ∙ get_or-set_other places (MAX_FIELDS * m.from + m.into) (MAX_FIELDS * i + j) (Some n) None differ

  found : (i j : ℕ) → m.from ≡ i → m.into ≡ j → IsMapAt (ms ++ m ∷ []) i j n
  found i j e f = record {
    within = omega (arith, length_push ms m, counted);
    pair = λ d. ap pair_of (ap (λ k. slice_index_or (ms ++ m ∷ []) k d) (sym counted) ∙ get_last ms m d) ∙ (λ t. (e t, f t));
  }

  kept : (i j : ℕ) (r : Option ℕ) → (m.from ≡ i → m.into ≡ j → ⊥)
      → MatchOption r (HasNoMap ms i j) (IsMapAt ms i j)
      → MatchOption r (HasNoMap (ms ++ m ∷ []) i j) (IsMapAt (ms ++ m ∷ []) i j)
  kept i j None apart none = All-push (λ x. pair_of x ≢ (i, j)) ms m none
      (λ e. apart (ap (λ (p : ℕ × ℕ). p.0) e) (ap (λ (p : ℕ × ℕ). p.1) e))
  kept i j (Some k) apart at =
      let l : k < length ms = at.within in
      record {
        within = omega (arith, length_push ms m, l);
        pair = λ d. ap pair_of (get_front ms m k d l) ∙ at.pair d;
      }

  pub placed_more : ArePlaces (ms ++ m ∷ []) new
  placed_more i j li lj = ⊎_elim
      (λ (e : m.from ≡ i). ⊎_elim
      (λ (f : m.into ≡ j). subst (λ r. MatchOption r (HasNoMap (ms ++ m ∷ []) i j) (IsMapAt (ms ++ m ∷ []) i j)) (sym (own i j e f)) (found i j e f))
      (λ apart. elsewhere (λ g h. apart h))
      (cases_eq m.into j))
      (λ apart. elsewhere (λ g h. apart g))
      (cases_eq m.from i)
    where
      elsewhere : (m.from ≡ i → m.into ≡ j → ⊥)
          → MatchOption (slice_index_or new (MAX_FIELDS * i + j) None) (HasNoMap (ms ++ m ∷ []) i j) (IsMapAt (ms ++ m ∷ []) i j)
      elsewhere apart = subst (λ r. MatchOption r (HasNoMap (ms ++ m ∷ []) i j) (IsMapAt (ms ++ m ∷ []) i j))
          (sym (other i j lj apart)) (kept i j (slice_index_or places (MAX_FIELDS * i + j) None) apart (so_far i j li lj))

-- ---- what is stored
apart_pair : (q p : ℕ × ℕ) → (p ≡ q → ⊥) → eq_by_cmp pair_cmp q p ≡ false
apart_pair q p differ = ⊎_elim
    (λ t. let same = pair_tied q p t in
    let equal : ◌≡◌ {A = ℕ × ℕ} p q = λ i. (sym same.0 i, sym same.1 i) in absurd (differ equal))
    (λ f. f)
    (cases_Bool (eq_by_cmp pair_cmp q p))

found_none : (maps : List MapRow) (i j : ℕ) → HasNoMap maps i j
    → find pair_cmp (i, j) (map entry_of maps) ≡ None
found_none [] i j none = refl
found_none (m ∷ ms) i j none =
    ap (λ b. cond b (Some m.map.images) (find pair_cmp (i, j) (map entry_of ms)))
    (apart_pair (i, j) (pair_of m) (All-head (λ x. pair_of x ≢ (i, j)) m ms none))
    ∙ found_none ms i j (All-tail (λ x. pair_of x ≢ (i, j)) m ms none)

not_itself : (a b : ℕ × ℕ) → IsBefore a b → a ≡ b → ⊥
not_itself a b before same =
    let first : a.0 ≡ b.0 = ap (λ (p : ℕ × ℕ). p.0) same in
    let second : a.1 ≡ b.1 = ap (λ (p : ℕ × ℕ). p.1) same in
    ⊎_elim (λ l. omega (arith, first, l)) (λ (e, l). omega (arith, second, l)) (pair_before a b before)

found_at : (maps : List MapRow) (i j k : ℕ) (d : MapRow)
    → AllPairs (λ a b. IsBefore (pair_of a) (pair_of b)) maps → k < length maps
    → pair_of (slice_index_or maps k d) ≡ (i, j)
    → find pair_cmp (i, j) (map entry_of maps) ≡ Some (slice_index_or maps k d).map.images
found_at [] i j k d rising l is = absurd (omega (arith, l))
found_at (m ∷ ms) i j zero d rising l is =
    ap (λ b. cond b (Some m.map.images) (find pair_cmp (i, j) (map entry_of ms)))
    (ap (λ (p : ℕ × ℕ). eq_by_cmp pair_cmp (i, j) p) is ∙ ap is_eq (tied_itself pair_total (i, j)))
found_at (m ∷ ms) i j (suc k) d rising l is =
    let before : IsBefore (pair_of m) (pair_of (slice_index_or ms k d)) = rising 0 (suc k) d (omega arith) l in
    ap (λ b. cond b (Some m.map.images) (find pair_cmp (i, j) (map entry_of ms)))
    (apart_pair (i, j) (pair_of m) (not_itself (pair_of m) (i, j) (subst (IsBefore (pair_of m)) is before)))
    ∙ found_at ms i j k d (λ a b e p q. rising (suc a) (suc b) e (omega (arith, p)) (omega (arith, q))) (omega (arith, l)) is

module _ (rows : List Row) (maps : List MapRow) (places : List (Option ℕ)) (T : IsTable rows maps places)
    (i j : ℕ) (li : i < length rows) (lj : j < length rows) where
  placed_at : MatchOption (slice_index_or places (MAX_FIELDS * i + j) None) (HasNoMap maps i j) (IsMapAt maps i j)
  placed_at = let few = T.few in T.placed i j (omega (arith, few, li)) (omega (arith, few, lj))

  pub table_none : slice_index_or places (MAX_FIELDS * i + j) None ≡ None
      → get (lattice_with rows maps).maps (i, j) ≡ None
  table_none e = get-from_entries pair_total (map entry_of maps) (i, j)
      ∙ found_none maps i j (subst (λ r. MatchOption r (HasNoMap maps i j) (IsMapAt maps i j)) e placed_at)

  pub table_at : (k : ℕ) → slice_index_or places (MAX_FIELDS * i + j) None ≡ Some k → IsMapAt maps i j k
  table_at k e = subst (λ r. MatchOption r (HasNoMap maps i j) (IsMapAt maps i j)) e placed_at

  pub table_stored : (k : ℕ) (m : MapRow) → IsMapAt maps i j k → m ≡ slice_index_or maps k m
      → Stored (lattice_with rows maps) i j m.map.images × IsBetween rows i j m.map
  table_stored k m at is =
      let pair : pair_of m ≡ (i, j) = ap pair_of is ∙ at.pair m in
      let first : m.from ≡ i = ap (λ (p : ℕ × ℕ). p.0) pair in
      let second : m.into ≡ j = ap (λ (p : ℕ × ℕ). p.1) pair in
      let own : IsBetween rows m.from m.into m.map =
      subst (λ (x : MapRow). IsBetween rows x.from x.into x.map) (sym is)
      (All-get_or (λ (x : MapRow). IsBetween rows x.from x.into x.map) maps k m at.within T.between) in (
        record {
          found = get-from_entries pair_total (map entry_of maps) (i, j) ∙ found_at maps i j k m T.rising at.within (at.pair m)
              ∙ ap (λ (x : MapRow). Some x.map.images) (sym is);
        },
        subst (λ (n : ℕ). IsBetween rows i n m.map) second (subst (λ (n : ℕ). IsBetween rows n m.into m.map) first own),
      )

-- ---- the same lattice, by putting the maps in one after the other
before_next : (done ms : List MapRow) (m : MapRow)
    → AllPairs (λ a b. IsBefore (pair_of a) (pair_of b)) (done ++ m ∷ ms) → HasNoMap done m.from m.into
before_next done ms m rising = All-from_get_or (λ x. pair_of x ≢ (m.from, m.into)) done m
    (λ k l. not_itself (pair_of (get_or done k m)) (pair_of m)
    (subst (λ (x : MapRow). IsBefore (pair_of x) (pair_of m)) (get_or_append_left done (m ∷ ms) m k l)
    (subst (λ (x : MapRow). IsBefore (pair_of (get_or (done ++ m ∷ ms) k m)) (pair_of x)) (at_seam done ms m)
    (rising k (length done) m l (omega (arith, length-append done (m ∷ ms)))))))
  where
    at_seam : (done ms : List MapRow) (m : MapRow) → get_or (done ++ m ∷ ms) (length done) m ≡ m
    at_seam [] ms m = refl
    at_seam (x ∷ done) ms m = at_seam done ms m

all_put_in : (done ms : List MapRow)
    → AllPairs (λ a b. IsBefore (pair_of a) (pair_of b)) (done ++ ms)
    → with_maps (from_entries (map entry_of done)) ms ≡ from_entries (map entry_of (done ++ ms))
all_put_in done [] rising = ap (λ xs. from_entries (map entry_of xs)) (sym (append-nil done))
all_put_in done (m ∷ ms) rising =
    let split : (done ++ m ∷ []) ++ ms ≡ done ++ m ∷ ms = append_assoc done (m ∷ []) ms in
    let pushed : from_entries (map entry_of (done ++ m ∷ [])) ≡ insert (from_entries (map entry_of done)) (pair_of m) m.map.images =
    ap from_entries (map-append entry_of done (m ∷ []))
    ∙ from_entries_push pair_total pair_antisymmetric (map entry_of done) (pair_of m) m.map.images (found_none done m.from m.into (before_next done ms m rising)) in
    ap (λ M. with_maps M ms) (sym pushed)
    ∙ all_put_in (done ++ m ∷ []) ms (subst (AllPairs (λ a b. IsBefore (pair_of a) (pair_of b))) (sym split) rising)
    ∙ ap (λ xs. from_entries (map entry_of xs)) split

pub table_with_rows : (rows : List Row) (maps : List MapRow)
    → AllPairs (λ a b. IsBefore (pair_of a) (pair_of b)) maps
    → with_rows (no_rows first_edition) rows maps ≡ lattice_with rows maps
table_with_rows rows maps rising = ap (λ M. record { edition = first_edition; rows = rows; maps = M }) (all_put_in [] maps rising)

-- what is found is a map of the list
found_within : (rows : List Row) (maps : List MapRow) (q : ℕ × ℕ) (m : List (List ℕ))
    → All (λ x. (x.from < length rows) × (x.into < length rows)) maps
    → find pair_cmp q (map entry_of maps) ≡ Some m → (q.0 < length rows) × (q.1 < length rows)
found_within rows [] q m all e = cc
found_within rows (x ∷ ms) q m all e = ⊎_elim
    (λ t.
    let same = pair_tied q (pair_of x) t in
    let own = All-head (λ x. (x.from < length rows) × (x.into < length rows)) x ms all in
    (omega (arith, same.0, own.0), omega (arith, same.1, own.1)))
    (λ f. found_within rows ms q m (All-tail (λ x. (x.from < length rows) × (x.into < length rows)) x ms all)
    (sym (ap (λ b. cond b (Some x.map.images) (find pair_cmp q (map entry_of ms))) f) ∙ e))
    (cases_Bool (eq_by_cmp pair_cmp q (pair_of x)))

pub table_within : (rows : List Row) (maps : List MapRow)
    → All (λ x. (x.from < length rows) × (x.into < length rows)) maps
    → (i j : ℕ) (m : List (List ℕ)) → Stored (lattice_with rows maps) i j m
    → (i < length rows) × (j < length rows)
table_within rows maps all i j m s =
    found_within rows maps (i, j) m all (sym (get-from_entries pair_total (map entry_of maps) (i, j)) ∙ s.found)
