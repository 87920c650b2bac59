-- The rows of a lattice with rows and maps added, and what they store.
use Rattle.std.proofs.Common.{◌≡◌, ◌≢◌, ⊎_elim, ℕ, zero, suc, ◌+◌, ◌<◌, ◌≤◌, ◌==◌, if◌then◌else◌, List, [], ◌∷◌, ◌++◌, map, take, length, slice_index_or, refl, sym, ap, ap₂, ◌∙◌, subst, cond, true, false, Bool, arith, Option, Some, None, length-take}
use Rattle.std.specs.Option.{option_map}
use Rattle.std.specs.Cmp.{unsigned_tied}
use Rattle.std.specs.Ordering.{nat_cmp, eq_by_cmp}
use Rattle.std.specs.FinMap.{FinMap, get, insert, empty, get-empty, get-insert, same_map}
use Rattle.std.proofs.lemmas.Bool.{cases_lt, cases_Bool}
use Rattle.std.proofs.lemmas.Bool.Decides.{nat_tests}
use Rattle.std.proofs.lemmas.Cmp.{nat_cmp_total}
use Rattle.std.proofs.lemmas.List.{length-map, map-append, append_assoc, take_more, get_or_past, get_or_append_left}
use Rattle.std.proofs.lemmas.List.Elements.{All-head, All-tail}
use Rattle.alg_model.specs.Lattices.{Edition, Lattice, Row, no_row, pair_cmp, IsCompatible}
use Rattle.alg_compatible.proofs.Tables.{pair_total, pair_antisymmetric}
use Rattle.ff_embed.specs.SmallEmbeddings.{FieldMap}
use Rattle.lat_core.specs.declared.rows.MapRow.{MapRow}
use Rattle.lat_core.specs.SharedRows.{RowMaps, IsBetween, with_maps, with_rows, AreBetween, no_rows}
use Rattle.lat_core.specs.PrivateLattices.{no_maps, new_row, row_put, row_with, rows_with, lattice_of, AreKept}
use Rattle.lat_core.proofs.KeptMaps.{lattice_get, images_into, cond_map, same_first, other_first}

-- ---- rows with maps put in
pub rows_with_append : (rs ss : List RowMaps) (b : ℕ) (ms : List MapRow)
    → rows_with b (rs ++ ss) ms ≡ rows_with b rs ms ++ rows_with (b + length rs) ss ms
rows_with_append [] ss b ms = ap (λ n. rows_with n ss ms) (omega arith)
rows_with_append (r ∷ rs) ss b ms = ap (λ xs. row_with b r ms ∷ xs)
    (rows_with_append rs ss (suc b) ms
    ∙ ap (λ n. rows_with (suc b) rs ms ++ rows_with n ss ms) (omega arith))

pub rows_with_length : (rs : List RowMaps) (b : ℕ) (ms : List MapRow)
    → length (rows_with b rs ms) ≡ length rs
rows_with_length [] b ms = refl
rows_with_length (r ∷ rs) b ms = ap suc (rows_with_length rs (suc b) ms)

rows_with_at : (rs : List RowMaps) (b k n : ℕ) (ms : List MapRow) → k < length rs → n ≡ b + k
    → slice_index_or (rows_with b rs ms) k no_maps ≡ row_with n (slice_index_or rs k no_maps) ms
rows_with_at [] b k n ms h e = absurd (omega (arith, h))
rows_with_at (r ∷ rs) b zero n ms h e = ap (λ i. row_with i r ms) (omega (arith, e))
rows_with_at (r ∷ rs) b (suc k) n ms h e = rows_with_at rs (suc b) k n ms (omega (arith, h)) (omega (arith, e))

-- the loops that build them: one row more
pub pushed_row : {A B : Type 0} (f : A → RowMaps) (g : B → RowMaps) (before : List RowMaps)
    (xs : List B) (x : B) (items : List A) (new : A) (b i n : ℕ) (ms : List MapRow)
    → map f items ≡ before ++ rows_with b (map g (take i xs)) ms → i < length xs
    → x ≡ slice_index_or xs i x → n ≡ b + i → f new ≡ row_with n (g x) ms
    → map f (items ++ new ∷ []) ≡ before ++ rows_with b (map g (take (i + 1) xs)) ms
pushed_row f g before xs x items new b i n ms so_far h at e made =
    map-append f items (new ∷ [])
    ∙ ap₂ (λ ys y. ys ++ y ∷ []) so_far (made ∙ ap₂ (λ k y. row_with k (g y) ms) (e ∙ ap (λ l. b + l) (sym count)) at)
    ∙ append_assoc before _ _
    ∙ ap (λ ys. before ++ ys)
    (sym (ap (λ ys. rows_with b ys ms) (ap (map g) (take_more xs i x h) ∙ map-append g (take i xs) (slice_index_or xs i x ∷ []))
    ∙ rows_with_append (map g (take i xs)) (g (slice_index_or xs i x) ∷ []) b ms))
  where
    count : length (map g (take i xs)) ≡ i
    count = length-map (take i xs) g ∙ omega (arith, length-take i xs, h)

-- ---- the named fields stay
row_kept : (ms : List MapRow) (n : ℕ) (r : RowMaps) → (row_with n r ms).row ≡ r.row
row_kept [] n r = refl
row_kept (m ∷ ms) n r = row_kept ms n (row_put n r m) ∙ put (m.from == n)
  where
    put : (b : Bool)
        → (if b then record { row = r.row; maps = insert r.maps m.into m.map } else r).row ≡ r.row
    put true = refl
    put false = refl

rows_kept : (rs : List RowMaps) (b : ℕ) (ms : List MapRow)
    → map (λ r. r.row) (rows_with b rs ms) ≡ map (λ r. r.row) rs
rows_kept [] b ms = refl
rows_kept (r ∷ rs) b ms = ap₂ ◌∷◌ (row_kept ms b r) (rows_kept rs (suc b) ms)

new_rows : (fs : List Row) → map (λ r. r.row) (map new_row fs) ≡ fs
new_rows [] = refl
new_rows (f ∷ fs) = ap (λ gs. f ∷ gs) (new_rows fs)

-- ---- what a row stores afterwards
put_here : (n : ℕ) (r : RowMaps) (m : MapRow) → (m.from == n) ≡ true
    → row_put n r m ≡ record { row = r.row; maps = insert r.maps m.into m.map }
put_here n r m e = ap (λ b. if b then record { row = r.row; maps = insert r.maps m.into m.map } else r) e

put_elsewhere : (n : ℕ) (r : RowMaps) (m : MapRow) → (m.from == n) ≡ false → row_put n r m ≡ r
put_elsewhere n r m e = ap (λ b. if b then record { row = r.row; maps = insert r.maps m.into m.map } else r) e

pub same_number : (a n : ℕ) → (a == n) ≡ true → a ≡ n
same_number a n e = grind (arith, nat_tests, e)

other_number : (a n : ℕ) → (a == n) ≡ false → n ≢ a
other_number a n e f = absurd (grind (arith, nat_tests, e, f))

-- one map put in
put_same : (n : ℕ) (r : RowMaps) (m : MapRow) (M : FinMap pair_cmp (List (List ℕ)))
    → ((j : ℕ) → images_into r j ≡ get M (n, j))
    → (j : ℕ) → images_into (row_put n r m) j ≡ get (insert M (m.from, m.into) m.map.images) (n, j)
put_same n r m M same j = ⊎_elim here elsewhere (cases_Bool (m.from == n))
  where
    here : (m.from == n) ≡ true
        → images_into (row_put n r m) j ≡ get (insert M (m.from, m.into) m.map.images) (n, j)
    here e =
        ap (λ s. images_into s j) (put_here n r m e)
        ∙ ap (option_map (λ x. x.images)) (get-insert nat_cmp_total r.maps m.into m.map j)
        ∙ sym (cond_map (λ x. x.images) (eq_by_cmp nat_cmp j m.into) m.map (get r.maps j))
        ∙ ap₂ (λ b o. cond b (Some m.map.images) o) (sym (same_first n j m.into)) (same j)
        ∙ sym (get-insert pair_total M (n, m.into) m.map.images (n, j))
        ∙ ap (λ a. get (insert M (a, m.into) m.map.images) (n, j)) (sym (same_number m.from n e))

    elsewhere : (m.from == n) ≡ false
        → images_into (row_put n r m) j ≡ get (insert M (m.from, m.into) m.map.images) (n, j)
    elsewhere e =
        ap (λ s. images_into s j) (put_elsewhere n r m e)
        ∙ same j
        ∙ ap (λ b. cond b (Some m.map.images) (get M (n, j))) (sym (other_first n j m.from m.into (other_number m.from n e)))
        ∙ sym (get-insert pair_total M (m.from, m.into) m.map.images (n, j))

-- and all of them
with_same : (ms : List MapRow) (n : ℕ) (r : RowMaps) (M : FinMap pair_cmp (List (List ℕ)))
    → ((j : ℕ) → images_into r j ≡ get M (n, j))
    → (j : ℕ) → images_into (row_with n r ms) j ≡ get (with_maps M ms) (n, j)
with_same [] n r M same j = same j
with_same (m ∷ ms) n r M same j = with_same ms n (row_put n r m) (insert M (m.from, m.into) m.map.images)
    (put_same n r m M same) j

-- new fields store nothing before
new_empty : (fs : List Row) (k : ℕ) → (slice_index_or (map new_row fs) k no_maps).maps ≡ empty
new_empty [] k = refl
new_empty (f ∷ fs) zero = refl
new_empty (f ∷ fs) (suc k) = new_empty fs k

added_empty : (rs : List RowMaps) (fs : List Row) (k : ℕ)
    → (slice_index_or (rs ++ map new_row fs) k no_maps).maps ≡ (slice_index_or rs k no_maps).maps
added_empty [] fs k = new_empty fs k
added_empty (r ∷ rs) fs zero = refl
added_empty (r ∷ rs) fs (suc k) = added_empty rs fs k

module _ (edition : Edition) (rs : List RowMaps) (fs : List Row) (ms : List MapRow) where
  abbrev all : List RowMaps
  all = rs ++ map new_row fs

  abbrev after : List RowMaps
  after = rows_with 0 all ms

  rows_after : map (λ r. r.row) after ≡ map (λ r. r.row) rs ++ fs
  rows_after = rows_kept all 0 ms ∙ map-append (λ r. r.row) rs (map new_row fs)
      ∙ ap (λ gs. map (λ r. r.row) rs ++ gs) (new_rows fs)

  count_after : length after ≡ length (map (λ r. r.row) rs ++ fs)
  count_after = sym (length-map after (λ r. r.row)) ∙ ap length rows_after

  at_number : (i : ℕ) → i < length after
      → slice_index_or after i no_maps ≡ row_with i (slice_index_or all i no_maps) ms
  at_number i h = rows_with_at all 0 i i ms (omega (arith, h, rows_with_length all 0 ms)) (omega arith)

  past : (i j : ℕ) → length after ≤ i → get (slice_index_or after i no_maps).maps j ≡ None
  past i j h = ap (λ r. get r.maps j) (get_or_past after i no_maps h) ∙ get-empty nat_cmp j

  -- what is stored for a pair
  maps_after : IsCompatible (with_rows (lattice_of edition rs) fs ms) → (q : ℕ × ℕ)
      → get (lattice_of edition after).maps q ≡ get (with_rows (lattice_of edition rs) fs ms).maps q
  maps_after C q = lattice_get edition after q.0 q.1 ∙ ⊎_elim inside outside (cases_lt q.0 (length after))
    where
      inside : q.0 < length after → images_into (slice_index_or after q.0 no_maps) q.1
          ≡ get (with_rows (lattice_of edition rs) fs ms).maps q
      inside h = ap (λ r. images_into r q.1) (at_number q.0 h)
          ∙ with_same ms q.0 (slice_index_or all q.0 no_maps) (lattice_of edition rs).maps
          (λ j. ap (λ m. option_map (λ e. e.images) (get m j)) (added_empty rs fs q.0) ∙ sym (lattice_get edition rs q.0 j)) q.1

      found : (o : Option (List (List ℕ))) → get (with_rows (lattice_of edition rs) fs ms).maps q ≡ o
          → length after ≤ q.0 → o ≡ None
      found None e h = refl
      found (Some m) e h =
          let w = (C.compatible.within {i = q.0} {j = q.1} (record { found = e })).0 in
          absurd (omega (arith, w, h, count_after))

      outside : length after ≤ q.0 → images_into (slice_index_or after q.0 no_maps) q.1
          ≡ get (with_rows (lattice_of edition rs) fs ms).maps q
      outside h = ap (option_map (λ e. e.images)) (past q.0 q.1 h)
          ∙ sym (found (get (with_rows (lattice_of edition rs) fs ms).maps q) refl h)

  -- **the lattice of the rows afterwards is the lattice with the rows and maps added**
  lattice_after : IsCompatible (with_rows (lattice_of edition rs) fs ms)
      → lattice_of edition after ≡ with_rows (lattice_of edition rs) fs ms
  lattice_after C =
      let maps : (lattice_of edition after).maps ≡ (with_rows (lattice_of edition rs) fs ms).maps
      = same_map pair_total pair_antisymmetric _ _ (maps_after C) in
      λ i. record { edition = edition; rows = rows_after i; maps = maps i }

-- ---- where the embeddings go
put_between : (P : ℕ → FieldMap → Type 0) (n : ℕ) (r : RowMaps) (m : MapRow)
    → ((j : ℕ) (e : FieldMap) → get r.maps j ≡ Some e → P j e) → (m.from ≡ n → P m.into m.map)
    → (j : ℕ) (e : FieldMap) → get (row_put n r m).maps j ≡ Some e → P j e
put_between P n r m old new j e f = ⊎_elim here elsewhere (cases_Bool (m.from == n))
  where
    stored : m.from ≡ n → (b : Bool) → eq_by_cmp nat_cmp j m.into ≡ b
        → cond b (Some m.map) (get r.maps j) ≡ Some e → P j e
    stored d true tied g =
        let same : j ≡ m.into = same_number j m.into (sym (unsigned_tied j m.into) ∙ tied) in
        let map_is : m.map ≡ e = cc in
        subst (λ k. P k e) (sym same) (subst (P m.into) map_is (new d))
    stored d false tied g = old j e g

    here : (m.from == n) ≡ true → P j e
    here d = stored (same_number m.from n d) (eq_by_cmp nat_cmp j m.into) refl
        (sym (get-insert nat_cmp_total r.maps m.into m.map j) ∙ ap (λ s. get s.maps j) (sym (put_here n r m d)) ∙ f)

    elsewhere : (m.from == n) ≡ false → P j e
    elsewhere d = old j e (ap (λ s. get s.maps j) (sym (put_elsewhere n r m d)) ∙ f)

with_between : (rows : List Row) (ms : List MapRow) (n : ℕ) (r : RowMaps) → AreBetween rows ms
    → ((j : ℕ) (e : FieldMap) → get r.maps j ≡ Some e → IsBetween rows n j e)
    → (j : ℕ) (e : FieldMap) → get (row_with n r ms).maps j ≡ Some e → IsBetween rows n j e
with_between rows [] n r B old j e f = old j e f
with_between rows (m ∷ ms) n r B old j e f = with_between rows ms n (row_put n r m)
    (All-tail (λ x. IsBetween rows x.from x.into x.map) m ms B)
    (put_between (IsBetween rows n) n r m old
    (λ d. subst (λ k. IsBetween rows k m.into m.map) d (All-head (λ x. IsBetween rows x.from x.into x.map) m ms B))) j e f

-- the old embeddings go between fields of the rows afterwards
abbrev pub OldBetween : List RowMaps → List Row → Type 0
OldBetween rs fs = (i j : ℕ) (e : FieldMap) → get (slice_index_or rs i no_maps).maps j ≡ Some e
    → IsBetween (map (λ r. r.row) rs ++ fs) i j e

-- **a lattice with rows and maps added is kept, and it is the lattice that is asked for**
pub grown_kept : (edition : Edition) (rs : List RowMaps) (fs : List Row) (ms : List MapRow)
    (items : List RowMaps) → items ≡ rows_with 0 (rs ++ map new_row fs) ms → OldBetween rs fs
    → IsCompatible (with_rows (lattice_of edition rs) fs ms)
    → AreBetween (map (λ r. r.row) rs ++ fs) ms
    → AreKept edition items × (lattice_of edition items ≡ with_rows (lattice_of edition rs) fs ms)
grown_kept edition rs fs ms items e old C B = subst
    (λ xs. AreKept edition xs × (lattice_of edition xs ≡ with_rows (lattice_of edition rs) fs ms)) (sym e) (
      record { compatible = subst IsCompatible (sym (lattice_after edition rs fs ms C)) C; between = λ {i} {j} {e = x} f. between i j x f },
      lattice_after edition rs fs ms C,
    )
  where
    between : (i j : ℕ) (x : FieldMap)
        → get (slice_index_or (after edition rs fs ms) i no_maps).maps j ≡ Some x
        → IsBetween (map (λ r. r.row) (after edition rs fs ms)) i j x
    between i j x f = subst (λ rows. IsBetween rows i j x) (sym (rows_after edition rs fs ms)) (⊎_elim
        (λ h. with_between (map (λ r. r.row) rs ++ fs) ms i (slice_index_or (rs ++ map new_row fs) i no_maps) B
        (λ k e g. old i k e (ap (λ m. get m k) (sym (added_empty rs fs i)) ∙ g)) j x
        (ap (λ r. get r.maps j) (sym (at_number edition rs fs ms i h)) ∙ f))
        (λ h. let none = past edition rs fs ms i j h in absurd (let d : Some x ≡ None = sym f ∙ none in cc))
        (cases_lt i (length (after edition rs fs ms))))

-- as many rows stand in the list as were there
pub grown_length : {A : Type 0} (f : A → RowMaps) (grown items : List A) (ms : List MapRow)
    → map f grown ≡ rows_with 0 (map f items) ms → length grown ≡ length items
grown_length f grown items ms e =
    sym (length-map grown f) ∙ ap length e ∙ rows_with_length (map f items) 0 ms ∙ length-map items f

-- ---- the two calls
-- from a lattice that is kept
old_between : (edition : Edition) (rs : List RowMaps) (fs : List Row) → AreKept edition rs
    → OldBetween rs fs
old_between edition rs fs K i j e f =
    let found : get (lattice_of edition rs).maps (i, j) ≡ Some e.images
    = lattice_get edition rs i j ∙ ap (option_map (λ x. x.images)) f in
    let (inside, within) = K.compatible.compatible.within {i = i} {j = j} (record { found = found }) in
    let b = K.between {i = i} {j = j} {e = e} f in
    let rows = map (λ r. r.row) rs in record {
      source = b.source ∙ sym (ap (λ r. r.field) (get_or_append_left rows fs no_row i inside));
      target = b.target ∙ sym (ap (λ r. r.field) (get_or_append_left rows fs no_row j within));
    }

-- what a caller shows of a lattice that it sees
pub grown_lattice : (edition : Edition) (rs : List RowMaps) (L : Lattice) (fs : List Row)
    (ms : List MapRow) (items : List RowMaps) → AreKept edition rs → lattice_of edition rs ≡ L
    → items ≡ rows_with 0 (rs ++ map new_row fs) ms → IsCompatible (with_rows L fs ms)
    → AreBetween (L.rows ++ fs) ms
    → AreKept edition items × (lattice_of edition items ≡ with_rows L fs ms)
grown_lattice edition rs L fs ms items K v e = subst
    (λ M. IsCompatible (with_rows M fs ms) → AreBetween (M.rows ++ fs) ms → AreKept edition items × (lattice_of edition items ≡ with_rows M fs ms))
    v (grown_kept edition rs fs ms items e (old_between edition rs fs K))

-- from no rows
pub lattice_of_rows : (edition : Edition) (fs : List Row) (ms : List MapRow) (items : List RowMaps)
    → items ≡ rows_with 0 (map new_row fs) ms → IsCompatible (with_rows (no_rows edition) fs ms)
    → AreBetween fs ms
    → AreKept edition items × (lattice_of edition items ≡ with_rows (no_rows edition) fs ms)
lattice_of_rows edition fs ms items e = grown_kept edition [] fs ms items e
    (λ i j x f. absurd (let d : Some x ≡ None = sym f ∙ get-empty nat_cmp j in cc))
