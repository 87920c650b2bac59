-- How many entries a finite map has that is made of a list, and how many maps a lattice.
--     AreApart R es     no key of the list is found after it
use Rattle.std.proofs.Common.{◌≡◌, ℕ, zero, suc, ◌+◌, ◌<◌, ◌≤◌, List, [], ◌∷◌, ◌++◌, map, length, refl, sym, ap, ap₂, ◌∙◌, subst, cond, true, false, Bool, arith, Option, Some, None, is_some, slice_index_or, Ordering, Less, Equal, Greater, nat_eq, length-append, ⊎_elim}
use Rattle.std.proofs.lemmas.Bool.{cases_eq, and_parts}
use Rattle.std.proofs.lemmas.List.{length-map, get_or-map}
use Rattle.std.specs.Prelude.{All}
use Rattle.std.proofs.Math.Dec.{T}
use Rattle.std.specs.Cmp.{IsTotalOrder, unsigned_tied}
use Rattle.std.specs.List.{IsDistinct, AllByRecursion, sum_by}
use Rattle.std.proofs.lemmas.List.Sums.{sum_by-cons}
use Rattle.std.specs.Map.{keys_of}
use Rattle.std.specs.Option.{option_map}
use Rattle.std.specs.Ordering.{nat_cmp, eq_by_cmp, is_eq, is_lt}
use Rattle.std.specs.FinMap.{FinMap, get, len, entries, find, empty, from_entries, insert, is_sorted, contains_key, get-insert, len-insert, len-empty, get-from_entries, len-entries, entries_sorted}
use Rattle.std.specs.FinMap.Entries.{below_all}
use Rattle.std.proofs.lemmas.Cmp.{nat_cmp_total, tied_itself}
use Rattle.alg_model.specs.Lattices.{Edition, Lattice, pair_cmp}
use Rattle.alg_compatible.proofs.Tables.{pair_total}
use Rattle.ff_embed.specs.SmallEmbeddings.{FieldMap}
use Rattle.lat_core.specs.declared.editions.Edition as declared
use Rattle.lat_core.specs.declared.TheConstants.{MAX_FIELDS}
use Rattle.lat_core.specs.Editions.{edition_of}
use Rattle.lat_core.specs.SharedRows.{RowMaps, map_count}
use Rattle.lat_core.specs.PrivateLattices.{AreKept, no_maps, maps_of, entries_from, entries_of, lattice_of}
use Rattle.lat_core.proofs.MapCounts.{not_smaller}
use Rattle.lat_core.proofs.KeptMaps.{lattice_get, or_else_first, find_append, from_same, before_all}

abbrev pub AreApart : {K X : Type 0} → (K → K → Ordering) → List (K × X) → Type 0
AreApart R [] = Unit {0}
AreApart R (e ∷ es) = (find R e.0 es ≡ None) × AreApart R es

-- each entry of such a list is one of the map
pub len_of_list : {K X : Type 0} {R : K → K → Ordering} → IsTotalOrder R → (es : List (K × X))
    → AreApart R es → len (from_entries {R = R} es) ≡ length es
len_of_list {X = X} {R = R} T [] h = len-empty R X
len_of_list {R = R} T (e ∷ es) (new, h) =
    let here : is_some (get (from_entries {R = R} es) e.0) ≡ false = ap is_some (get-from_entries T es e.0 ∙ new) in
    let more : len (from_entries {R = R} (e ∷ es)) ≡ len (from_entries {R = R} es) + 1
    = len-insert T (from_entries es) e.0 e.1 ∙ ap (λ b. cond b (len (from_entries {R = R} es)) (len (from_entries {R = R} es) + 1)) here in
    let rest : len (from_entries {R = R} es) ≡ length es = len_of_list T es h in
    omega (arith, more, rest)

-- ---- the table of a row
other_keys : {X : Type 0} (k : ℕ) (es : List (ℕ × X))
    → AllByRecursion (λ q. nat_eq k q ≡ false) (keys_of es) → find nat_cmp k es ≡ None
other_keys k [] h = refl
other_keys k (e ∷ es) (apart, h) = ap₂ (λ b r. cond b (Some e.1) r) (unsigned_tied k e.0 ∙ apart) (other_keys k es h)

mapped_keys : {A X : Type 0} (f : A → X) (es : List (ℕ × A))
    → keys_of (map {B = ℕ × X} (λ e. (e.0, f e.1)) es) ≡ keys_of es
mapped_keys f [] = refl
mapped_keys f (e ∷ es) = ap (λ ks. e.0 ∷ ks) (mapped_keys f es)

distinct_apart : {X : Type 0} (es : List (ℕ × X)) → IsDistinct nat_eq (keys_of es)
    → AreApart nat_cmp es
unfolding IsDistinct
distinct_apart [] h = tt
distinct_apart (e ∷ es) (apart, h) = (other_keys e.0 es apart, distinct_apart es h)

-- a row has as many maps as its table
pub len_of_table : {A : Type 0} (f : A → FieldMap) (es : List (ℕ × A))
    → IsDistinct nat_eq (keys_of es)
    → len (maps_of (map (λ e. (e.0, f e.1)) es)) ≡ length es
len_of_table f es h =
    len_of_list nat_cmp_total (map (λ e. (e.0, f e.1)) es)
    (distinct_apart (map {B = ℕ × FieldMap} (λ e. (e.0, f e.1)) es) (subst (IsDistinct nat_eq) (sym (mapped_keys f es)) h))
    ∙ length-map es (λ e. (e.0, f e.1))

-- ---- all rows
less_apart : (r : Ordering) → is_lt r ≡ true → is_eq r ≡ false
less_apart Less e = refl
less_apart Equal e = cc
less_apart Greater e = refl

told : (b : Bool) → T b → b ≡ true
told true h = refl
told false h = absurd h

above_apart : {X : Type 0} (k : ℕ) (es : List (ℕ × X)) → below_all nat_cmp k es ≡ true
    → find nat_cmp k es ≡ None
above_apart k [] h = refl
above_apart k (e ∷ es) h =
    let (first, rest) = and_parts (is_lt (nat_cmp k e.0)) (below_all nat_cmp k es) h in
    ap₂ (λ b r. cond b (Some e.1) r) (less_apart (nat_cmp k e.0) first) (above_apart k es rest)

sorted_apart : {X : Type 0} (es : List (ℕ × X)) → is_sorted nat_cmp es ≡ true → AreApart nat_cmp es
sorted_apart [] h = tt
sorted_apart (e ∷ es) h =
    let (first, rest) = and_parts (below_all nat_cmp e.0 es) (is_sorted nat_cmp es) h in
    (above_apart e.0 es first, sorted_apart es rest)

append_apart : (i : ℕ) (es : List (ℕ × FieldMap)) (rest : List ((ℕ × ℕ) × List (List ℕ)))
    → AreApart nat_cmp es → ((j : ℕ) → find pair_cmp (i, j) rest ≡ None) → AreApart pair_cmp rest
    → AreApart pair_cmp (entries_from i es ++ rest)
append_apart i [] rest a none b = b
append_apart i (e ∷ es) rest (new, a) none b = (
  find_append pair_cmp (i, e.0) (entries_from i es) rest
      ∙ or_else_first _ _ (from_same i e.0 es ∙ ap (option_map (λ m. m.images)) new)
      ∙ none e.0,
  append_apart i es rest a none b,
)

rows_apart : (rs : List RowMaps) (b : ℕ) → AreApart pair_cmp (entries_of b rs)
rows_apart [] b = tt
rows_apart (r ∷ rs) b = append_apart b (entries r.maps) (entries_of (suc b) rs)
    (sorted_apart (entries r.maps) (told _ (entries_sorted r.maps)))
    (λ j. before_all b j (suc b) rs (omega arith)) (rows_apart rs (suc b))

length_of_rows : (rs : List RowMaps) (b : ℕ)
    → length (entries_of b rs) ≡ sum_by (λ r. len r.maps) rs
length_of_rows [] b = refl
length_of_rows (r ∷ rs) b =
    length-append (entries_from b (entries r.maps)) (entries_of (suc b) rs)
    ∙ ap₂ ◌+◌ (length-map (entries r.maps) (λ e. ((b, e.0), e.1.images)) ∙ sym (len-entries r.maps)) (length_of_rows rs (suc b))
    ∙ sym (sum_by-cons (λ r. len r.maps) r rs)

-- **a lattice has as many maps as its rows together**
pub map_count_of_rows : (edition : Edition) (rs : List RowMaps)
    → map_count (lattice_of edition rs) ≡ sum_by (λ r. len r.maps) rs
map_count_of_rows edition rs = len_of_list pair_total (entries_of 0 rs) (rows_apart rs 0) ∙ length_of_rows rs 0

-- ---- keys below a bound
numbers_below : ℕ → FinMap nat_cmp (Unit {0})
numbers_below zero = empty
numbers_below (suc n) = insert (numbers_below n) n tt

count_below : (n : ℕ) → len (numbers_below n) ≤ n
unfolding numbers_below
count_below zero = omega (arith, len-empty nat_cmp (Unit {0}))
count_below (suc n) = at_most (contains_key (numbers_below n) n) (len (insert (numbers_below n) n tt)) (len (numbers_below n))
    (len-insert nat_cmp_total (numbers_below n) n tt) (count_below n)
  where
    at_most : (b : Bool) (l k : ℕ) → l ≡ cond b k (k + 1) → k ≤ n → l ≤ suc n
    at_most true l k e h = omega (arith, e, h)
    at_most false l k e h = omega (arith, e, h)

below_has : (n k : ℕ) → k < n → contains_key (numbers_below n) k ≡ true
unfolding numbers_below
below_has zero k h = absurd (omega (arith, h))
below_has (suc n) k h = ap is_some (get-insert nat_cmp_total (numbers_below n) n tt k) ∙ ⊎_elim
    (λ e. ap (λ b. is_some (cond b (Some tt) (get (numbers_below n) k))) (ap is_eq (subst (λ m. nat_cmp k m ≡ nat_cmp k k) e refl ∙ tied_itself nat_cmp_total k)))
    (λ apart. inserted (eq_by_cmp nat_cmp k n) (below_has n k (omega (arith, h, apart))))
    (cases_eq k n)
  where
    inserted : (b : Bool) → contains_key (numbers_below n) k ≡ true
        → is_some (cond b (Some tt) (get (numbers_below n) k)) ≡ true
    inserted true e = refl
    inserted false e = e

-- a finite map whose keys are below n has at most n of them
pub few_below : {X : Type 0} (m : FinMap nat_cmp X) (n : ℕ)
    → ((k : ℕ) → contains_key m k ≡ true → k < n) → len m ≤ n
few_below m n small =
    let a : len m ≤ len (numbers_below n) = not_smaller nat_cmp_total m (numbers_below n) (λ k h. below_has n k (small k h)) in
    let b : len (numbers_below n) ≤ n = count_below n in
    omega (arith, a, b)

-- ---- the maps of the rows that a lattice keeps
-- a row has at most as many maps as there are rows
few_maps : (edition : Edition) (rs : List RowMaps) → AreKept edition rs → (k : ℕ)
    → len (slice_index_or rs k no_maps).maps ≤ length rs
few_maps edition rs K k = few_below (slice_index_or rs k no_maps).maps (length rs) (λ j h. within j (get (slice_index_or rs k no_maps).maps j) refl h)
  where
    within : (j : ℕ) (o : Option FieldMap) → get (slice_index_or rs k no_maps).maps j ≡ o
        → contains_key (slice_index_or rs k no_maps).maps j ≡ true → j < length rs
    within j None e h = absurd (let f : is_some (get (slice_index_or rs k no_maps).maps j) ≡ false = ap is_some e in cc)
    within j (Some x) e h =
        let found : get (lattice_of edition rs).maps (k, j) ≡ Some x.images
        = lattice_get edition rs k j ∙ ap (option_map (λ y. y.images)) e in
        subst (λ n. j < n) (length-map rs (λ r. r.row)) (K.compatible.compatible.within {i = k} {j = j} (record { found = found })).1

-- and so has one behind anything that shows rows
pub few_shown : {A : Type 0} (f : A → RowMaps) (edition : Edition) (items : List A) (most : ℕ)
    → AreKept edition (map f items) → length items ≤ most → All (λ x. len (f x).maps ≤ most) items
few_shown f edition items most K room k d h =
    let few = few_maps edition (map f items) K k in
    let at : slice_index_or (map f items) k no_maps ≡ f (slice_index_or items k d) = get_or-map f items k d no_maps h in
    omega (arith, few, room, length-map items f, ap (λ r. len r.maps) at)

sum_by_map : {A B : Type 0} (g : B → ℕ) (f : A → B) (xs : List A)
    → sum_by g (map f xs) ≡ sum_by (λ x. g (f x)) xs
sum_by_map g f [] = refl
sum_by_map g f (x ∷ xs) = sum_by-cons g (f x) (map f xs) ∙ ap (λ n. g (f x) + n) (sum_by_map g f xs)
    ∙ sym (sum_by-cons (λ y. g (f y)) x xs)

-- the sum over what shows rows
pub map_count_shown : {A : Type 0} (f : A → RowMaps) (edition : Edition) (items : List A) (L : Lattice)
    → lattice_of edition (map f items) ≡ L → sum_by (λ x. len (f x).maps) items ≡ map_count L
map_count_shown f edition items L v =
    sym (sum_by_map (λ r. len r.maps) f items) ∙ sym (map_count_of_rows edition (map f items)) ∙ ap map_count v

-- there are at most as many rows as an edition has room for
pub rows_fit : {A : Type 0} (f : A → RowMaps) (edition : declared.Edition) (items : List A)
    → AreKept (edition_of edition) (map f items) → length items ≤ MAX_FIELDS
rows_fit f edition items K =
    let room = K.compatible.rows.room in
    let count = length-map (map f items) (λ r. r.row) in
    omega (arith, room, count, length-map items f, room_of edition)
  where
    room_of : (e : declared.Edition) → (edition_of e).room ≡ MAX_FIELDS
    room_of declared.TheVariants.One = refl
    room_of declared.TheVariants.Two = refl
