-- What a lattice of rows with their maps stores, row by row, and what is found in a row.
use Rattle.std.proofs.Common.{◌≡◌, ◌≢◌, ℕ, zero, suc, ◌+◌, ◌<◌, List, [], ◌∷◌, ◌++◌, map, length, slice_index_or, refl, sym, ap, ap₂, ◌∙◌, subst, cond, true, false, Bool, arith, Option, Some, None, Ordering, Less, Equal, Greater, nat_eq}
use Rattle.std.specs.Borrow.{Bor}
use Rattle.std.specs.Cmp.{unsigned_tied}
use Rattle.std.specs.Option.{option_map, option_copied, MatchOption}
use Rattle.std.specs.Ordering.{nat_cmp, eq_by_cmp, is_eq, ordering_then}
use Rattle.std.specs.List.{AllZip}
use Rattle.std.specs.Map.{lookup}
use Rattle.std.specs.FinMap.{FinMap, get, entries, find, insert, get-entries, get-empty, get-insert, get-from_entries, same_map, nat_cmp-IsAntisymmetric}
use Rattle.std.proofs.lemmas.Cmp.{nat_cmp_total, tied_itself, eq_by_cmp_equiv}
use Rattle.std.proofs.lemmas.List.{get_or-map, length-map}
use Rattle.std.proofs.lemmas.Map.Made.{lookup-map_values}
use Rattle.alg_model.specs.Lattices.{Edition, Lattice, no_row, pair_cmp}
use Rattle.alg_rings.proofs.PolynomialOrder.{nat_cmp_same}
use Rattle.alg_compatible.proofs.Tables.{pair_total}
use Rattle.ff_embed.specs.SmallEmbeddings.{FieldMap}
use Rattle.lat_core.specs.SharedRows.{RowMaps, IsRowOf}
use Rattle.lat_core.specs.PrivateLattices.{maps_of, no_maps, entries_from, entries_of, lattice_of, AreKept}

-- ---- one row
find_is_lookup : {X : Type 0} (es : List (ℕ × X)) (k : ℕ)
    → find nat_cmp k es ≡ lookup (nat_eq k) es
find_is_lookup [] k = refl
find_is_lookup (e ∷ es) k = ap₂ (λ b r. cond b (Some e.1) r) (unsigned_tied k e.0) (find_is_lookup es k)

-- the finite map of a row answers as its table does
pub maps_of_get : {A : Type 0} (f : A → FieldMap) (es : List (ℕ × A)) (k : ℕ)
    → get (maps_of (map (λ e. (e.0, f e.1)) es)) k ≡ option_map f (lookup (nat_eq k) es)
maps_of_get f es k =
    get-from_entries nat_cmp_total (map (λ e. (e.0, f e.1)) es) k
    ∙ find_is_lookup (map (λ e. (e.0, f e.1)) es) k
    ∙ lookup-map_values f (nat_eq k) es

-- what a look-up in the table finds
pub map_into_found : {A : Type 0} (f : A → FieldMap) (found : Option (Bor A)) (maps : FinMap nat_cmp FieldMap)
    (target : ℕ) (es : List (ℕ × A)) → option_copied found ≡ lookup (nat_eq target) es
    → maps_of (map (λ e. (e.0, f e.1)) es) ≡ maps
    → MatchOption found (get maps target ≡ None) (λ e. get maps target ≡ Some (f e.now))
map_into_found f None maps target es e v =
    sym (ap (λ m. get m target) v) ∙ maps_of_get f es target ∙ ap (option_map f) (sym e)
map_into_found f (Some x) maps target es e v =
    sym (ap (λ m. get m target) v) ∙ maps_of_get f es target ∙ ap (option_map f) (sym e)

-- ---- all rows
pub or_else : {X : Type 0} → Option X → Option X → Option X
or_else None y = y
or_else (Some x) y = Some x

or_else_none : {X : Type 0} (x : Option X) → or_else x None ≡ x
unfolding or_else
or_else_none None = refl
or_else_none (Some x) = refl

pub or_else_first : {X : Type 0} (x y : Option X) → x ≡ None → or_else x y ≡ y
unfolding or_else
or_else_first x y e = ap (λ z. or_else z y) e

cond_or_else : {X : Type 0} (b : Bool) (x : X) (r s : Option X)
    → cond b (Some x) (or_else r s) ≡ or_else (cond b (Some x) r) s
unfolding or_else
cond_or_else true x r s = refl
cond_or_else false x r s = refl

pub cond_map : {X Y : Type 0} (f : X → Y) (b : Bool) (x : X) (r : Option X)
    → cond b (Some (f x)) (option_map f r) ≡ option_map f (cond b (Some x) r)
cond_map f true x r = refl
cond_map f false x r = refl

pub find_append : {K X : Type 0} (R : K → K → Ordering) (q : K) (xs ys : List (K × X))
    → find R q (xs ++ ys) ≡ or_else (find R q xs) (find R q ys)
unfolding or_else
find_append R q [] ys = refl
find_append R q (e ∷ xs) ys =
    ap (cond (eq_by_cmp R q e.0) (Some e.1)) (find_append R q xs ys)
    ∙ cond_or_else (eq_by_cmp R q e.0) e.1 (find R q xs) (find R q ys)

-- pairs tie where their numbers do
pub same_first : (i j k : ℕ) → eq_by_cmp pair_cmp (i, j) (i, k) ≡ eq_by_cmp nat_cmp j k
same_first i j k = ap (λ r. is_eq (ordering_then r (nat_cmp j k))) (tied_itself nat_cmp_total i)

pub other_first : (i j a k : ℕ) → i ≢ a → eq_by_cmp pair_cmp (i, j) (a, k) ≡ false
other_first i j a k apart = compared (nat_cmp i a) refl
  where
    compared : (r : Ordering) → nat_cmp i a ≡ r → eq_by_cmp pair_cmp (i, j) (a, k) ≡ false
    compared Less e = ap (λ r. is_eq (ordering_then r (nat_cmp j k))) e
    compared Equal e = absurd (apart (nat_cmp_same i a e))
    compared Greater e = ap (λ r. is_eq (ordering_then r (nat_cmp j k))) e

pub from_same : (i j : ℕ) (es : List (ℕ × FieldMap))
    → find pair_cmp (i, j) (entries_from i es) ≡ option_map (λ e. e.images) (find nat_cmp j es)
from_same i j [] = refl
from_same i j (e ∷ es) =
    ap₂ (λ b r. cond b (Some e.1.images) r) (same_first i j e.0) (from_same i j es)
    ∙ cond_map (λ e. e.images) (eq_by_cmp nat_cmp j e.0) e.1 (find nat_cmp j es)

from_other : (i j a : ℕ) (es : List (ℕ × FieldMap)) → i ≢ a
    → find pair_cmp (i, j) (entries_from a es) ≡ None
from_other i j a [] apart = refl
from_other i j a (e ∷ es) apart =
    ap₂ (λ b r. cond b (Some e.1.images) r) (other_first i j a e.0 apart) (from_other i j a es apart)

-- no row has a number below that of the first
pub before_all : (i j b : ℕ) (rs : List RowMaps) → i < b → find pair_cmp (i, j) (entries_of b rs) ≡ None
before_all i j b [] h = refl
before_all i j b (r ∷ rs) h =
    find_append pair_cmp (i, j) (entries_from b (entries r.maps)) (entries_of (suc b) rs)
    ∙ or_else_first _ _ (from_other i j b (entries r.maps) (λ e. omega (arith, h, e)))
    ∙ before_all i j (suc b) rs (omega (arith, h))

abbrev pub images_into : RowMaps → ℕ → Option (List (List ℕ))
images_into r j = option_map (λ e. e.images) (get r.maps j)

find_of : (rs : List RowMaps) (b k i j : ℕ) → i ≡ b + k
    → find pair_cmp (i, j) (entries_of b rs) ≡ images_into (slice_index_or rs k no_maps) j
find_of [] b k i j e = sym (ap (option_map (λ e. e.images)) (get-empty nat_cmp j))
find_of (r ∷ rs) b zero i j e =
    find_append pair_cmp (i, j) (entries_from b (entries r.maps)) (entries_of (suc b) rs)
    ∙ ap (or_else (find pair_cmp (i, j) (entries_from b (entries r.maps)))) (before_all i j (suc b) rs (omega (arith, e)))
    ∙ or_else_none (find pair_cmp (i, j) (entries_from b (entries r.maps)))
    ∙ ap (λ a. find pair_cmp (i, j) (entries_from a (entries r.maps))) (let d : b ≡ i = omega (arith, e) in d)
    ∙ from_same i j (entries r.maps)
    ∙ ap (option_map (λ e. e.images)) (sym (get-entries r.maps j))
find_of (r ∷ rs) b (suc k) i j e =
    find_append pair_cmp (i, j) (entries_from b (entries r.maps)) (entries_of (suc b) rs)
    ∙ or_else_first _ _ (from_other i j b (entries r.maps) (λ d. omega (arith, e, d)))
    ∙ find_of rs (suc b) k i j (omega (arith, e))

-- **the lattice stores for a pair what the row of the first has for the second**
pub lattice_get : (edition : Edition) (rs : List RowMaps) (i j : ℕ)
    → get (lattice_of edition rs).maps (i, j)
    ≡ option_map (λ e. e.images) (get (slice_index_or rs i no_maps).maps j)
lattice_get edition rs i j =
    get-from_entries pair_total (entries_of 0 rs) (i, j) ∙ find_of rs 0 i i j (omega arith)

-- ---- rows that are shown
-- a row of the list is a row of the lattice
kept_row : (edition : Edition) (rs : List RowMaps) (n : ℕ) (r : RowMaps) → AreKept edition rs
    → n < length rs → r ≡ slice_index_or rs n no_maps → IsRowOf (lattice_of edition rs) n r
kept_row edition rs n r K h e = record {
  row = ap (λ r. r.row) e ∙ sym (get_or-map (λ r. r.row) rs n no_maps no_row h);
  maps = λ j. ap (λ r. option_map (λ e. e.images) (get r.maps j)) e ∙ sym (lattice_get edition rs n j);
  between = λ {j} {e = m} f. K.between (subst (λ r. get r.maps j ≡ Some m) e f);
}

-- and so is one behind anything that shows rows
pub shown_row : {A : Type 0} (f : A → RowMaps) (edition : Edition) (items : List A) (L : Lattice)
    (n : ℕ) (x : A) → AreKept edition (map f items) → lattice_of edition (map f items) ≡ L
    → n < length L.rows → x ≡ slice_index_or items n x → IsRowOf L n (f x)
shown_row f edition items L n x K v h e =
    let count : length L.rows ≡ length items = ap (λ M. length M.rows) (sym v)
    ∙ length-map (map f items) (λ r. r.row) ∙ length-map items f in
    subst (λ M. IsRowOf M n (f x)) v (kept_row edition (map f items) n (f x) K (omega (arith, h, count, length-map items f))
    (ap f e ∙ sym (get_or-map f items n x no_maps (omega (arith, h, count)))))

-- what is cloned one by one shows the same
pub copied_values : {A B : Type 0} (f : A → B) (xs ys : List A) → AllZip (λ x y. f y ≡ f x) xs ys
    → map f ys ≡ map f xs
copied_values f [] [] h = refl
copied_values f [] (y ∷ ys) h = absurd h
copied_values f (x ∷ xs) [] h = absurd h
copied_values f (x ∷ xs) (y ∷ ys) (e, h) = ap₂ ◌∷◌ e (copied_values f xs ys h)

-- the same for the entries of a table
pub copied_entries : {A : Type 0} (f : A → FieldMap) (xs ys : List (ℕ × A))
    → AllZip (λ p q. (q.0 ≡ p.0) × (f q.1 ≡ f p.1)) xs ys
    → map {B = ℕ × FieldMap} (λ e. (e.0, f e.1)) ys ≡ map (λ e. (e.0, f e.1)) xs
copied_entries f [] [] h = refl
copied_entries f [] (y ∷ ys) h = absurd h
copied_entries f (x ∷ xs) [] h = absurd h
copied_entries f (x ∷ xs) (y ∷ ys) ((k, e), h) =
    ap₂ ◌∷◌ (λ i. (k i, e i)) (copied_entries f xs ys h)

-- ---- a map that is stored
equal_turned : (a b : ℕ) → nat_eq a b ≡ eq_by_cmp nat_cmp b a
equal_turned a b = sym (unsigned_tied a b) ∙ (eq_by_cmp_equiv nat_cmp_total).symm a b

-- what is put into the table is put into the finite map
pub stored_maps : {A : Type 0} (f : A → FieldMap) (es fs : List (ℕ × A)) (target : ℕ) (v : A)
    (m : FieldMap) → f v ≡ m
    → ((q : ℕ) → lookup (nat_eq q) fs ≡ cond (nat_eq target q) (Some v) (lookup (nat_eq q) es))
    → maps_of (map (λ e. (e.0, f e.1)) fs) ≡ insert (maps_of (map (λ e. (e.0, f e.1)) es)) target m
stored_maps f es fs target v m e h = same_map nat_cmp_total nat_cmp-IsAntisymmetric _ _ (λ q.
    maps_of_get f fs q
    ∙ ap (option_map f) (h q)
    ∙ sym (cond_map f (nat_eq target q) v (lookup (nat_eq q) es))
    ∙ (λ i. cond (equal_turned target q i) (Some (e i)) (sym (maps_of_get f es q) i))
    ∙ sym (get-insert nat_cmp_total (maps_of (map (λ e. (e.0, f e.1)) es)) target m q))
