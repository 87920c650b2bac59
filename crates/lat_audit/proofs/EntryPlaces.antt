-- The entries of a finite map by their places, and how many there may be of pairs.
use Rattle.std.proofs.Common.{◌≡◌, ℕ, zero, suc, ◌+◌, ◌*◌, ◌-◌, ◌<◌, ◌≤◌, Bool, true, false, cond, List, [], ◌∷◌, length, get_or, refl, sym, ap, ◌∙◌, Some, Ordering, Less, ⊎_elim, arith}
use Rattle.std.specs.Prelude.{All, AllPairs}
use Rattle.std.specs.Cmp.{IsTotalOrder}
use Rattle.std.specs.Ordering.{eq_by_cmp, is_eq, is_lt, ordering_reverse}
use Rattle.std.specs.FinMap.{FinMap, get, entries, entries_sorted, get-entries, find, from_entries, get-from_entries, is_sorted, same_map, IsAntisymmetric}
use Rattle.std.specs.FinMap.Entries.{below_all}
use Rattle.std.proofs.Math.Dec.{T}
use Rattle.std.proofs.lemmas.Bool.{and_parts}
use Rattle.std.proofs.lemmas.Cmp.{tied_itself}
use Rattle.std.proofs.Math.Nat.{mul-le-mul_left}
use Rattle.alg_model.specs.Lattices.{pair_cmp}
use Rattle.lat_audit.proofs.SortedEntries.{is_less}
use Rattle.lat_audit.proofs.StoredMaps.{pair_before}

told : (b : Bool) → T b → b ≡ true
told true h = refl
told false h = absurd h

-- ---- keys in order
module _ {K X : Type 0} (R : K → K → Ordering) where
  -- a key below all others is below each
  below_at : (x : K) (es : List (K × X)) → below_all R x es ≡ true → (k : ℕ) (d : K × X)
      → k < length es → R x (get_or es k d).0 ≡ Less
  below_at x [] h k d l = absurd (omega (arith, l))
  below_at x (e ∷ es) h zero d l = is_less (R x e.0) (and_parts (is_lt (R x e.0)) (below_all R x es) h).0
  below_at x (e ∷ es) h (suc k) d l =
      below_at x es (and_parts (is_lt (R x e.0)) (below_all R x es) h).1 k d (omega (arith, l))

  -- keys in order rise from each place to each later one
  rise : (es : List (K × X)) → is_sorted R es ≡ true
      → (i j : ℕ) (d : K × X) → i < j → j < length es → R (get_or es i d).0 (get_or es j d).0 ≡ Less
  rise [] h i j d l m = absurd (omega (arith, m))
  rise (e ∷ es) h i zero d l m = absurd (omega (arith, l))
  rise (e ∷ es) h zero (suc j) d l m =
      below_at e.0 es (and_parts (below_all R e.0 es) (is_sorted R es) h).0 j d (omega (arith, m))
  rise (e ∷ es) h (suc i) (suc j) d l m =
      rise es (and_parts (below_all R e.0 es) (is_sorted R es) h).1 i j d (omega (arith, l)) (omega (arith, m))

above_apart : {K : Type 0} {R : K → K → Ordering} → IsTotalOrder R → (x y : K) → R x y ≡ Less
    → eq_by_cmp R y x ≡ false
above_apart T x y e = ap is_eq (T.antisymm y x ∙ ap ordering_reverse e)

module _ {K X : Type 0} {R : K → K → Ordering} (T : IsTotalOrder R) where
  -- what stands at a place is found
  found_at_place : (es : List (K × X)) → is_sorted R es ≡ true → (k : ℕ) (d : K × X) → k < length es
      → find R (get_or es k d).0 es ≡ Some (get_or es k d).1
  found_at_place [] h k d l = absurd (omega (arith, l))
  found_at_place (e ∷ es) h zero d l =
      ap (λ r. cond (is_eq r) (Some e.1) (find R e.0 es)) (tied_itself T e.0)
  found_at_place (e ∷ es) h (suc k) d l =
      let (first, rest) = and_parts (below_all R e.0 es) (is_sorted R es) h in
      ap (λ b. cond b (Some e.1) (find R (get_or es k d).0 es))
      (above_apart T e.0 (get_or es k d).0 (below_at R e.0 es first k d (omega (arith, l))))
      ∙ found_at_place es rest k d (omega (arith, l))

  module _ (m : FinMap R X) where
    pub entries_rise : AllPairs (λ (a b : K × X). R a.0 b.0 ≡ Less) (entries m)
    entries_rise i j d l h = rise R (entries m) (told _ (entries_sorted m)) i j d l h

    pub entry_found : (k : ℕ) (d : K × X) → k < length (entries m)
        → get m (get_or (entries m) k d).0 ≡ Some (get_or (entries m) k d).1
    entry_found k d l = get-entries m (get_or (entries m) k d).0
        ∙ found_at_place (entries m) (told _ (entries_sorted m)) k d l

    -- the map of its entries is the map
    pub entries_again : IsAntisymmetric R → from_entries (entries m) ≡ m
    entries_again A = same_map T A (from_entries (entries m)) m
        (λ q. get-from_entries T (entries m) q ∙ sym (get-entries m q))

-- ---- pairs below a bound
-- a pair as a number
abbrev place : ℕ → ℕ × ℕ → ℕ
place n a = n * a.0 + a.1

place_rises : (n : ℕ) (a b : ℕ × ℕ) → a.1 < n → pair_cmp a b ≡ Less → place n a < place n b
place_rises n a b l e = ⊎_elim
    (λ first. let more : n * (a.0 + 1) ≤ n * b.0 = mul-le-mul_left n (omega (arith, first)) in omega (arith, more, l))
    (λ (same, second). let equal : n * a.0 ≡ n * b.0 = ap (λ x. n * x) same in omega (arith, equal, second))
    (pair_before a b e)

module _ {X : Type 0} (n : ℕ) (es : List ((ℕ × ℕ) × X))
    (rising : AllPairs (λ (a b : (ℕ × ℕ) × X). pair_cmp a.0 b.0 ≡ Less) es)
    (within : All (λ (e : (ℕ × ℕ) × X). (e.0.0 < n) × (e.0.1 < n)) es) where
  -- as many numbers are below that of an entry as entries are before it
  place_at : (k : ℕ) (d : (ℕ × ℕ) × X) → k < length es → k ≤ place n (get_or es k d).0
  place_at zero d l = omega arith
  place_at (suc k) d l =
      let before : k ≤ place n (get_or es k d).0 = place_at k d (omega (arith, l)) in
      let more : place n (get_or es k d).0 < place n (get_or es (suc k) d).0
      = place_rises n (get_or es k d).0 (get_or es (suc k) d).0 (within k d (omega (arith, l))).1
      (rising k (suc k) d (omega arith) l) in
      omega (arith, before, more)

  place_below : (a : ℕ × ℕ) → a.0 < n → a.1 < n → place n a < n * n
  place_below a l m = let row : n * (a.0 + 1) ≤ n * n = mul-le-mul_left n (omega (arith, l)) in omega (arith, row, m)

  few_with : (d : (ℕ × ℕ) × X) → 0 < length es → length es ≤ n * n
  few_with d some =
      let last : length es - 1 < length es = omega (arith, some) in
      let count : length es - 1 ≤ place n (get_or es (length es - 1) d).0 = place_at (length es - 1) d last in
      let here = within (length es - 1) d last in
      let below : place n (get_or es (length es - 1) d).0 < n * n
      = place_below (get_or es (length es - 1) d).0 here.0 here.1 in
      omega (arith, count, below)

-- **pairs of numbers below n that rise are at most n * n**
pub few_pairs : {X : Type 0} (n : ℕ) (es : List ((ℕ × ℕ) × X))
    → AllPairs (λ (a b : (ℕ × ℕ) × X). pair_cmp a.0 b.0 ≡ Less) es
    → All (λ (e : (ℕ × ℕ) × X). (e.0.0 < n) × (e.0.1 < n)) es → length es ≤ n * n
few_pairs n [] rising within = omega arith
few_pairs n (e ∷ es) rising within = few_with n (e ∷ es) rising within e (omega arith)
