-- The maps of a lattice in their order: by the fields where they start, and then by those where
-- they end.
use Rattle.std.proofs.Common.{◌≡◌, ℕ, ◌+◌, ◌<◌, ◌≤◌, Bool, true, false, List, [], ◌++◌, length, refl, sym, ap, ap₂, ◌∙◌, Option, Some, None, is_some, Ordering, Less, Equal, Greater, ⊎_elim, arith, nat_cmp, inl, inr}
use Rattle.std.specs.Prelude.{◌⊎◌, ◌==◌, ◌&&◌, nat_lt}
use Rattle.std.proofs.Math.Dec.{T}
use Rattle.std.specs.Cmp.{ranked}
use Rattle.std.specs.Ordering.{eq_by_cmp, is_eq, ordering_then}
use Rattle.std.specs.FinMap.{get, entries, entries_sorted, get-entries, find, is_sorted}
use Rattle.std.proofs.lemmas.Bool.{cases_Bool, cases_eq, and_parts, eqb-true, eq-eqb, ne_eqb, ltb-true, ltb-false, lt-ltb, le-ltb}
use Rattle.std.proofs.lemmas.Cmp.{tied_itself}
use Rattle.alg_model.specs.Lattices.{Lattice, Compatible, pair_cmp}
use Rattle.alg_compatible.proofs.Tables.{pair_total, pair_antisymmetric}
use Rattle.lat_audit.specs.PrivateDumps.{found_at, maps_from, maps_to, maps_below}
use Rattle.lat_audit.proofs.SortedEntries.{parts, agree, all_pass, no_pass, one_key, is_equal}

told : (b : Bool) → T b → b ≡ true
told true h = refl
told false h = absurd h

-- a pair before another one has a smaller first number, or the same and a smaller second one
pub pair_before : (a b : ℕ × ℕ) → pair_cmp a b ≡ Less
    → (a.0 < b.0) ⊎ ((a.0 ≡ b.0) × (a.1 < b.1))
pair_before a b e = by_first (nat_cmp a.0 b.0) refl
  where
    by_first : (r : Ordering) → nat_cmp a.0 b.0 ≡ r → (a.0 < b.0) ⊎ ((a.0 ≡ b.0) × (a.1 < b.1))
    by_first Less r = inl (ranked a.0 b.0 Less (sym r))
    by_first Equal r =
        let second : nat_cmp a.1 b.1 ≡ Less = sym (ap (λ o. ordering_then o (nat_cmp a.1 b.1)) r) ∙ e in
        inr (ranked a.0 b.0 Equal (sym r), ranked a.1 b.1 Less (sym second))
    by_first Greater r =
        let other : Greater ≡ Less = sym (ap (λ o. ordering_then o (nat_cmp a.1 b.1)) r) ∙ e in cc

-- a pair that ties with another one is that pair
pub pair_tied : (a b : ℕ × ℕ) → eq_by_cmp pair_cmp a b ≡ true → (a.0 ≡ b.0) × (a.1 ≡ b.1)
pair_tied a b e =
    let same : a ≡ b = pair_antisymmetric a b (is_equal (pair_cmp a b) e) in
    (ap (λ p. p.0) same, ap (λ p. p.1) same)

module _ (L : Lattice) where
  sorted : is_sorted pair_cmp (entries L.maps) ≡ true
  sorted = told _ (entries_sorted L.maps)

  -- what is found is a stored map
  within : Compatible L → (k : ℕ × ℕ) → is_some (find pair_cmp k (entries L.maps)) ≡ true
      → (k.0 < length L.rows) × (k.1 < length L.rows)
  within C k found = at (get L.maps k) refl (ap is_some (get-entries L.maps k) ∙ found)
    where
      at : (o : Option (List (List ℕ))) → get L.maps k ≡ o → is_some (get L.maps k) ≡ true
          → (k.0 < length L.rows) × (k.1 < length L.rows)
      at None e h = absurd (let f : is_some (get L.maps k) ≡ false = ap is_some e in cc)
      at (Some m) e h = C.within {i = k.0} {j = k.1} {m = m} (record { found = e })

  -- the pairs from i whose second number is below n
  abbrev goes : ℕ → ℕ → ℕ × ℕ → Bool
  goes i n k = (k.0 == i) && nat_lt k.1 n

  goes_true : (i n : ℕ) (k : ℕ × ℕ) → k.0 ≡ i → k.1 < n → goes i n k ≡ true
  goes_true i n k e l = ap₂ (λ a b. a && b) (eq-eqb k.0 i e) (lt-ltb k.1 n l)

  goes_parts : (i n : ℕ) (k : ℕ × ℕ) → goes i n k ≡ true → (k.0 ≡ i) × (k.1 < n)
  goes_parts i n k h =
      let (a, b) = and_parts (k.0 == i) (nat_lt k.1 n) h in
      (eqb-true k.0 i a, ltb-true k.1 n b)

  goes_false : (i n : ℕ) (k : ℕ × ℕ) → (k.0 ≡ i → k.1 < n → ⊥) → goes i n k ≡ false
  goes_false i n k h = ⊎_elim
      (λ t. let (a, b) = goes_parts i n k t in absurd (h a b))
      (λ f. f)
      (cases_Bool (goes i n k))

  not_tied : (a b : ℕ × ℕ) → (a.0 ≡ b.0 → a.1 ≡ b.1 → ⊥) → eq_by_cmp pair_cmp a b ≡ false
  not_tied a b h = ⊎_elim
      (λ t. let (p, q) = pair_tied a b t in absurd (h p q))
      (λ f. f)
      (cases_Bool (eq_by_cmp pair_cmp a b))

  -- the first of them
  pub maps_to_none : (i : ℕ) → maps_to L i 0 ≡ []
  maps_to_none i = no_pass pair_cmp (goes i 0) (entries L.maps) (λ k. goes_false i 0 k (λ e l. omega (arith, l)))

  -- one field more in which they may end
  pub maps_to_more : (i j : ℕ)
      → maps_to L i (j + 1) ≡ maps_to L i j ++ found_at (i, j) (get L.maps (i, j))
  maps_to_more i j =
      parts pair_cmp (goes i j) (eq_by_cmp pair_cmp (i, j)) (goes i (j + 1)) order passes fails (entries L.maps) sorted
      ∙ ap (λ w. maps_to L i j ++ w) (one_key pair_cmp pair_total pair_antisymmetric (i, j) (entries L.maps) sorted
      ∙ ap (found_at (i, j)) (sym (get-entries L.maps (i, j))))
    where
      order : (a b : ℕ × ℕ) → pair_cmp a b ≡ Less → eq_by_cmp pair_cmp (i, j) a ≡ true
          → goes i j b ≡ false
      order a b l t =
          let (p, q) = pair_tied (i, j) a t in
          goes_false i j b (λ e m. ⊎_elim
          (λ s. omega (arith, p, e, s))
          (λ (s, u). omega (arith, q, u, m))
          (pair_before a b l))

      passes : (k : ℕ × ℕ) → goes i j k ≡ true
          → (eq_by_cmp pair_cmp (i, j) k ≡ false) × (goes i (j + 1) k ≡ true)
      passes k t =
          let (p, q) = goes_parts i j k t in
          (not_tied (i, j) k (λ e s. omega (arith, s, q)), goes_true i (j + 1) k p (omega (arith, q)))

      fails : (k : ℕ × ℕ) → goes i j k ≡ false → goes i (j + 1) k ≡ eq_by_cmp pair_cmp (i, j) k
      fails k f = ⊎_elim
          (λ t. let (p, q) = pair_tied (i, j) k t in goes_true i (j + 1) k (sym p) (omega (arith, q)) ∙ sym t)
          (λ differ. goes_false i (j + 1) k (λ e l. ⊎_elim
          (λ (same : j ≡ k.1). let t : eq_by_cmp pair_cmp (i, j) k ≡ true = tied_pair e same in cc)
          (λ apart. let t : goes i j k ≡ true = goes_true i j k e (omega (arith, l, apart)) in cc)
          (cases_eq j k.1)) ∙ sym differ)
          (cases_Bool (eq_by_cmp pair_cmp (i, j) k))
        where
          tied_pair : k.0 ≡ i → j ≡ k.1 → eq_by_cmp pair_cmp (i, j) k ≡ true
          tied_pair e s = ap₂ (λ a b. eq_by_cmp pair_cmp (i, j) (a, b)) e (sym s)
              ∙ ap is_eq (tied_itself pair_total (i, j))

  -- all of them, where the maps end in fields below n
  pub maps_to_all : Compatible L → (i n : ℕ) → n ≡ length L.rows → maps_to L i n ≡ maps_from L i
  maps_to_all C i n e = agree pair_cmp pair_total (goes i n) (λ k. k.0 == i) (entries L.maps)
      (λ k found. let l : k.1 < length L.rows = (within C k found).1 in
      ap (λ b. (k.0 == i) && b) (lt-ltb k.1 n (omega (arith, l, e))) ∙ and_one (k.0 == i))
    where
      and_one : (b : Bool) → (b && true) ≡ b
      and_one true = refl
      and_one false = refl

  -- the maps from no field
  pub maps_below_none : maps_below L 0 ≡ []
  maps_below_none = no_pass pair_cmp (λ k. nat_lt k.0 0) (entries L.maps) (λ k. le-ltb k.0 0 (omega arith))

  -- one field more from which they may start
  pub maps_below_more : (i : ℕ) → maps_below L (i + 1) ≡ maps_below L i ++ maps_from L i
  maps_below_more i =
      parts pair_cmp (λ k. nat_lt k.0 i) (λ k. k.0 == i) (λ k. nat_lt k.0 (i + 1)) order passes fails (entries L.maps) sorted
    where
      order : (a b : ℕ × ℕ) → pair_cmp a b ≡ Less → (a.0 == i) ≡ true → nat_lt b.0 i ≡ false
      order a b l t = le-ltb b.0 i (⊎_elim
          (λ s. omega (arith, s, eqb-true a.0 i t))
          (λ (s, u). omega (arith, s, eqb-true a.0 i t))
          (pair_before a b l))

      passes : (k : ℕ × ℕ) → nat_lt k.0 i ≡ true
          → ((k.0 == i) ≡ false) × (nat_lt k.0 (i + 1) ≡ true)
      passes k t =
          let l : k.0 < i = ltb-true k.0 i t in
          (ne_eqb k.0 i (λ e. omega (arith, e, l)), lt-ltb k.0 (i + 1) (omega (arith, l)))

      fails : (k : ℕ × ℕ) → nat_lt k.0 i ≡ false → nat_lt k.0 (i + 1) ≡ (k.0 == i)
      fails k f =
          let l : i ≤ k.0 = ltb-false k.0 i f in
          ⊎_elim
          (λ (e : k.0 ≡ i). lt-ltb k.0 (i + 1) (omega (arith, e)) ∙ sym (eq-eqb k.0 i e))
          (λ apart. le-ltb k.0 (i + 1) (omega (arith, apart, l)) ∙ sym (ne_eqb k.0 i apart))
          (cases_eq k.0 i)

  -- all maps
  pub maps_below_all : Compatible L → (n : ℕ) → n ≡ length L.rows → maps_below L n ≡ entries L.maps
  maps_below_all C n e = all_pass pair_cmp pair_total (λ k. nat_lt k.0 n) (entries L.maps)
      (λ k found. let l : k.0 < length L.rows = (within C k found).0 in lt-ltb k.0 n (omega (arith, l, e)))
