-- A map put into the finite map of a lattice.
use Rattle.std.proofs.Common.{◌≡◌, ◌≢◌, ◌⊎◌, inl, inr, ⊎_elim, ℕ, ◌+◌, ◌<◌, List, sym, ap, ◌∙◌, cond, true, false, arith, Some, None, Option, is_some, Ordering, Less, Equal, Greater, refl}
use Rattle.std.specs.Ordering.{eq_by_cmp, is_eq}
use Rattle.std.specs.FinMap.{FinMap, get, insert, len, get-insert, len-insert}
use Rattle.std.proofs.lemmas.Bool.{cases_Bool}
use Rattle.std.proofs.lemmas.Cmp.{tied_itself}
use Rattle.alg_model.specs.Lattices.{Lattice, pair_cmp, Stored, Grows}
use Rattle.alg_compatible.proofs.Tables.{pair_total, pair_antisymmetric}
use Rattle.lat_core.proofs.MapCounts.{not_smaller}

tied : (r : Ordering) → is_eq r ≡ true → r ≡ Equal
tied Less e = cc
tied Equal e = refl
tied Greater e = cc

abbrev pub Maps : Type 0
Maps = FinMap pair_cmp (List (List ℕ))

-- at its own pair it is found, and at the others what was there
pub found_put : (M : Maps) (p q : ℕ × ℕ) (x : List (List ℕ))
    → ((p ≡ q) × (get (insert M p x) q ≡ Some x)) ⊎ ((p ≢ q) × (get (insert M p x) q ≡ get M q))
found_put M p q x = ⊎_elim
    (λ t. inl (sym (pair_antisymmetric q p (tied (pair_cmp q p) t)), get-insert pair_total M p x q ∙ ap (λ b. cond b (Some x) (get M q)) t))
    (λ f. inr (
      λ e. let t : eq_by_cmp pair_cmp q p ≡ true = ap (λ r. eq_by_cmp pair_cmp q r) e ∙ ap is_eq (tied_itself pair_total q) in cc,
      get-insert pair_total M p x q ∙ ap (λ b. cond b (Some x) (get M q)) f,
    ))
    (cases_Bool (eq_by_cmp pair_cmp q p))

-- **a lattice that has grown and has a map for a further pair has more maps**
pub more_maps : {L M : Lattice} {i j : ℕ} {m : List (List ℕ)} → Grows L M → Stored M i j m
    → get L.maps (i, j) ≡ None → len L.maps < len M.maps
more_maps {L} {M} {i} {j} {m} G s new =
    let put : len (insert L.maps (i, j) m) ≡ len L.maps + 1
    = len-insert pair_total L.maps (i, j) m ∙ ap (λ b. cond b (len L.maps) (len L.maps + 1)) (ap is_some new) in
    let fewer = not_smaller pair_total (insert L.maps (i, j) m) M.maps (λ q h. kept q h (found_put L.maps (i, j) q m)) in
    omega (arith, put, fewer)
  where
    old : (q : ℕ × ℕ) (found : Option (List (List ℕ))) → get L.maps q ≡ found
        → is_some (get L.maps q) ≡ true → is_some (get M.maps q) ≡ true
    old q (Some n) e h = ap is_some ((G.maps {i = q.0} {j = q.1} (record { found = e })).found)
    old q None e h = absurd (let f : is_some (get L.maps q) ≡ false = ap is_some e in cc)

    kept : (q : ℕ × ℕ) → is_some (get (insert L.maps (i, j) m) q) ≡ true
        → (((i, j) ≡ q) × (get (insert L.maps (i, j) m) q ≡ Some m))
        ⊎ (((i, j) ≢ q) × (get (insert L.maps (i, j) m) q ≡ get L.maps q))
        → is_some (get M.maps q) ≡ true
    kept q h (inl (e, f)) = ap (λ p. is_some (get M.maps p)) (sym e) ∙ ap is_some s.found
    kept q h (inr (apart, f)) = old q (get L.maps q) refl (sym (ap is_some f) ∙ h)
