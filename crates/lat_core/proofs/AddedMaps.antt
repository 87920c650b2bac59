-- What is stored once maps are put in, for those who add some.
--     IsPairOf m q     m is put in for the pair q
use Rattle.std.proofs.Common.{◌≡◌, ◌⊎◌, inl, inr, ⊎_elim, ℕ, zero, suc, ◌<◌, List, [], ◌∷◌, length, slice_index_or, sym, ap, ◌∙◌, cond, true, false, Bool, arith, Some, is_some, Ordering, Less, Equal, Greater, refl}
use Rattle.std.specs.Ordering.{eq_by_cmp, is_eq}
use Rattle.std.specs.FinMap.{FinMap, get, insert, get-insert}
use Rattle.std.proofs.lemmas.Bool.{cases_Bool}
use Rattle.std.proofs.lemmas.Cmp.{tied_itself}
use Rattle.alg_model.specs.Lattices.{pair_cmp}
use Rattle.alg_compatible.proofs.Tables.{pair_total, pair_antisymmetric}
use Rattle.lat_core.specs.declared.rows.MapRow.{MapRow}
use Rattle.lat_core.specs.SharedRows.{with_maps}

abbrev pub IsPairOf : MapRow → ℕ × ℕ → Type 0
IsPairOf m q = (m.from, m.into) ≡ q

-- one of the list is m, at place k
pub record IsAdded (ms : List MapRow) (q : ℕ × ℕ) (images : List (List ℕ)) : Type 0 where
  pub place : ℕ
  pub within : place < length ms
  pub pair : (d : MapRow) → IsPairOf (slice_index_or ms place d) q
  pub images_are : (d : MapRow) → (slice_index_or ms place d).map.images ≡ images

later : {m : MapRow} {ms : List MapRow} {q : ℕ × ℕ} {images : List (List ℕ)} → IsAdded ms q images
    → IsAdded (m ∷ ms) q images
later a = record { place = suc a.place; within = let w = a.within in omega (arith, w); pair = a.pair; images_are = a.images_are }

tied : (r : Ordering) → is_eq r ≡ true → r ≡ Equal
tied Less e = cc
tied Equal e = refl
tied Greater e = cc

-- a pair of numbers ties with itself alone
tied_or_apart : (q p : ℕ × ℕ) → (p ≡ q) ⊎ (eq_by_cmp pair_cmp q p ≡ false)
tied_or_apart q p = ⊎_elim (λ t. inl (sym (pair_antisymmetric q p (tied (pair_cmp q p) t)))) (λ f. inr f) (cases_Bool (eq_by_cmp pair_cmp q p))

-- **what is stored afterwards was put in, or was stored before**
pub stored_added_or_old : (ms : List MapRow) (M : FinMap pair_cmp (List (List ℕ))) (q : ℕ × ℕ)
    (images : List (List ℕ)) → get (with_maps M ms) q ≡ Some images
    → IsAdded ms q images ⊎ (get M q ≡ Some images)
stored_added_or_old [] M q images e = inr e
stored_added_or_old (m ∷ ms) M q images e = ⊎_elim
    (λ a. inl (later a))
    (λ f. ⊎_elim
    (λ same. inl (record {
      place = 0;
      within = omega arith;
      pair = λ d. same;
      images_are = λ d. here same f;
    }))
    (λ apart. inr (sym (get-insert pair_total M (m.from, m.into) m.map.images q ∙ ap (λ b. cond b (Some m.map.images) (get M q)) apart) ∙ f))
    (tied_or_apart q (m.from, m.into)))
    (stored_added_or_old ms (insert M (m.from, m.into) m.map.images) q images e)
  where
    here : (m.from, m.into) ≡ q → get (insert M (m.from, m.into) m.map.images) q ≡ Some images
        → m.map.images ≡ images
    here same f =
        let found : get (insert M (m.from, m.into) m.map.images) q ≡ Some m.map.images
        = ap (λ p. get (insert M p m.map.images) q) same ∙ get-insert pair_total M q m.map.images q
        ∙ ap (λ r. cond (is_eq r) (Some m.map.images) (get M q)) (tied_itself pair_total q) in
        let equal : Some m.map.images ≡ Some images = sym found ∙ f in
        cc

kept : (m : MapRow) (M : FinMap pair_cmp (List (List ℕ))) (q : ℕ × ℕ) → is_some (get M q) ≡ true
    → is_some (get (insert M (m.from, m.into) m.map.images) q) ≡ true
kept m M q e = ap is_some (get-insert pair_total M (m.from, m.into) m.map.images q) ∙ either (eq_by_cmp pair_cmp q (m.from, m.into))
  where
    either : (b : Bool) → is_some (cond b (Some m.map.images) (get M q)) ≡ true
    either true = refl
    either false = e

put : (m : MapRow) (M : FinMap pair_cmp (List (List ℕ))) (q : ℕ × ℕ) → IsPairOf m q
    → is_some (get (insert M (m.from, m.into) m.map.images) q) ≡ true
put m M q same = ap (λ p. is_some (get (insert M p m.map.images) q)) same
    ∙ ap is_some (get-insert pair_total M q m.map.images q
    ∙ ap (λ r. cond (is_eq r) (Some m.map.images) (get M q)) (tied_itself pair_total q))

-- **each pair that is put in is stored, and so is each that was**
pub stored_some : (ms : List MapRow) (M : FinMap pair_cmp (List (List ℕ))) (q : ℕ × ℕ)
    → is_some (get M q) ≡ true ⊎ ((k : ℕ) × (k < length ms) × ((d : MapRow) → IsPairOf (slice_index_or ms k d) q))
    → is_some (get (with_maps M ms) q) ≡ true
stored_some [] M q (inl e) = e
stored_some [] M q (inr (k, h, at)) = absurd (omega (arith, h))
stored_some (m ∷ ms) M q (inl e) = stored_some ms (insert M (m.from, m.into) m.map.images) q (inl (kept m M q e))
stored_some (m ∷ ms) M q (inr (zero, h, at)) = stored_some ms (insert M (m.from, m.into) m.map.images) q (inl (put m M q (at m)))
stored_some (m ∷ ms) M q (inr (suc k, h, at)) =
    stored_some ms (insert M (m.from, m.into) m.map.images) q (inr (k, omega (arith, h), at))
