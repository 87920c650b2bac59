-- A finite map with all keys of another one isn't smaller.
use Rattle.std.proofs.Common.{◌≡◌, ◌≢◌, ℕ, zero, suc, ◌-◌, ◌≤◌, List, [], ◌∷◌, length, sym, ap, ◌∙◌, cond, true, false, arith, Some, None, is_some, ⊎_elim, Ordering}
use Rattle.std.specs.Cmp.{IsTotalOrder}
use Rattle.std.specs.Ordering.{eq_by_cmp, is_eq}
use Rattle.std.specs.FinMap.{FinMap, get, remove, len, entries, get-entries, len-entries, empty_of_len, get-empty, get-remove, len-remove, contains_key, find}
use Rattle.std.proofs.lemmas.Bool.{cases_Bool, cases_eq}
use Rattle.std.proofs.lemmas.Cmp.{tied_itself}

-- the key of a first entry is found
first_found : {K X : Type 0} {R : K → K → Ordering} → IsTotalOrder R → (es : List (K × X)) (n : ℕ)
    → length es ≡ suc n → (k : K) × (is_some (find R k es) ≡ true)
first_found T [] n e = absurd (omega (arith, e))
first_found {R = R} T ((k, x) ∷ es) n e =
    (k, ap (λ r. is_some (cond (is_eq r) (Some x) (find R k es))) (tied_itself T k))

module _ {K Z : Type 0} {R : K → K → Ordering} (T : IsTotalOrder R) where
  -- a key that is there makes the map one less
  one_less : (m : FinMap R Z) (k : K) → contains_key m k ≡ true
      → len (remove m k) ≡ len m - 1
  one_less m k h = len-remove T m k ∙ ap (λ b. cond b (len m - 1) (len m)) h

  not_empty : (m : FinMap R Z) (k : K) → contains_key m k ≡ true → len m ≢ 0
  not_empty m k h e =
      let found : contains_key m k ≡ false = ap (λ x. contains_key x k) (empty_of_len m e) ∙ ap is_some (get-empty R k) in
      cc

module _ {K X Y : Type 0} {R : K → K → Ordering} (T : IsTotalOrder R) where
  -- n has all keys of m
  abbrev HasKeys : FinMap R X → FinMap R Y → Type 0
  HasKeys m n = (q : K) → contains_key m q ≡ true → contains_key n q ≡ true

  removed_keys : (m : FinMap R X) (n : FinMap R Y) (k : K) → HasKeys m n
      → HasKeys (remove m k) (remove n k)
  removed_keys m n k has q h = ⊎_elim
      (λ tied. let none : contains_key (remove m k) q ≡ false
      = ap is_some (get-remove T m k q ∙ ap (λ b. cond b None (get m q)) tied) in absurd (let e : true ≡ false = sym h ∙ none in cc))
      (λ apart. ap is_some (get-remove T n k q ∙ ap (λ b. cond b None (get n q)) apart)
      ∙ has q (sym (ap is_some (get-remove T m k q ∙ ap (λ b. cond b None (get m q)) apart)) ∙ h))
      (cases_Bool (eq_by_cmp R q k))

  not_smaller_at : (c : ℕ) (m : FinMap R X) (n : FinMap R Y) → len m ≡ c → HasKeys m n
      → len m ≤ len n
  not_smaller_at zero m n e has = omega (arith, e)
  not_smaller_at (suc c) m n e has =
      let (k, found) = first_found T (entries m) c (sym (len-entries m) ∙ e) in
      let here : contains_key m k ≡ true = ap is_some (get-entries m k) ∙ found in
      let less : len (remove m k) ≡ len m - 1 = one_less T m k here in
      let also : len (remove n k) ≡ len n - 1 = one_less T n k (has k here) in
      let some : len n ≢ 0 = not_empty T n k (has k here) in
      let rest : len (remove m k) ≤ len (remove n k) = not_smaller_at c (remove m k) (remove n k) (omega (arith, less, e)) (removed_keys m n k has) in
      ⊎_elim (λ z. absurd (some z)) (λ p. omega (arith, less, also, rest, p)) (cases_eq (len n) 0)

  -- **a finite map with all keys of another one isn't smaller**
  pub not_smaller : (m : FinMap R X) (n : FinMap R Y) → HasKeys m n → len m ≤ len n
  not_smaller m n has = not_smaller_at (len m) m n (λ i. len m) has
