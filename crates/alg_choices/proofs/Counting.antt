-- The number of the pairs that a lattice stores after an insertion and did not store before.
use Rattle.std.proofs.Common.{◌≡◌, ◌≢◌, ◌⊎◌, ℕ, zero, suc, ◌+◌, ◌-◌, true, false, cond, List, [], ◌∷◌, length, refl, ap, sym, ◌∙◌, inl, inr, ⊎_elim, arith, Option, Some, None, Ordering, Less, Equal, Greater, AllPairs}
use Rattle.std.specs.List.{Contains}
use Rattle.std.specs.Option.{is_some}
use Rattle.std.specs.FinMap.{FinMap, IsAntisymmetric, get, remove, len, same_map, get-remove, get-empty, len-remove, empty_of_len}
use Rattle.std.specs.Cmp.{IsTotalOrder}
use Rattle.std.specs.Ordering.{eq_by_cmp, is_eq}
use Rattle.std.proofs.lemmas.Bool.{cases_Bool, cases_eq}
use Rattle.std.proofs.lemmas.Cmp.{tied_itself}
use Rattle.alg_model.specs.Lattices.{Lattice, Grows}
use Rattle.alg_compatible.proofs.Tables.{pair_total, pair_antisymmetric}
use Rattle.alg_compatible.proofs.Transfer.{stored_one}
use Rattle.alg_choices.specs.Linking.{AreNewPairs}

-- a value, if there is one
some_value : {A : Type 0} (o : Option A) → ((a : A) × (o ≡ Some a)) ⊎ (o ≡ None)
some_value (Some a) = inl (a, refl)
some_value None = inr refl

none_is_not : {A B : Type 0} (v : A) → None ≡ Some v → B
none_is_not v e = cc

tied : (r : Ordering) → is_eq r ≡ true → r ≡ Equal
tied Less e = cc
tied Equal e = refl
tied Greater e = cc

same_option : {A : Type 0} (o p : Option A) → ((a : A) → o ≡ Some a → p ≡ Some a)
    → ((a : A) → p ≡ Some a → o ≡ Some a) → o ≡ p
same_option (Some a) p to from = sym (to a refl)
same_option None (Some a) to from = from a refl
same_option None None to from = refl

module _ {K : Type 0} {R : K → K → Ordering} (T : IsTotalOrder R) (A : IsAntisymmetric R) where
  -- a key is another, as the order tells
  key_or_not : (p q : K)
      → ((q ≡ p) × (eq_by_cmp R q p ≡ true)) ⊎ ((q ≢ p) × (eq_by_cmp R q p ≡ false))
  key_or_not p q = ⊎_elim
      (λ e. inl (A q p (tied (R q p) e), e))
      (λ e. inr (λ f. let g : eq_by_cmp R q p ≡ true = ap (λ x. is_eq (R q x)) (sym f) ∙ ap is_eq (tied_itself T q) in cc, e))
      (cases_Bool (eq_by_cmp R q p))

module _ {K X : Type 0} {R : K → K → Ordering} (T : IsTotalOrder R) (A : IsAntisymmetric R) where
  -- what is left after a key is removed
  left : (m : FinMap R X) (p q : K) (v : X) → get (remove m p) q ≡ Some v
      → (q ≢ p) × (get m q ≡ Some v)
  left m p q v e = ⊎_elim
      (λ (f, b). none_is_not v (sym (get-remove T m p q ∙ ap (λ x. cond x None (get m q)) b) ∙ e))
      (λ (n, b). (n, sym (get-remove T m p q ∙ ap (λ x. cond x None (get m q)) b) ∙ e))
      (key_or_not T A p q)

  kept : (m : FinMap R X) (p q : K) (v : X) → q ≢ p → get m q ≡ Some v → get (remove m p) q ≡ Some v
  kept m p q v n e = ⊎_elim
      (λ (f, b). absurd (n f))
      (λ (n, b). get-remove T m p q ∙ ap (λ x. cond x None (get m q)) b ∙ e)
      (key_or_not T A p q)

  -- a map is longer by one than without a key that it has
  len_without : (m : FinMap R X) (p : K) (v : X) → get m p ≡ Some v → len m ≡ suc (len (remove m p))
  len_without m p v e = ⊎_elim
      (λ (z : len m ≡ 0). let f : get m p ≡ None = ap (λ x. get x p) (empty_of_len m z) ∙ get-empty R p in cc)
      (λ n. let f : len (remove m p) ≡ len m - 1 = len-remove T m p ∙ ap (λ x. cond (is_some x) (len m - 1) (len m)) e in omega arith)
      (cases_eq (len m) 0)

  -- **a map that has all of another, and what it has at the keys ps besides, is longer by the
  -- number of them**
  pub len_of_more : (ps : List K) (l m : FinMap R X)
      → ((q : K) (v : X) → get l q ≡ Some v → get m q ≡ Some v)
      → AllPairs (λ p q. p ≢ q) ps
      → ((p : K) → Contains ps p → ((v : X) × (get m p ≡ Some v)) × (get l p ≡ None))
      → ((q : K) (v : X) → get m q ≡ Some v → (get l q ≡ Some v) ⊎ Contains ps q)
      → len m ≡ len l + length ps
  len_of_more [] l m grows apart new all =
      let e : m ≡ l = same_map T A m l (λ q. same_option (get m q) (get l q)
      (λ v e. ⊎_elim (λ f. f) (λ ((k, b, f) : Contains [] q). absurd (omega arith)) (all q v e)) (λ v e. grows q v e)) in
      omega (arith, ap len e)
  len_of_more (p ∷ ps) l m grows apart new all =
      let (has, none) = new p (0, omega arith, refl) in
      let (w, e) = has in
      let rest : len (remove m p) ≡ len l + length ps = len_of_more ps l (remove m p)
      (λ q v f. kept m p q v (λ g. let h : get l p ≡ Some v = ap (get l) (sym g) ∙ f in cc) (grows q v f))
      (λ i j d a b. apart (suc i) (suc j) d (omega arith) (omega arith))
      (λ q (k, b, f).
      let ((v, g), n) = new q (suc k, omega arith, f) in
      ((v, kept m p q v (λ h. apart 0 (suc k) q (omega arith) (omega arith) (sym h ∙ sym f)) g), n))
      (λ q v f.
      let (n, g) = left m p q v f in
      ⊎_elim (λ h. inl h) (λ c. inr (after q n c)) (all q v g)) in
      omega (arith, len_without m p w e)
    where
      after : (q : K) → q ≢ p → Contains (p ∷ ps) q → Contains ps q
      after q n (zero, b, f) = absurd (n (sym f))
      after q n (suc k, b, f) = (k, omega arith, f)

-- **there are as many of them as the finite map has grown by**
pub new_pairs : {L M : Lattice} → Grows L M → {ps : List (ℕ × ℕ)} → AreNewPairs L M ps
    → len M.maps ≡ len L.maps + length ps
new_pairs {L} {M} G {ps} N = len_of_more pair_total pair_antisymmetric ps L.maps M.maps
    (λ q v e. (G.maps (record { found = e })).found)
    N.apart
    (λ (i, k) c. let ((m, h), none) = (N.exactly i k).0 c in
    ((m, h.found), ⊎_elim (λ (n, e). absurd (none (n, record { found = e }))) (λ e. e) (some_value (get L.maps (i, k)))))
    (λ (i, k) v e. ⊎_elim
    (λ (n, f). inl (f ∙ ap Some (stored_one {L = M} (G.maps (record { found = f })) (record { found = e }))))
    (λ none. inr ((N.exactly i k).1 ((v, record { found = e }), λ (n, h). let f : get L.maps (i, k) ≡ Some n = h.found in cc)))
    (some_value (get L.maps (i, k))))
