-- Row operations: to swap two rows, to multiply a row by an element with an inverse, and to add multiples of one row to the
-- others. Each is a product with an invertible matrix.
use Rattle.std.proofs.Common.{◌≡◌, ◌≢◌, ℕ, ◌<◌, Bool, true, false, cond, ◌==◌, refl, ap, ap₂, sym, ◌∙◌, ⊎_elim}
use Rattle.std.proofs.lemmas.Bool.{eq-eqb, ne_eqb, cases_eq}
use Rattle.alg_model.specs.Coefficients.{Ops}
use Rattle.alg_rings.specs.Laws.{RingLaws}
use Rattle.alg_rings.proofs.Rings.{zero_mul, add_zero, add_mul}
use Rattle.alg_linear.specs.PrivateGrids.{total, RowEquivalent}
use Rattle.alg_linear.proofs.Sums.{total_same, total_add, total_scale}
use Rattle.alg_linear.specs.PrivateGrids.{delta, grid_product}
use Rattle.alg_linear.proofs.Grids.{apply_delta, product_assoc, apply_same}

-- r for s and s for r
abbrev pub swapped : ℕ → ℕ → ℕ → ℕ
swapped r s i = cond (i == r) s (cond (i == s) r i)

module _ {A : Type 0} (o : Ops A) where
  abbrev pub swap_rows : ℕ → ℕ → (ℕ → ℕ → A) → ℕ → ℕ → A
  swap_rows r s X i j = X (swapped r s i) j

  -- row r times u
  abbrev pub scale_row : ℕ → A → (ℕ → ℕ → A) → ℕ → ℕ → A
  scale_row r u X i j = cond (i == r) (o.mul u (X i j)) (X i j)

  -- a i times row r added to row i
  abbrev pub add_row : ℕ → (ℕ → A) → (ℕ → ℕ → A) → ℕ → ℕ → A
  add_row r a X i j = o.add (X i j) (o.mul (a i) (X r j))

swapped_at : (r s i : ℕ) → i ≡ r → swapped r s i ≡ s
swapped_at r s i e = ap (λ b. cond b s (cond (i == s) r i)) (eq-eqb i r e)

swapped_second : (r s i : ℕ) → i ≢ r → i ≡ s → swapped r s i ≡ r
swapped_second r s i d e = ap (λ b. cond b s (cond (i == s) r i)) (ne_eqb i r d) ∙ ap (λ b. cond b r i) (eq-eqb i s e)

pub swapped_other : (r s i : ℕ) → i ≢ r → i ≢ s → swapped r s i ≡ i
swapped_other r s i d e = ap (λ b. cond b s (cond (i == s) r i)) (ne_eqb i r d) ∙ ap (λ b. cond b r i) (ne_eqb i s e)

pub swapped_first : (r s : ℕ) → swapped r s r ≡ s
swapped_first r s = swapped_at r s r refl

pub swapped_to_first : (r s : ℕ) → swapped r s s ≡ r
swapped_to_first r s = ⊎_elim (λ e. swapped_at r s s e ∙ e) (λ d. swapped_second r s s d refl) (cases_eq s r)

swapped_twice : (r s i : ℕ) → swapped r s (swapped r s i) ≡ i
swapped_twice r s i =
    ⊎_elim (λ e. ap (swapped r s) (swapped_at r s i e) ∙ swapped_to_first r s ∙ sym e)
    (λ d. ⊎_elim (λ e. ap (swapped r s) (swapped_second r s i d e) ∙ swapped_first r s ∙ sym e)
    (λ e. ap (swapped r s) (swapped_other r s i d e) ∙ swapped_other r s i d e) (cases_eq i s)) (cases_eq i r)

pub swapped_below : (n r s i : ℕ) → r < n → s < n → i < n → swapped r s i < n
swapped_below n r s i lr ls li = at (i == r) (i == s)
  where
    at : (a b : Bool) → cond a s (cond b r i) < n
    at true b = ls
    at false true = lr
    at false false = li

module _ {A : Type 0} {o : Ops A} (R : RingLaws o) where
  open o use {zero as O, one as I, add as ◌⊕◌, mul as ◌⊗◌, neg}

  infixl 60 ◌⊕◌
  infixl 70 ◌⊗◌
  pub equivalent_itself : (n : ℕ) (X Y : ℕ → ℕ → A) → ((i j : ℕ) → i < n → Y i j ≡ X i j) → RowEquivalent o n X Y
  equivalent_itself n X Y h = record {
    forward = delta o;
    back = delta o;
    forward_back = λ i j li lj. apply_delta R n (λ k. delta o k j) i li;
    back_forward = λ i j li lj. apply_delta R n (λ k. delta o k j) i li;
    moves = λ i j li. h i j li ∙ sym (apply_delta R n (λ k. X k j) i li);
  }

  -- one pair of inverses after another
  inverses : (n : ℕ) (E F G H : ℕ → ℕ → A)
      → ((i j : ℕ) → i < n → j < n → grid_product o n E F i j ≡ delta o i j)
      → ((i j : ℕ) → i < n → j < n → grid_product o n G H i j ≡ delta o i j)
      → (i j : ℕ) → i < n → j < n → grid_product o n (grid_product o n G E) (grid_product o n F H) i j ≡ delta o i j
  inverses n E F G H p q i j li lj =
      product_assoc R n n G E (grid_product o n F H) i j
      ∙ apply_same o n G G _ (λ k. H k j) i (λ _ _. refl)
      (λ k lk. sym (product_assoc R n n E F H k j)
      ∙ apply_same o n (grid_product o n E F) (delta o) (λ l. H l j) (λ l. H l j) k (λ l ll. p k l lk ll) (λ _ _. refl)
      ∙ apply_delta R n (λ l. H l j) k lk)
      ∙ q i j li lj

  pub equivalent_then : (n : ℕ) (X Y Z : ℕ → ℕ → A) → RowEquivalent o n X Y → RowEquivalent o n Y Z → RowEquivalent o n X Z
  equivalent_then n X Y Z p q = record {
    forward = grid_product o n q.forward p.forward;
    back = grid_product o n p.back q.back;
    forward_back = inverses n p.forward p.back q.forward q.back p.forward_back q.forward_back;
    back_forward = inverses n q.back q.forward p.back p.forward q.back_forward p.back_forward;
    moves = λ i j li. q.moves i j li
        ∙ apply_same o n q.forward q.forward _ _ i (λ _ _. refl) (λ k lk. p.moves k j lk)
        ∙ sym (product_assoc R n n q.forward p.forward X i j);
  }

  -- what acts on rows, commutes with products and can be undone is a product with an invertible matrix
  row_operation : (n : ℕ) (f g : (ℕ → ℕ → A) → ℕ → ℕ → A)
      → ((X Y : ℕ → ℕ → A) (i j : ℕ) → f (grid_product o n X Y) i j ≡ grid_product o n (f X) Y i j)
      → ((X Y : ℕ → ℕ → A) (i j : ℕ) → g (grid_product o n X Y) i j ≡ grid_product o n (g X) Y i j)
      → ((X Y : ℕ → ℕ → A) (i j : ℕ) → i < n → ((k : ℕ) → k < n → X k j ≡ Y k j) → f X i j ≡ f Y i j)
      → ((X Y : ℕ → ℕ → A) (i j : ℕ) → i < n → ((k : ℕ) → k < n → X k j ≡ Y k j) → g X i j ≡ g Y i j)
      → ((X : ℕ → ℕ → A) (i j : ℕ) → f (g X) i j ≡ X i j)
      → ((X : ℕ → ℕ → A) (i j : ℕ) → g (f X) i j ≡ X i j)
      → (X Y : ℕ → ℕ → A) → ((i j : ℕ) → i < n → Y i j ≡ f X i j) → RowEquivalent o n X Y
  row_operation n f g fp gp fl gl fg gf X Y h = record {
    forward = f (delta o);
    back = g (delta o);
    forward_back = λ i j li lj. sym (fp (delta o) (g (delta o)) i j)
        ∙ fl _ (g (delta o)) i j li (λ k lk. apply_delta R n (λ l. g (delta o) l j) k lk) ∙ fg (delta o) i j;
    back_forward = λ i j li lj. sym (gp (delta o) (f (delta o)) i j)
        ∙ gl _ (f (delta o)) i j li (λ k lk. apply_delta R n (λ l. f (delta o) l j) k lk) ∙ gf (delta o) i j;
    moves = λ i j li. h i j li
        ∙ fl X (grid_product o n (delta o) X) i j li (λ k lk. sym (apply_delta R n (λ l. X l j) k lk))
        ∙ fp (delta o) X i j;
  }

  pub equivalent_swapped : (n r s : ℕ) (X Y : ℕ → ℕ → A) → r < n → s < n
      → ((i j : ℕ) → i < n → Y i j ≡ swap_rows o r s X i j) → RowEquivalent o n X Y
  equivalent_swapped n r s X Y lr ls h =
      row_operation n (swap_rows o r s) (swap_rows o r s) (λ X Y i j. refl) (λ X Y i j. refl)
      (λ X Y i j li e. e (swapped r s i) (swapped_below n r s i lr ls li))
      (λ X Y i j li e. e (swapped r s i) (swapped_below n r s i lr ls li))
      (λ X i j. ap (λ k. X k j) (swapped_twice r s i)) (λ X i j. ap (λ k. X k j) (swapped_twice r s i)) X Y h

  scale_product : (n r : ℕ) (u : A) (X Y : ℕ → ℕ → A) (i j : ℕ)
      → scale_row o r u (grid_product o n X Y) i j ≡ grid_product o n (scale_row o r u X) Y i j
  scale_product n r u X Y i j = at (i == r)
    where
      at : (b : Bool) → cond b (u ⊗ grid_product o n X Y i j) (grid_product o n X Y i j)
          ≡ total o n (λ k. cond b (u ⊗ X i k) (X i k) ⊗ Y k j)
      at true = sym (total_scale R n u (λ k. X i k ⊗ Y k j)) ∙ total_same o n _ _ (λ k _. sym (R.mul_assoc u (X i k) (Y k j)))
      at false = refl

  scale_back : (r : ℕ) (u v : A) → u ⊗ v ≡ I → (X : ℕ → ℕ → A) (i j : ℕ) → scale_row o r u (scale_row o r v X) i j ≡ X i j
  scale_back r u v e X i j = at (i == r)
    where
      at : (b : Bool) → cond b (u ⊗ cond b (v ⊗ X i j) (X i j)) (cond b (v ⊗ X i j) (X i j)) ≡ X i j
      at true = sym (R.mul_assoc u v (X i j)) ∙ ap (λ w. w ⊗ X i j) e ∙ R.one_mul (X i j)
      at false = refl

  scale_local : (n r : ℕ) (u : A) (X Y : ℕ → ℕ → A) (i j : ℕ) → i < n → ((k : ℕ) → k < n → X k j ≡ Y k j)
      → scale_row o r u X i j ≡ scale_row o r u Y i j
  scale_local n r u X Y i j li e = ap (λ w. cond (i == r) (u ⊗ w) w) (e i li)

  pub equivalent_scaled : (n r : ℕ) (u v : A) (X Y : ℕ → ℕ → A) → u ⊗ v ≡ I
      → ((i j : ℕ) → i < n → Y i j ≡ scale_row o r u X i j) → RowEquivalent o n X Y
  equivalent_scaled n r u v X Y e h =
      row_operation n (scale_row o r u) (scale_row o r v) (scale_product n r u) (scale_product n r v)
      (scale_local n r u) (scale_local n r v) (scale_back r u v e) (scale_back r v u (R.mul_comm v u ∙ e)) X Y h

  add_product : (n r : ℕ) (a : ℕ → A) (X Y : ℕ → ℕ → A) (i j : ℕ)
      → add_row o r a (grid_product o n X Y) i j ≡ grid_product o n (add_row o r a X) Y i j
  add_product n r a X Y i j =
      ap (λ w. grid_product o n X Y i j ⊕ w) (sym (total_scale R n (a i) (λ k. X r k ⊗ Y k j))
      ∙ total_same o n _ _ (λ k _. sym (R.mul_assoc (a i) (X r k) (Y k j))))
      ∙ sym (total_add R n (λ k. X i k ⊗ Y k j) (λ k. a i ⊗ X r k ⊗ Y k j))
      ∙ total_same o n _ _ (λ k _. sym (add_mul R (X i k) (a i ⊗ X r k) (Y k j)))

  add_back : (r : ℕ) (a b : ℕ → A) → ((i : ℕ) → b i ⊕ a i ≡ O) → b r ≡ O → (X : ℕ → ℕ → A) (i j : ℕ)
      → add_row o r a (add_row o r b X) i j ≡ X i j
  add_back r a b e z X i j =
      ap (λ w. X i j ⊕ b i ⊗ X r j ⊕ a i ⊗ w) (ap (λ w. X r j ⊕ w ⊗ X r j) z ∙ ap (λ w. X r j ⊕ w) (zero_mul R (X r j)) ∙ add_zero R (X r j))
      ∙ R.add_assoc (X i j) (b i ⊗ X r j) (a i ⊗ X r j)
      ∙ ap (λ w. X i j ⊕ w) (sym (add_mul R (b i) (a i) (X r j)) ∙ ap (λ w. w ⊗ X r j) (e i) ∙ zero_mul R (X r j))
      ∙ add_zero R (X i j)

  add_local : (n r : ℕ) (a : ℕ → A) → r < n → (X Y : ℕ → ℕ → A) (i j : ℕ) → i < n → ((k : ℕ) → k < n → X k j ≡ Y k j)
      → add_row o r a X i j ≡ add_row o r a Y i j
  add_local n r a lr X Y i j li e = ap₂ (λ v w. v ⊕ a i ⊗ w) (e i li) (e r lr)

  pub equivalent_added : (n r : ℕ) (a : ℕ → A) (X Y : ℕ → ℕ → A) → r < n → a r ≡ O
      → ((i j : ℕ) → i < n → Y i j ≡ add_row o r a X i j) → RowEquivalent o n X Y
  equivalent_added n r a X Y lr z h =
      row_operation n (add_row o r a) (add_row o r (λ i. neg (a i))) (add_product n r a) (add_product n r (λ i. neg (a i)))
      (add_local n r a lr) (add_local n r (λ i. neg (a i)) lr)
      (add_back r a (λ i. neg (a i)) (λ i. R.add_comm (neg (a i)) (a i) ∙ R.add_neg (a i))
      (sym (R.zero_add (neg (a r))) ∙ ap (λ w. w ⊕ neg (a r)) (sym z) ∙ R.add_neg (a r)))
      (add_back r (λ i. neg (a i)) a (λ i. R.add_neg (a i)) z) X Y h
