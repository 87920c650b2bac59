-- Gauss-Jordan elimination, one column after another: what holds of the columns that are done, and that each step keeps it.
use Rattle.std.proofs.Common.{◌≡◌, ◌≢◌, ◌⊎◌, ℕ, ◌+◌, ◌<◌, ◌≤◌, List, [], ◌∷◌, ◌++◌, length, get_or, cond, ◌==◌, ap, ap₂, sym, ◌∙◌, inl, inr, ⊎_elim, arith}
use Rattle.std.proofs.lemmas.Bool.{eq-eqb, ne_eqb, cases_eq, cases_lt}
use Rattle.std.proofs.lemmas.List.{get_or_append_left, get_or_push, length_push}
use Rattle.alg_model.specs.Coefficients.{Ops}
use Rattle.alg_rings.specs.Laws.{RingLaws}
use Rattle.alg_rings.proofs.Rings.{mul_zero, zero_mul, add_zero, mul_one}
use Rattle.alg_linear.specs.PrivateGrids.{delta, IsReducedTo}
use Rattle.alg_linear.proofs.Grids.{delta_same, delta_other}
use Rattle.alg_linear.proofs.RowOperations.{swap_rows, scale_row, add_row, swapped, swapped_other, swapped_first, swapped_to_first}

pub reduced_start : {A : Type 0} (o : Ops A) (n : ℕ) (X : ℕ → ℕ → A) → IsReducedTo o n 0 [] X
reduced_start o n X = record {
  rising = λ i j l h. absurd (omega arith);
  within = λ i h. absurd (omega arith);
  rows_enough = omega arith;
  pivot_column = λ r i l h. absurd (omega arith);
  before_pivot = λ i k l h. absurd (omega arith);
  rest_zero = λ r k l h e. absurd (omega arith);
}

-- rows below n alone count
pub reduced_same : {A : Type 0} (o : Ops A) (n m : ℕ) (pivots : List ℕ) (X Y : ℕ → ℕ → A)
    → ((i j : ℕ) → i < n → j < m → Y i j ≡ X i j) → IsReducedTo o n m pivots X → IsReducedTo o n m pivots Y
reduced_same o n m pivots X Y e h = record {
  rising = h.rising;
  within = h.within;
  rows_enough = h.rows_enough;
  pivot_column = λ r i lr li. e r (get_or pivots i 0) lr (h.within i li) ∙ h.pivot_column r i lr li;
  before_pivot = λ i k li lk. let w : get_or pivots i 0 < m = h.within i li in
      e i k (omega (arith, h.rows_enough)) (omega arith) ∙ h.before_pivot i k li lk;
  rest_zero = λ r k lr ln lk. e r k ln lk ∙ h.rest_zero r k lr ln lk;
}

-- no row from the first one without a pivot on has an entry in column m
pub reduced_without_pivot : {A : Type 0} (o : Ops A) (n m : ℕ) (pivots : List ℕ) (X : ℕ → ℕ → A)
    → IsReducedTo o n m pivots X → ((r : ℕ) → length pivots ≤ r → r < n → X r m ≡ o.zero) → IsReducedTo o n (m + 1) pivots X
reduced_without_pivot o n m pivots X h z = record {
  rising = h.rising;
  within = λ i li. let w : get_or pivots i 0 < m = h.within i li in omega arith;
  rows_enough = h.rows_enough;
  pivot_column = h.pivot_column;
  before_pivot = h.before_pivot;
  rest_zero = λ r k lr ln lk. ⊎_elim (λ e. ap (X r) e ∙ z r lr ln) (λ d. h.rest_zero r k lr ln (omega arith)) (cases_eq k m);
}

-- the entry of row i in column m, with its sign turned, for each row but r
abbrev pub clearing : {A : Type 0} → Ops A → ℕ → ℕ → (ℕ → ℕ → A) → ℕ → A
clearing o r m X i = cond (i == r) o.zero (o.neg (X i m))

pub clearing_pivot : {A : Type 0} (o : Ops A) (r m : ℕ) (X : ℕ → ℕ → A) (i : ℕ) → i ≡ r → clearing o r m X i ≡ o.zero
clearing_pivot o r m X i e = ap (λ b. cond b o.zero (o.neg (X i m))) (eq-eqb i r e)

pub clearing_other : {A : Type 0} (o : Ops A) (r m : ℕ) (X : ℕ → ℕ → A) (i : ℕ) → i ≢ r → clearing o r m X i ≡ o.neg (X i m)
clearing_other o r m X i d = ap (λ b. cond b o.zero (o.neg (X i m))) (ne_eqb i r d)

module _ {A : Type 0} {o : Ops A} (R : RingLaws o) (n m : ℕ) (pivots : List ℕ) (X Y : ℕ → ℕ → A) (h : IsReducedTo o n m pivots X) where
  open o use {zero as O, one as I, add as ◌⊕◌, mul as ◌⊗◌, neg}

  infixl 60 ◌⊕◌
  infixl 70 ◌⊗◌
  -- row s comes to the first place without a pivot
  pub reduced_swapped : (s : ℕ) → length pivots ≤ s → s < n
      → ((i j : ℕ) → i < n → Y i j ≡ swap_rows o (length pivots) s X i j) → IsReducedTo o n m pivots Y
  reduced_swapped s ls sn e = record {
    rising = h.rising;
    within = h.within;
    rows_enough = h.rows_enough;
    pivot_column = λ r i lr li. e r _ lr ∙ column r i lr li;
    before_pivot = λ i k li lk. e i k (omega (arith, h.rows_enough))
        ∙ ap (λ w. X w k) (swapped_other (length pivots) s i (omega arith) (omega arith)) ∙ h.before_pivot i k li lk;
    rest_zero = λ r k lr ln lk. e r k ln ∙ rest r k lr ln lk;
  }
    where
      column : (r i : ℕ) → r < n → i < length pivots → X (swapped (length pivots) s r) (get_or pivots i 0) ≡ delta o r i
      column r i lr li =
          ⊎_elim
          (λ a. ap (λ w. X w (get_or pivots i 0)) (ap (swapped (length pivots) s) a ∙ swapped_first (length pivots) s)
          ∙ h.pivot_column s i sn li ∙ delta_other o s i (omega arith) ∙ sym (delta_other o r i (omega arith)))
          (λ a. ⊎_elim
          (λ b. ap (λ w. X w (get_or pivots i 0)) (ap (swapped (length pivots) s) b ∙ swapped_to_first (length pivots) s)
          ∙ h.pivot_column (length pivots) i (omega arith) li
          ∙ delta_other o (length pivots) i (omega arith) ∙ sym (delta_other o r i (omega arith)))
          (λ b. ap (λ w. X w (get_or pivots i 0)) (swapped_other (length pivots) s r a b) ∙ h.pivot_column r i lr li)
          (cases_eq r s))
          (cases_eq r (length pivots))

      rest : (r k : ℕ) → length pivots ≤ r → r < n → k < m → X (swapped (length pivots) s r) k ≡ O
      rest r k lr ln lk =
          ⊎_elim
          (λ a. ap (λ w. X w k) (ap (swapped (length pivots) s) a ∙ swapped_first (length pivots) s) ∙ h.rest_zero s k ls sn lk)
          (λ a. ⊎_elim
          (λ b. ap (λ w. X w k) (ap (swapped (length pivots) s) b ∙ swapped_to_first (length pivots) s)
          ∙ h.rest_zero (length pivots) k (omega arith) (omega arith) lk)
          (λ b. ap (λ w. X w k) (swapped_other (length pivots) s r a b) ∙ h.rest_zero r k lr ln lk)
          (cases_eq r s))
          (cases_eq r (length pivots))

  scaled_at : (u : A) (r i j : ℕ) → i ≡ r → scale_row o r u X i j ≡ u ⊗ X i j
  scaled_at u r i j e = ap (λ b. cond b (u ⊗ X i j) (X i j)) (eq-eqb i r e)

  scaled_other : (u : A) (r i j : ℕ) → i ≢ r → scale_row o r u X i j ≡ X i j
  scaled_other u r i j d = ap (λ b. cond b (u ⊗ X i j) (X i j)) (ne_eqb i r d)

  scaled_zero : (u : A) (r i j : ℕ) → X i j ≡ O → scale_row o r u X i j ≡ O
  scaled_zero u r i j z = ⊎_elim (λ e. scaled_at u r i j e ∙ ap (λ w. u ⊗ w) z ∙ mul_zero R u) (λ d. scaled_other u r i j d ∙ z) (cases_eq i r)

  pub reduced_scaled : (u : A) → ((i j : ℕ) → i < n → Y i j ≡ scale_row o (length pivots) u X i j) → IsReducedTo o n m pivots Y
  reduced_scaled u e = record {
    rising = h.rising;
    within = h.within;
    rows_enough = h.rows_enough;
    pivot_column = λ r i lr li. e r _ lr
        ∙ ⊎_elim
        (λ a. let d : delta o r i ≡ O = delta_other o r i (omega arith) in
        scaled_zero u (length pivots) r _ (h.pivot_column r i lr li ∙ d) ∙ sym d)
        (λ a. scaled_other u (length pivots) r _ a ∙ h.pivot_column r i lr li)
        (cases_eq r (length pivots));
    before_pivot = λ i k li lk. e i k (omega (arith, h.rows_enough)) ∙ scaled_zero u (length pivots) i k (h.before_pivot i k li lk);
    rest_zero = λ r k lr ln lk. e r k ln ∙ scaled_zero u (length pivots) r k (h.rest_zero r k lr ln lk);
  }

  pub reduced_cleared : length pivots < n → X (length pivots) m ≡ I
      → ((i j : ℕ) → i < n → Y i j ≡ add_row o (length pivots) (clearing o (length pivots) m X) X i j) → IsReducedTo o n (m + 1) (pivots ++ m ∷ []) Y
  reduced_cleared ln one e = record {
    rising = rising_more;
    within = within_more;
    rows_enough = omega (arith, length_push pivots m);
    pivot_column = column_more;
    before_pivot = before_more;
    rest_zero = rest_more;
  }
    where
      clear : ℕ → A
      clear = clearing o (length pivots) m X

      place : (i : ℕ) → i < length (pivots ++ m ∷ []) → (i < length pivots) ⊎ (i ≡ length pivots)
      place i l = ⊎_elim (λ a. inl a) (λ a. inr (omega (arith, length_push pivots m))) (cases_lt i (length pivots))

      old : (i : ℕ) → i < length pivots → get_or (pivots ++ m ∷ []) i 0 ≡ get_or pivots i 0
      old i l = get_or_append_left pivots (m ∷ []) 0 i l

      new : (i : ℕ) → i ≡ length pivots → get_or (pivots ++ m ∷ []) i 0 ≡ m
      new i q = get_or_push pivots m 0 i (sym q)

      -- where the pivot's row is zero, nothing changes
      kept : (i j : ℕ) → i < n → X (length pivots) j ≡ O → Y i j ≡ X i j
      kept i j li z = e i j li ∙ ap (λ w. X i j ⊕ clear i ⊗ w) z ∙ ap (λ w. X i j ⊕ w) (mul_zero R (clear i)) ∙ add_zero R (X i j)

      -- the pivot's row doesn't change
      own : (i j : ℕ) → i ≡ length pivots → Y i j ≡ X i j
      own i j q = e i j (omega arith) ∙ ap (λ w. X i j ⊕ w ⊗ X (length pivots) j) (clearing_pivot o (length pivots) m X i q)
          ∙ ap (λ w. X i j ⊕ w) (zero_mul R (X (length pivots) j)) ∙ add_zero R (X i j)

      cleared : (i : ℕ) → i < n → i ≢ length pivots → Y i m ≡ O
      cleared i li d = e i m li ∙ ap₂ (λ v w. X i m ⊕ v ⊗ w) (clearing_other o (length pivots) m X i d) one ∙ ap (λ w. X i m ⊕ w) (mul_one R (neg (X i m))) ∙ R.add_neg (X i m)

      rising_more : (i j : ℕ) → i < j → j < length (pivots ++ m ∷ []) → get_or (pivots ++ m ∷ []) i 0 < get_or (pivots ++ m ∷ []) j 0
      rising_more i j l lj =
          ⊎_elim
          (λ a. omega (arith, old i (omega arith), old j a, h.rising i j l a))
          (λ a. omega (arith, old i (omega arith), new j a, h.within i (omega arith)))
          (place j lj)

      within_more : (i : ℕ) → i < length (pivots ++ m ∷ []) → get_or (pivots ++ m ∷ []) i 0 < m + 1
      within_more i l = ⊎_elim (λ a. omega (arith, old i a, h.within i a)) (λ a. omega (arith, new i a)) (place i l)

      column_more : (r i : ℕ) → r < n → i < length (pivots ++ m ∷ []) → Y r (get_or (pivots ++ m ∷ []) i 0) ≡ delta o r i
      column_more r i lr li =
          ⊎_elim
          (λ a. ap (Y r) (old i a)
          ∙ kept r (get_or pivots i 0) lr (h.pivot_column (length pivots) i ln a ∙ delta_other o (length pivots) i (omega arith))
          ∙ h.pivot_column r i lr a)
          (λ a. ap (Y r) (new i a)
          ∙ ⊎_elim (λ b. own r m b ∙ ap (λ w. X w m) b ∙ one ∙ sym (delta_same o r i (omega arith)))
          (λ b. cleared r lr b ∙ sym (delta_other o r i (λ c. b (c ∙ a)))) (cases_eq r (length pivots)))
          (place i li)

      before_more : (i k : ℕ) → i < length (pivots ++ m ∷ []) → k < get_or (pivots ++ m ∷ []) i 0 → Y i k ≡ O
      before_more i k li lk =
          ⊎_elim
          (λ a. let w : get_or pivots i 0 < m = h.within i a in let v : k < get_or pivots i 0 = omega (arith, old i a) in
          kept i k (omega arith) (h.rest_zero (length pivots) k (omega arith) ln (omega arith)) ∙ h.before_pivot i k a v)
          (λ a. let v : k < m = omega (arith, new i a) in own i k a ∙ h.rest_zero i k (omega arith) (omega arith) v)
          (place i li)

      rest_more : (r k : ℕ) → length (pivots ++ m ∷ []) ≤ r → r < n → k < m + 1 → Y r k ≡ O
      rest_more r k lr rn lk =
          let above : length pivots < r = omega (arith, length_push pivots m) in
          ⊎_elim (λ a. ap (Y r) a ∙ cleared r rn (omega arith))
          (λ a. kept r k rn (h.rest_zero (length pivots) k (omega arith) ln (omega arith)) ∙ h.rest_zero r k (omega arith) rn (omega arith))
          (cases_eq k m)
