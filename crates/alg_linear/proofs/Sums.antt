-- Sums f 0 + .. + f (n - 1) in a commutative ring.
use Rattle.std.proofs.Common.{◌≡◌, ◌≢◌, ℕ, zero, suc, ◌<◌, refl, ap, ap₂, sym, ◌∙◌, arith}
use Rattle.alg_model.specs.Coefficients.{Ops}
use Rattle.alg_rings.specs.Laws.{RingLaws}
use Rattle.alg_rings.proofs.Rings.{add_zero, mul_zero, neg_zero, neg_sum}
use Rattle.alg_rings.proofs.Folds.{sums, fold_same, fold_unit, fold_both, fold_swap, fold_last}
use Rattle.alg_linear.specs.PrivateGrids.{total}

pub total_same : {A : Type 0} (o : Ops A) (n : ℕ) (f g : ℕ → A) → ((k : ℕ) → k < n → f k ≡ g k) → total o n f ≡ total o n g
total_same o n f g h = fold_same o.zero o.add n f g h

module _ {A : Type 0} {o : Ops A} (R : RingLaws o) where
  open o use {zero as O, one as I, add as ◌⊕◌, mul as ◌⊗◌, neg}

  infixl 60 ◌⊕◌
  infixl 70 ◌⊗◌
  pub total_zero : (n : ℕ) (f : ℕ → A) → ((k : ℕ) → k < n → f k ≡ O) → total o n f ≡ O
  total_zero n f h = fold_unit (sums R) n f h

  pub total_add : (n : ℕ) (f g : ℕ → A) → total o n (λ k. f k ⊕ g k) ≡ total o n f ⊕ total o n g
  total_add n f g = fold_both (sums R) n f g

  pub total_neg : (n : ℕ) (f : ℕ → A) → total o n (λ k. neg (f k)) ≡ neg (total o n f)
  total_neg zero f = sym (neg_zero R)
  total_neg (suc n) f = ap (λ w. neg (f 0) ⊕ w) (total_neg n (λ k. f (suc k))) ∙ sym (neg_sum R (f 0) _)

  pub total_scale : (n : ℕ) (c : A) (f : ℕ → A) → total o n (λ k. c ⊗ f k) ≡ c ⊗ total o n f
  total_scale zero c f = sym (mul_zero R c)
  total_scale (suc n) c f = ap (λ w. c ⊗ f 0 ⊕ w) (total_scale n c (λ k. f (suc k))) ∙ sym (R.mul_add c (f 0) _)

  pub total_scale_right : (n : ℕ) (f : ℕ → A) (c : A) → total o n (λ k. f k ⊗ c) ≡ total o n f ⊗ c
  total_scale_right n f c =
      total_same o n (λ k. f k ⊗ c) (λ k. c ⊗ f k) (λ k l. R.mul_comm (f k) c) ∙ total_scale n c f ∙ R.mul_comm c (total o n f)

  pub total_swap : (n m : ℕ) (f : ℕ → ℕ → A)
      → total o n (λ i. total o m (f i)) ≡ total o m (λ j. total o n (λ i. f i j))
  total_swap n m f = fold_swap (sums R) n m f

  -- a sum whose members are zero but for one
  pub total_single : (n : ℕ) (f : ℕ → A) (j : ℕ) → j < n → ((k : ℕ) → k < n → k ≢ j → f k ≡ O) → total o n f ≡ f j
  total_single zero f j l h = absurd (omega arith)
  total_single (suc n) f zero l h =
      ap (λ w. f 0 ⊕ w) (total_zero n (λ k. f (suc k)) (λ k m. h (suc k) (omega arith) (omega arith))) ∙ add_zero R (f 0)
  total_single (suc n) f (suc j) l h =
      ap₂ ◌⊕◌ (h 0 (omega arith) (omega arith))
      (total_single n (λ k. f (suc k)) j (omega arith) (λ k m e. h (suc k) (omega arith) (λ s. e (omega arith)))) ∙ R.zero_add (f (suc j))

  -- a sum whose members are zero but for two
  pub total_pair : (n : ℕ) (f : ℕ → A) (i j : ℕ) → i < n → j < n → i ≢ j
      → ((k : ℕ) → k < n → k ≢ i → k ≢ j → f k ≡ O) → total o n f ≡ f i ⊕ f j
  total_pair zero f i j li lj d h = absurd (omega arith)
  total_pair (suc n) f zero zero li lj d h = absurd (d refl)
  total_pair (suc n) f zero (suc j) li lj d h =
      ap (λ w. f 0 ⊕ w) (total_single n (λ k. f (suc k)) j (omega arith)
      (λ k m e. h (suc k) (omega arith) (omega arith) (λ s. e (omega arith))))
  total_pair (suc n) f (suc i) zero li lj d h =
      ap (λ w. f 0 ⊕ w) (total_single n (λ k. f (suc k)) i (omega arith)
      (λ k m e. h (suc k) (omega arith) (λ s. e (omega arith)) (omega arith))) ∙ R.add_comm (f 0) (f (suc i))
  total_pair (suc n) f (suc i) (suc j) li lj d h =
      ap₂ ◌⊕◌ (h 0 (omega arith) (omega arith) (omega arith))
      (total_pair n (λ k. f (suc k)) i j (omega arith) (omega arith) (λ e. d (ap suc e))
      (λ k m a b. h (suc k) (omega arith) (λ s. a (omega arith)) (λ s. b (omega arith)))) ∙ R.zero_add (f (suc i) ⊕ f (suc j))

  -- the sum with its last member taken off
  pub total_last : (n : ℕ) (f : ℕ → A) → total o (suc n) f ≡ total o n f ⊕ f n
  total_last n f = fold_last (sums R) n f
