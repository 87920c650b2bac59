-- Matrices as functions X i j of row and column, of which a number of rows and columns counts: products, the identity, and what
-- a matrix sends a column to.
use Rattle.std.proofs.Common.{◌≡◌, ◌≢◌, ℕ, ◌<◌, cond, refl, ap, ap₂, sym, ◌∙◌}
use Rattle.std.proofs.lemmas.Bool.{eq-eqb, ne_eqb}
use Rattle.alg_model.specs.Coefficients.{Ops}
use Rattle.alg_rings.specs.Laws.{RingLaws}
use Rattle.alg_rings.proofs.Rings.{mul_zero, zero_mul, mul_one, mul_neg, mul_left_comm}
use Rattle.alg_linear.specs.PrivateGrids.{total, delta, grid_apply, grid_product}
use Rattle.alg_linear.proofs.Sums.{total_same, total_zero, total_add, total_neg, total_scale, total_scale_right, total_swap, total_single}

pub delta_same : {A : Type 0} (o : Ops A) (i j : ℕ) → i ≡ j → delta o i j ≡ o.one
delta_same o i j e = ap (λ b. cond b o.one o.zero) (eq-eqb i j e)

pub delta_other : {A : Type 0} (o : Ops A) (i j : ℕ) → i ≢ j → delta o i j ≡ o.zero
delta_other o i j d = ap (λ b. cond b o.one o.zero) (ne_eqb i j d)

pub apply_same : {A : Type 0} (o : Ops A) (n : ℕ) (X Y : ℕ → ℕ → A) (x y : ℕ → A) (i : ℕ)
    → ((k : ℕ) → k < n → X i k ≡ Y i k) → ((k : ℕ) → k < n → x k ≡ y k) → grid_apply o n X x i ≡ grid_apply o n Y y i
apply_same o n X Y x y i p q = total_same o n (λ k. o.mul (X i k) (x k)) (λ k. o.mul (Y i k) (y k)) (λ k l. ap₂ o.mul (p k l) (q k l))

module _ {A : Type 0} {o : Ops A} (R : RingLaws o) where
  open o use {zero as O, one as I, add as ◌⊕◌, mul as ◌⊗◌, neg}

  infixl 60 ◌⊕◌
  infixl 70 ◌⊗◌
  pub apply_delta : (n : ℕ) (x : ℕ → A) (i : ℕ) → i < n → grid_apply o n (delta o) x i ≡ x i
  apply_delta n x i l =
      total_single R n (λ k. delta o i k ⊗ x k) i l
      (λ k m d. ap (λ w. w ⊗ x k) (delta_other o i k (λ e. d (sym e))) ∙ zero_mul R (x k))
      ∙ ap (λ w. w ⊗ x i) (delta_same o i i refl) ∙ R.one_mul (x i)

  -- applying to the j-th unit column gives the j-th column
  pub apply_to_delta : (n : ℕ) (X : ℕ → ℕ → A) (i j : ℕ) → j < n → grid_product o n X (delta o) i j ≡ X i j
  apply_to_delta n X i j l =
      total_single R n (λ k. X i k ⊗ delta o k j) j l
      (λ k m d. ap (λ w. X i k ⊗ w) (delta_other o k j d) ∙ mul_zero R (X i k))
      ∙ ap (λ w. X i j ⊗ w) (delta_same o j j refl) ∙ mul_one R (X i j)

  -- applying a product is applying twice
  pub apply_product : (m n : ℕ) (X Y : ℕ → ℕ → A) (x : ℕ → A) (i : ℕ)
      → grid_apply o n (grid_product o m X Y) x i ≡ grid_apply o m X (grid_apply o n Y x) i
  apply_product m n X Y x i =
      total_same o n _ _ (λ k _. sym (total_scale_right R m (λ l. X i l ⊗ Y l k) (x k)))
      ∙ total_swap R n m (λ k l. X i l ⊗ Y l k ⊗ x k)
      ∙ total_same o m _ _ (λ l _. total_same o n _ _ (λ k _. R.mul_assoc (X i l) (Y l k) (x k))
      ∙ total_scale R n (X i l) (λ k. Y l k ⊗ x k))

  pub product_assoc : (m n : ℕ) (X Y Z : ℕ → ℕ → A) (i j : ℕ)
      → grid_product o n (grid_product o m X Y) Z i j ≡ grid_product o m X (grid_product o n Y Z) i j
  product_assoc m n X Y Z i j = apply_product m n X Y (λ k. Z k j) i

  pub apply_zero : (n : ℕ) (X : ℕ → ℕ → A) (x : ℕ → A) (i : ℕ) → ((k : ℕ) → k < n → x k ≡ O) → grid_apply o n X x i ≡ O
  apply_zero n X x i h = total_zero R n _ (λ k l. ap (λ w. X i k ⊗ w) (h k l) ∙ mul_zero R (X i k))

  pub zero_apply : (n : ℕ) (X : ℕ → ℕ → A) (x : ℕ → A) (i : ℕ) → ((k : ℕ) → k < n → X i k ≡ O) → grid_apply o n X x i ≡ O
  zero_apply n X x i h = total_zero R n _ (λ k l. ap (λ w. w ⊗ x k) (h k l) ∙ zero_mul R (x k))

  pub apply_add : (n : ℕ) (X : ℕ → ℕ → A) (x y : ℕ → A) (i : ℕ)
      → grid_apply o n X (λ k. x k ⊕ y k) i ≡ grid_apply o n X x i ⊕ grid_apply o n X y i
  apply_add n X x y i =
      total_same o n _ _ (λ k _. R.mul_add (X i k) (x k) (y k)) ∙ total_add R n (λ k. X i k ⊗ x k) (λ k. X i k ⊗ y k)

  pub apply_scale : (n : ℕ) (X : ℕ → ℕ → A) (c : A) (x : ℕ → A) (i : ℕ)
      → grid_apply o n X (λ k. c ⊗ x k) i ≡ c ⊗ grid_apply o n X x i
  apply_scale n X c x i =
      total_same o n _ _ (λ k _. mul_left_comm R (X i k) c (x k)) ∙ total_scale R n c (λ k. X i k ⊗ x k)

  pub apply_neg : (n : ℕ) (X : ℕ → ℕ → A) (x : ℕ → A) (i : ℕ) → grid_apply o n X (λ k. neg (x k)) i ≡ neg (grid_apply o n X x i)
  apply_neg n X x i = total_same o n _ _ (λ k _. mul_neg R (X i k) (x k)) ∙ total_neg R n (λ k. X i k ⊗ x k)

  -- applied to a combination of columns v 0 .. v (q - 1)
  pub apply_combination : (n q : ℕ) (X : ℕ → ℕ → A) (y : ℕ → A) (v : ℕ → ℕ → A) (i : ℕ)
      → grid_apply o n X (λ k. total o q (λ t. y t ⊗ v t k)) i ≡ total o q (λ t. y t ⊗ grid_apply o n X (v t) i)
  apply_combination n q X y v i =
      total_same o n _ _ (λ k _. sym (total_scale R q (X i k) (λ t. y t ⊗ v t k)))
      ∙ total_swap R n q (λ k t. X i k ⊗ (y t ⊗ v t k))
      ∙ total_same o q _ _ (λ t _. apply_scale n X (y t) (v t) i)
