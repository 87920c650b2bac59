-- Matrices as functions X i j of row and column, of which a number of rows and columns counts. Only
-- contracts of functions that aren't public, and lemmas, speak of them.
--     total o n f                      f 0 + .. + f (n - 1)
--     delta o                          the identity: one at i = j, else zero
--     grid_apply o n X x               X applied to the column x, of n places
--     grid_product o n X Y             the product, of n places in each sum
--     RowEquivalent o n X Y            the n rows of Y are an invertible matrix times those of X
--     IsReducedTo o n m pivots X       the first m columns of the n rows of X are in reduced row
--                                      echelon form
--     IsTransformed o n m M E T        E is T * M, and T has an inverse
--     AreFree m pivots free            the columns below m that are no pivots, rising
--     AreKernelColumns o pivots free E v     the columns of the kernel of E, one for each free
--                                  column
use Rattle.std.specs.Prelude.{◌≡◌, ◌≢◌, ◌⊎◌, ℕ, ◌+◌, ◌<◌, ◌≤◌, ◌==◌, cond, List, length, slice_index_or}
use Rattle.alg_model.specs.Coefficients.{Ops}
use Rattle.alg_rings.proofs.Folds.{fold}

-- f 0 + .. + f (n - 1)
abbrev pub total : {A : Type 0} → Ops A → ℕ → (ℕ → A) → A
total o n f = fold o.zero o.add n f

-- one at i = j, else zero
abbrev pub delta : {A : Type 0} → Ops A → ℕ → ℕ → A
delta o i j = cond (i == j) o.one o.zero

-- X applied to the column x, of n places
abbrev pub grid_apply : {A : Type 0} → Ops A → ℕ → (ℕ → ℕ → A) → (ℕ → A) → ℕ → A
grid_apply o n X x i = total o n (λ k. o.mul (X i k) (x k))

abbrev pub grid_product : {A : Type 0} → Ops A → ℕ → (ℕ → ℕ → A) → (ℕ → ℕ → A) → ℕ → ℕ → A
grid_product o n X Y i j = grid_apply o n X (λ k. Y k j) i

-- the n rows of Y are an invertible matrix times those of X
pub record RowEquivalent {A : Type 0} (o : Ops A) (n : ℕ) (X Y : ℕ → ℕ → A) : Type 0 where
  pub forward : ℕ → ℕ → A
  pub back : ℕ → ℕ → A
  pub forward_back : (i j : ℕ) → i < n → j < n → grid_product o n forward back i j ≡ delta o i j
  pub back_forward : (i j : ℕ) → i < n → j < n → grid_product o n back forward i j ≡ delta o i j
  pub moves : (i j : ℕ) → i < n → Y i j ≡ grid_product o n forward X i j

-- the first m columns of the n rows of X are in reduced row echelon form, with these pivot columns
pub record IsReducedTo {A : Type 0} (o : Ops A) (n m : ℕ) (pivots : List ℕ) (X : ℕ → ℕ → A)
    : Type 0 where
  pub rising : (i j : ℕ) → i < j → j < length pivots
      → slice_index_or pivots i 0 < slice_index_or pivots j 0
  pub within : (i : ℕ) → i < length pivots → slice_index_or pivots i 0 < m
  pub rows_enough : length pivots ≤ n
  pub pivot_column : (r i : ℕ) → r < n → i < length pivots
      → X r (slice_index_or pivots i 0) ≡ delta o r i
  pub before_pivot : (i k : ℕ) → i < length pivots → k < slice_index_or pivots i 0 → X i k ≡ o.zero
  pub rest_zero : (r k : ℕ) → length pivots ≤ r → r < n → k < m → X r k ≡ o.zero

-- E is T * M, for n rows and m columns, and T has an inverse
pub record IsTransformed {A : Type 0} (o : Ops A) (n m : ℕ) (M E T : ℕ → ℕ → A) : Type 0 where
  pub back : ℕ → ℕ → A
  pub product : (i j : ℕ) → i < n → j < m → grid_product o n T M i j ≡ E i j
  pub transform_back : (i j : ℕ) → i < n → j < n → grid_product o n T back i j ≡ delta o i j
  pub back_transform : (i j : ℕ) → i < n → j < n → grid_product o n back T i j ≡ delta o i j

-- the columns below m that are no pivots
pub record AreFree (m : ℕ) (pivots free : List ℕ) : Type 0 where
  pub within : (t : ℕ) → t < length free → slice_index_or free t 0 < m
  pub rising : (s t : ℕ) → s < t → t < length free
      → slice_index_or free s 0 < slice_index_or free t 0
  pub no_pivot : (i t : ℕ) → i < length pivots → t < length free
      → slice_index_or pivots i 0 ≢ slice_index_or free t 0
  pub covers : (k : ℕ) → k < m
      → ((i : ℕ) × (i < length pivots) × (slice_index_or pivots i 0 ≡ k))
      ⊎ ((t : ℕ) × (t < length free) × (slice_index_or free t 0 ≡ k))
  pub number : length pivots + length free ≡ m

-- v t is one at the t-th free column, zero at the others, and at the pivot of row i it is - E i
-- (the t-th free column)
pub record AreKernelColumns {A : Type 0} (o : Ops A) (pivots free : List ℕ) (E v : ℕ → ℕ → A)
    : Type 0 where
  pub at_free : (t s : ℕ) → t < length free → s < length free
      → v t (slice_index_or free s 0) ≡ delta o t s
  pub at_pivot : (t i : ℕ) → t < length free → i < length pivots
      → v t (slice_index_or pivots i 0) ≡ o.neg (E i (slice_index_or free t 0))
