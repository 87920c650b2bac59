-- From matrices over a carrier, as lists, to functions of row and column with values in the carrier's elements, and back.
use Rattle.std.proofs.Common.{◌≡◌, ℕ, ◌<◌, Bool, true, false, cond, ◌==◌, List, [], length, map, get_or, All, refl, ap, sym, ◌∙◌, subst, arith}
use Rattle.std.specs.List.{range_with_len}
use Rattle.std.proofs.lemmas.List.FromFn.{length-map-range_with_len, get_or-map-range_with_len}
use Rattle.std.proofs.lemmas.List.Elements.{All-from_get_or}
use Rattle.alg_model.specs.Coefficients.{Carrier}
use Rattle.alg_model.specs.Fields.{IsRing}
use Rattle.alg_model.specs.Matrices.{Matrix, column_at, entry, zero_column, unit_column, combination, matrix_product, identity_matrix, IsColumn, IsMatrix}
use Rattle.alg_rings.proofs.Validity.{place_valid}
use Rattle.alg_rings.proofs.Elements.{Element, element_ops, underlying_homomorphism}
use Rattle.alg_rings.proofs.ValidEntries.{columns_valid_at}
use Rattle.alg_rings.proofs.Folds.{sums_kept, fold-map}
use Rattle.alg_linear.specs.PrivateElimination.{grid}
use Rattle.alg_linear.specs.PrivateGrids.{total}
use Rattle.alg_linear.proofs.Sums.{total_same}
use Rattle.alg_linear.specs.PrivateGrids.{delta, grid_apply}
use Rattle.alg_linear.proofs.Columns.{AreLong, length_combination, combination_at, length_zero_column, zero_column_at, length_unit_column, unit_column_at, column_of_product, column_of_identity, length_identity, length_product}

-- all columns of a matrix have its number of rows
pub matrix_long : {A : Type 0} (c : Carrier A) (m : Matrix A) → IsMatrix c m → AreLong m.rows m.columns
matrix_long c m w = λ k d l. (w k d l).0

pub columns_long : {A : Type 0} (c : Carrier A) (n : ℕ) (cs : List (List A)) → All (IsColumn c n) cs → AreLong n cs
columns_long c n cs w = λ k d l. (w k d l).0

module _ {A : Type 0} {c : Carrier A} (R : IsRing c) where
  -- the places of a column, as elements; zero past its end
  abbrev pub places : (x : List A) → All c.Valid x → ℕ → Element c
  places x v k = (get_or x k c.ops.zero, place_valid R x k v)

  -- the column with these n places
  abbrev pub column_of : ℕ → (ℕ → Element c) → List A
  column_of n x = map (λ k. (x k).0) (range_with_len 0 n)

  -- the matrix with these entries, n rows and m columns
  abbrev pub matrix_of : ℕ → ℕ → (ℕ → ℕ → Element c) → Matrix A
  matrix_of n m X = record { rows = n; columns = map (λ j. column_of n (λ i. X i j)) (range_with_len 0 m) }

  pub total_value : (n : ℕ) (f : ℕ → Element c) → (total (element_ops R) n f).0 ≡ total c.ops n (λ k. (f k).0)
  total_value n f = fold-map (sums_kept (underlying_homomorphism R)) n f

  pub delta_value : (i j : ℕ) → (delta (element_ops R) i j).0 ≡ delta c.ops i j
  delta_value i j = at (i == j)
    where
      at : (b : Bool) → (cond b (element_ops R).one (element_ops R).zero).0 ≡ cond b c.ops.one c.ops.zero
      at true = refl
      at false = refl

  -- ---- validity
  valid_from_at : (n : ℕ) (x : List A) (f : ℕ → Element c) → length x ≡ n → ((k : ℕ) → k < n → get_or x k c.ops.zero ≡ (f k).0) → IsColumn c n x
  valid_from_at n x f e h = (e, All-from_get_or c.Valid x c.ops.zero (λ k l. subst c.Valid (sym (h k (omega arith))) (f k).1))

  pub column_of_at : (n : ℕ) (x : ℕ → Element c) (k : ℕ) → k < n → get_or (column_of n x) k c.ops.zero ≡ (x k).0
  column_of_at n x k l = get_or-map-range_with_len (λ k. (x k).0) 0 n k k c.ops.zero l (omega arith)

  pub column_of_valid : (n : ℕ) (x : ℕ → Element c) → IsColumn c n (column_of n x)
  column_of_valid n x = valid_from_at n (column_of n x) x (length-map-range_with_len (λ k. (x k).0) 0 n) (column_of_at n x)

  pub column_of_matrix_of : (n m : ℕ) (X : ℕ → ℕ → Element c) (j : ℕ) → j < m → column_at (matrix_of n m X) j ≡ column_of n (λ i. X i j)
  column_of_matrix_of n m X j l = get_or-map-range_with_len (λ j. column_of n (λ i. X i j)) 0 m j j [] l (omega arith)

  pub length_matrix_of : (n m : ℕ) (X : ℕ → ℕ → Element c) → length (matrix_of n m X).columns ≡ m
  length_matrix_of n m X = length-map-range_with_len (λ j. column_of n (λ i. X i j)) 0 m

  pub entry_of_matrix_of : (n m : ℕ) (X : ℕ → ℕ → Element c) (i j : ℕ) → i < n → j < m → entry c.ops (matrix_of n m X) i j ≡ (X i j).0
  entry_of_matrix_of n m X i j li lj = ap (λ x. get_or x i c.ops.zero) (column_of_matrix_of n m X j lj) ∙ column_of_at n (λ i. X i j) i li

  pub matrix_of_valid : (n m : ℕ) (X : ℕ → ℕ → Element c) → IsMatrix c (matrix_of n m X)
  matrix_of_valid n m X = All-from_get_or (IsColumn c n) (matrix_of n m X).columns []
      (λ j l. subst (IsColumn c n) (sym (column_of_matrix_of n m X j (omega (arith, length_matrix_of n m X)))) (column_of_valid n (λ i. X i j)))

  pub zero_column_valid : (n : ℕ) → IsColumn c n (zero_column c.ops n)
  zero_column_valid n = valid_from_at n (zero_column c.ops n) (λ _. (c.ops.zero, R.zero_valid)) (length_zero_column c.ops n) (zero_column_at c.ops n)

  pub unit_column_valid : (n k : ℕ) → IsColumn c n (unit_column c.ops n k)
  unit_column_valid n k = valid_from_at n (unit_column c.ops n k) (λ r. delta (element_ops R) r k) (length_unit_column c.ops n k)
      (λ r l. unit_column_at c.ops n k r l ∙ sym (delta_value r k))

  pub identity_valid : (n : ℕ) → IsMatrix c (identity_matrix c.ops n)
  identity_valid n = All-from_get_or (IsColumn c n) (identity_matrix c.ops n).columns []
      (λ j l. subst (IsColumn c n) (sym (column_of_identity c.ops n j (omega (arith, length_identity c.ops n)))) (unit_column_valid n j))

  pub entry_of_identity : (n i j : ℕ) → i < n → j < n → entry c.ops (identity_matrix c.ops n) i j ≡ (delta (element_ops R) i j).0
  entry_of_identity n i j li lj =
      ap (λ x. get_or x i c.ops.zero) (column_of_identity c.ops n j lj) ∙ unit_column_at c.ops n j i li ∙ sym (delta_value i j)

  -- ---- places of what a matrix gives
  pub combination_value : (n : ℕ) (cs : List (List A)) (w : All (IsColumn c n) cs) (x : List A) (v : IsColumn c (length cs) x) (r : ℕ) → r < n
      → get_or (combination c.ops n cs x) r c.ops.zero ≡ (grid_apply (element_ops R) (length cs) (grid R n cs w) (places x v.1) r).0
  combination_value n cs w x v r l =
      combination_at c.ops n cs x (columns_long c n cs w) v.0 r l
      ∙ total_same c.ops (length cs) _ _ (λ k _. R.mul_comm _ _ (place_valid R x k v.1) (columns_valid_at R n cs w r k))
      ∙ sym (total_value (length cs) (λ k. (element_ops R).mul (grid R n cs w r k) (places x v.1 k)))

  pub combination_valid : (n : ℕ) (cs : List (List A)) → All (IsColumn c n) cs → (x : List A) → IsColumn c (length cs) x
      → IsColumn c n (combination c.ops n cs x)
  combination_valid n cs w x v =
      valid_from_at n (combination c.ops n cs x) (grid_apply (element_ops R) (length cs) (grid R n cs w) (places x v.1))
      (length_combination c.ops n cs x (columns_long c n cs w)) (combination_value n cs w x v)

  pub product_valid : (a b : Matrix A) → IsMatrix c a → IsMatrix c b → b.rows ≡ length a.columns → IsMatrix c (matrix_product c.ops a b)
  product_valid a b wa wb e = All-from_get_or (IsColumn c a.rows) (matrix_product c.ops a b).columns []
      (λ j l. let lj : j < length b.columns = omega (arith, length_product c.ops a b) in
      subst (IsColumn c a.rows) (sym (column_of_product c.ops a b j lj))
      (combination_valid a.rows a.columns wa (column_at b j) ((wb j [] lj).0 ∙ e, (wb j [] lj).1)))
