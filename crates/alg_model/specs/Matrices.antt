-- Matrices over any operations, as their columns.
--     Matrix A                      a number of rows, and the list of the columns
--     entry o m r k                 the entry in row r of column k; zero outside
--     combination o n cs xs         x_0 * c_0 + x_1 * c_1 + .., of columns with n entries
--     matrix_apply o m x            m applied to the column x: the combination of m's columns
--     matrix_product o a b          its columns are a applied to those of b
--     zero_column, unit_column      n zeros; n places of which the k-th is one
--     identity_matrix o n           its columns are the n unit columns
--     IsColumn c n x, IsMatrix c m  n entries of the carrier; all columns have the matrix's number
--                                   of rows
--     IsInverse c m w, IsInvertible c m     both products are the identity
--     IsReducedEchelon c m pivots   reduced row echelon form, with its pivot columns
--     IsReduction c m form transform pivots     form = transform * m is in that form, for an
--                                   invertible transform
--     IsIndependent c n cs          only the zero combination gives the zero column
--     IsInKernel c m x, IsKernelBasis c m basis     what m sends to zero, and a basis of it
use Rattle.std.specs.Prelude.{◌≡◌, ℕ, ◌<◌, ◌≤◌, List, [], ◌∷◌, length, map, replicate, All, slice_index, slice_index_or, slice_set}
use Rattle.std.specs.List.{range_with_len}
use Rattle.alg_model.specs.Coefficients.{Ops, Carrier}
use Rattle.alg_model.specs.Polynomials.{sum, scale}

pub record Matrix (A : Type 0) : Type 0 where
  pub rows : ℕ
  pub columns : List (List A)

-- the k-th column; empty past the end
abbrev pub column_at : {A : Type 0} → Matrix A → ℕ → List A
column_at m k = slice_index_or m.columns k []

module _ {A : Type 0} (o : Ops A) where
  abbrev pub entry : Matrix A → ℕ → ℕ → A
  entry m r k = slice_index_or (column_at m k) r o.zero

  abbrev pub zero_column : ℕ → List A
  zero_column n = replicate n o.zero

  abbrev pub unit_column : ℕ → ℕ → List A
  unit_column n k = slice_set (zero_column n) k o.one

  abbrev pub combination : ℕ → List (List A) → List A → List A
  combination n [] xs = zero_column n
  combination n (c ∷ cs) [] = zero_column n
  combination n (c ∷ cs) (x ∷ xs) = sum o (scale o x c) (combination n cs xs)

  abbrev pub matrix_apply : Matrix A → List A → List A
  matrix_apply m x = combination m.rows m.columns x

  abbrev pub matrix_product : Matrix A → Matrix A → Matrix A
  matrix_product a b = record { rows = a.rows; columns = map (matrix_apply a) b.columns }

  abbrev pub identity_matrix : ℕ → Matrix A
  identity_matrix n = record { rows = n; columns = map (unit_column n) (range_with_len 0 n) }

module _ {A : Type 0} (c : Carrier A) where
  abbrev pub IsColumn : ℕ → List A → Type 0
  IsColumn n x = (length x ≡ n) × All c.Valid x

  abbrev pub IsMatrix : Matrix A → Type 0
  IsMatrix m = All (IsColumn m.rows) m.columns

  pub record IsInverse (m w : Matrix A) : Type 0 where
    pub matrix : IsMatrix w
    pub left : matrix_product c.ops w m ≡ identity_matrix c.ops (length m.columns)
    pub right : matrix_product c.ops m w ≡ identity_matrix c.ops m.rows

  abbrev pub IsInvertible : Matrix A → Type 0
  IsInvertible m = (w : Matrix A) × IsInverse m w

  pub record IsReducedEchelon (m : Matrix A) (pivots : List ℕ) : Type 0 where
    pub rising : (i j : ℕ) → i < j → j < length pivots → slice_index pivots i < slice_index pivots j
    pub within : (i : ℕ) → i < length pivots → slice_index pivots i < length m.columns
    pub rows_enough : length pivots ≤ m.rows
    -- in the i-th pivot column the entry is one at row i and zero elsewhere
    pub pivot_column : (i : ℕ) → i < length pivots
        → column_at m (slice_index pivots i) ≡ unit_column c.ops m.rows i
    -- before its pivot a row is zero
    pub before_pivot : (i k : ℕ) → i < length pivots → k < slice_index pivots i
        → entry c.ops m i k ≡ c.ops.zero
    -- a row with no pivot is zero
    pub rest_zero : (r k : ℕ) → length pivots ≤ r → entry c.ops m r k ≡ c.ops.zero

  pub record IsReduction (m form transform : Matrix A) (pivots : List ℕ) : Type 0 where
    pub product : matrix_product c.ops transform m ≡ form
    pub square : (transform.rows ≡ m.rows) × (length transform.columns ≡ m.rows)
    pub invertible : IsInvertible transform
    pub reduced : IsReducedEchelon form pivots

  abbrev pub IsIndependent : ℕ → List (List A) → Type 0
  IsIndependent n cs = (x : List A) → IsColumn (length cs) x
      → combination c.ops n cs x ≡ zero_column c.ops n
      → x ≡ zero_column c.ops (length cs)

  abbrev pub IsInKernel : Matrix A → List A → Type 0
  IsInKernel m x = IsColumn (length m.columns) x
      × (matrix_apply c.ops m x ≡ zero_column c.ops m.rows)

  -- each column that m sends to zero is a combination of the basis, in one way
  pub record IsKernelBasis (m : Matrix A) (basis : List (List A)) : Type 0 where
    pub members : All (IsInKernel m) basis
    pub spans : (x : List A) → IsInKernel m x
        → (y : List A) × IsColumn (length basis) y
        × (combination c.ops (length m.columns) basis y ≡ x)
    pub one_way : (y z : List A) → IsColumn (length basis) y → IsColumn (length basis) z
        → combination c.ops (length m.columns) basis y
        ≡ combination c.ops (length m.columns) basis z → y ≡ z
