-- Columns one after the other in a list of digits, as a matrix.
use Rattle.std.proofs.Common.{◌≡◌, ℕ, ◌+◌, ◌*◌, ◌<◌, ◌≤◌, List, [], ◌∷◌, ◌++◌, length, take, drop, slice_index_or, All, ap, ap₂, sym, ◌∙◌, subst, arith, slice_index, get_or-take, ◌%◌}
use Rattle.std.proofs.lemmas.List.{length-append, length-drop, length-take-le, ext_get_or, drop-append-le, take-append-le, take_more, get_or-drop}
use Rattle.std.proofs.lemmas.List.Elements.{All-take, All-drop, All-append, All-from_get_or}
use Rattle.std.proofs.lemmas.List.FromFn.{length-map-range_with_len, get_or-map-range_with_len, map-range_with_len_more}
use Rattle.std.proofs.Math.Nat.{mul-le-mul_right}
use Rattle.std.proofs.Math.Seq.{drop-append_seam, take-length}
use Rattle.alg_model.specs.Coefficients.{residues, mod_ops}
use Rattle.alg_model.specs.Matrices.{Matrix, matrix_apply, IsColumn}
use Rattle.alg_linear.proofs.Columns.{length_combination}
use Rattle.alg_linear.proofs.CarrierMatrices.{columns_long}
use Rattle.ff_residues.specs.SumRows.{sum_below}
use Rattle.ff_residues.proofs.SumsBelow.{sum_same}
use Rattle.ff_field.proofs.FrobeniusColumns.{combination_at}
use Rattle.ff_embed.proofs.ColumnTables.{beginning_of_row}
use Rattle.ff_matrix.specs.ModularMatrix.{ModularMatrix, IsModularMatrix}
use Rattle.ff_embed.specs.PrivateColumns.{columns_at, AreDigits, IsListed}

pub mul_more : (k n : ℕ) → (k + 1) * n ≡ k * n + n
mul_more k n = omega arith

-- as many columns as are asked for
pub length_columns_at : (n m : ℕ) (digits : List ℕ) → length (columns_at n m digits) ≡ m
length_columns_at n m digits = length-map-range_with_len (λ k. take n (drop (k * n) digits)) 0 m

-- a column is a list of n digits
pub column_at : (n m : ℕ) (digits : List ℕ) (k : ℕ) → k < m
    → slice_index_or (columns_at n m digits) k [] ≡ take n (drop (k * n) digits)
column_at n m digits k l =
    get_or-map-range_with_len (λ i. take n (drop (i * n) digits)) 0 m k k [] l (omega arith)

-- it lies within the digits
pub column_within : (n m : ℕ) (digits : List ℕ) → m * n ≤ length digits → (k : ℕ) → k < m
    → k * n + n ≤ length digits
column_within n m digits e k l =
    let more : (k + 1) * n ≤ m * n = mul-le-mul_right n (omega (arith, l)) in
    omega (arith, more, e, mul_more k n)

-- it has residues, as many as the matrix has rows
pub column_digits : (p n m : ℕ) (digits : List ℕ) → m * n ≤ length digits
    → All (λ x. x < p) digits → (k : ℕ) → k < m
    → IsColumn (residues p) n (take n (drop (k * n) digits))
column_digits p n m digits e h k l =
    let rest = drop (k * n) digits in (
      length-take-le n rest (omega (arith, length-drop (k * n) digits, column_within n m digits e k l)),
      All-take (λ x. x < p) n rest (All-drop (λ x. x < p) (k * n) digits h),
    )

-- **the digits are those of a matrix of residues**
pub digits_modular : (p n m : ℕ) (digits : List ℕ) → AreDigits p n m digits
    → IsModularMatrix (record {
      prime = p;
      matrix = record { rows = n; columns = columns_at n m digits };
    })
digits_modular p n m digits A = record {
  characteristic = A.characteristic;
  entries = All-from_get_or (IsColumn (residues p) n) (columns_at n m digits) []
      (λ k l. let h : k < m = omega (arith, l, length_columns_at n m digits) in
      subst (IsColumn (residues p) n) (sym (column_at n m digits k h))
      (column_digits p n m digits (omega (arith, A.long)) A.residues k h));
  rows_fit = A.rows_fit;
  columns_fit = omega (arith, length_columns_at n m digits, A.columns_fit);
}

-- what stands behind the columns doesn't matter
pub columns_before : (n m : ℕ) (digits more : List ℕ) → m * n ≤ length digits
    → columns_at n m (digits ++ more) ≡ columns_at n m digits
columns_before n m digits more e =
    ext_get_or [] (columns_at n m (digits ++ more)) (columns_at n m digits)
    (length_columns_at n m (digits ++ more) ∙ sym (length_columns_at n m digits))
    (λ k h. let w : k < m = omega (arith, h, length_columns_at n m (digits ++ more)) in
    column_at n m (digits ++ more) k w ∙ same k w ∙ sym (column_at n m digits k w))
  where
    same : (k : ℕ) → k < m
        → take n (drop (k * n) (digits ++ more)) ≡ take n (drop (k * n) digits)
    same k h =
        let w : k * n + n ≤ length digits = column_within n m digits e k h in
        ap (take n) (drop-append-le (k * n) digits more (omega (arith, w)))
        ∙ take-append-le n (drop (k * n) digits) more
        (omega (arith, w, length-drop (k * n) digits))

-- **one column more**
pub columns_more : (n m : ℕ) (digits column : List ℕ) → length digits ≡ m * n → length column ≡ n
    → columns_at n (m + 1) (digits ++ column) ≡ columns_at n m digits ++ column ∷ []
columns_more n m digits column e l =
    let whole = digits ++ column in
    map-range_with_len_more (λ k. take n (drop (k * n) whole)) 0 m m (omega arith)
    ∙ ap₂ (λ xs x. xs ++ x ∷ []) (columns_before n m digits column (omega (arith, e))) last
  where
    last : take n (drop (m * n) (digits ++ column)) ≡ column
    last =
        ap (λ i. take n (drop i (digits ++ column))) (sym e)
        ∙ ap (take n) (drop-append_seam digits column)
        ∙ ap (λ i. take i column) (sym l) ∙ take-length column

-- **so the digits of one column more are listed**
pub listed_more : (a : ModularMatrix) (k : ℕ) (digits column : List ℕ) → IsListed a k digits
    → k < length a.matrix.columns → column ≡ slice_index_or a.matrix.columns k []
    → IsColumn (residues a.prime) a.matrix.rows column → IsListed a (k + 1) (digits ++ column)
listed_more a k digits column L h e c =
    let n = a.matrix.rows in record {
      long = omega (arith, length-append digits column, L.long, c.0, mul_more k n);
      residues = All-append (λ x. x < a.prime) digits column L.residues c.1;
      columns = columns_more n k digits column L.long c.0
          ∙ ap₂ (λ xs x. xs ++ x ∷ []) L.columns e
          ∙ sym (take_more a.matrix.columns k [] h);
    }

-- ---- what the matrix gives
-- a place of a column
pub column_place : (n m : ℕ) (digits : List ℕ) (i k : ℕ) → i < m → k < n
    → slice_index (slice_index_or (columns_at n m digits) i []) k ≡ slice_index digits (i * n + k)
column_place n m digits i k l h =
    ap (λ c. slice_index c k) (column_at n m digits i l)
    ∙ get_or-take n (drop (i * n) digits) k 0 h ∙ get_or-drop (i * n) digits k 0

-- **a place of what the matrix gives, by the digits**
pub given_place : (p n m : ℕ) (digits : List ℕ) → AreDigits p n m digits → (x : List ℕ)
    → length x ≡ m → (k : ℕ) → k < n
    → slice_index (matrix_apply (mod_ops p) (record { rows = n; columns = columns_at n m digits }) x) k
    ≡ sum_below (length x) (λ i. slice_index x i * slice_index digits (i * n + k)) % p
given_place p n m digits A x e k l =
    let cs = columns_at n m digits in
    combination_at p n cs x
    (columns_long (residues p) n cs (digits_modular p n m digits A).entries) k l
    ∙ ap (λ s. s % p) (sum_same (length x)
    (λ i. slice_index x i * slice_index (slice_index_or cs i []) k)
    (λ i. slice_index x i * slice_index digits (i * n + k))
    (λ i h. ap (λ y. slice_index x i * y) (column_place n m digits i k (omega (arith, h, e)) l)))

-- **so what the matrix gives is the beginning of a row of such sums**
pub given_row : (p n m : ℕ) (digits : List ℕ) → AreDigits p n m digits → (x : List ℕ)
    → length x ≡ m → (row : List ℕ) → n ≤ length row
    → ((k : ℕ) → k < n → slice_index row k
    ≡ sum_below (length x) (λ i. slice_index x i * slice_index digits (i * n + k)) % p)
    → take n row ≡ matrix_apply (mod_ops p) (record { rows = n; columns = columns_at n m digits }) x
given_row p n m digits A x e row fits same =
    let M : Matrix ℕ = record { rows = n; columns = columns_at n m digits } in
    beginning_of_row n row (matrix_apply (mod_ops p) M x)
    (length_combination (mod_ops p) n (columns_at n m digits) x
    (columns_long (residues p) n (columns_at n m digits) (digits_modular p n m digits A).entries)) fits
    (λ k l. same k l ∙ sym (given_place p n m digits A x e k l))
