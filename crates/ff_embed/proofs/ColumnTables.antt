-- Columns in a table of constant width, as a matrix.
use Rattle.std.proofs.Common.{◌≡◌, ℕ, ◌+◌, ◌*◌, ◌%◌, ◌<◌, ◌≤◌, List, [], ◌∷◌, ◌++◌, length, map, take, replicate, slice_set, slice_index, slice_index_or, ap, sym, ◌∙◌, subst, arith, get_or-take}
use Rattle.std.proofs.lemmas.List.{length-map, length-take-le, length-replicate, length-set, get_or-map, get_or-replicate, map-append, take_more_set, ext_get_or}
use Rattle.std.proofs.lemmas.List.Elements.{All-get_or, All-set, All-replicate, All-from_get_or, All-take}
use Rattle.std.proofs.Math.Seq.{take-set-lt}
use Rattle.alg_model.specs.Coefficients.{residues, mod_ops}
use Rattle.alg_model.specs.Matrices.{matrix_apply, unit_column, IsColumn}
use Rattle.alg_linear.proofs.Columns.{length_combination}
use Rattle.alg_linear.proofs.CarrierMatrices.{columns_long}
use Rattle.ff_residues.specs.SumRows.{IsRowOf, row_sum}
use Rattle.ff_residues.proofs.SumsBelow.{sum_same}
use Rattle.ff_field.proofs.FrobeniusColumns.{combination_at}
use Rattle.ff_matrix.specs.ModularMatrix.{IsModularMatrix}
use Rattle.ff_poly.specs.declared.TheConstants.{MAX_DEGREE}
use Rattle.ff_embed.specs.PrivateColumns.{columns_in, AreColumns}

-- there are as many columns as rows of the table are taken
pub length_columns : (n m : ℕ) (table : List (List ℕ)) → m ≤ length table
    → length (columns_in n m table) ≡ m
length_columns n m table l = length-map (take m table) (take n) ∙ length-take-le m table l

-- a column is the beginning of a row of the table
pub column_in : (n m : ℕ) (table : List (List ℕ)) (k : ℕ) → k < m → m ≤ length table
    → slice_index_or (columns_in n m table) k [] ≡ take n (slice_index_or table k [])
column_in n m table k l fits =
    get_or-map (take n) (take m table) k [] [] (omega (arith, length-take-le m table fits))
    ∙ ap (take n) (get_or-take m table k [] l)

-- it has residues, as many as the matrix has rows
pub column_valid : (p n m : ℕ) (table : List (List ℕ)) → AreColumns p n m table → (k : ℕ) → k < m
    → IsColumn (residues p) n (take n (slice_index_or table k []))
column_valid p n m table A k l =
    let row : IsRowOf p MAX_DEGREE (slice_index_or table k []) =
    All-get_or (IsRowOf p MAX_DEGREE) table k [] (omega (arith, A.long, A.columns_fit)) A.residues in (
      length-take-le n (slice_index_or table k []) (omega (arith, row.wide, A.rows_fit)),
      All-take (λ x. x < p) n (slice_index_or table k []) row.residues,
    )

-- **the table holds a matrix of residues**
pub columns_modular : (p n m : ℕ) (table : List (List ℕ)) → AreColumns p n m table
    → IsModularMatrix (record {
      prime = p;
      matrix = record { rows = n; columns = columns_in n m table };
    })
columns_modular p n m table A =
    let fits : m ≤ length table = omega (arith, A.long, A.columns_fit) in record {
      characteristic = A.characteristic;
      entries = All-from_get_or (IsColumn (residues p) n) (columns_in n m table) []
          (λ k l. let h : k < m = omega (arith, length_columns n m table fits) in
          subst (IsColumn (residues p) n) (sym (column_in n m table k h fits))
          (column_valid p n m table A k h));
      rows_fit = A.rows_fit;
      columns_fit = omega (arith, length_columns n m table fits, A.columns_fit);
    }

-- **one column more**
pub column_pushed : (n m : ℕ) (table : List (List ℕ)) (row column : List ℕ) → m < length table
    → take n row ≡ column
    → columns_in n (m + 1) (slice_set table m row) ≡ columns_in n m table ++ column ∷ []
column_pushed n m table row column l e =
    ap (map (take n)) (take_more_set table m row l)
    ∙ map-append (take n) (take m table) (row ∷ [])
    ∙ ap (λ c. columns_in n m table ++ c ∷ []) e

-- the digits with zeros after them begin with the digits
pub beginning_of_row : (n : ℕ) (row column : List ℕ) → length column ≡ n → n ≤ length row
    → ((k : ℕ) → k < n → slice_index row k ≡ slice_index column k) → take n row ≡ column
beginning_of_row n row column l fits same =
    let e : length (take n row) ≡ n = length-take-le n row fits in
    ext_get_or 0 (take n row) column (e ∙ sym l)
    (λ k h. let m : k < n = omega (arith, e) in get_or-take n row k 0 m ∙ same k m)

-- **a place of what the matrix gives, by whole rows of the table**
pub applied_place : (p n m : ℕ) (table : List (List ℕ)) → AreColumns p n m table → (x : List ℕ)
    → length x ≡ m → (k : ℕ) → k < n
    → slice_index
    (matrix_apply (mod_ops p) (record { rows = n; columns = columns_in n m table }) x) k
    ≡ row_sum (length x) x table k % p
applied_place p n m table A x e k l =
    let fits : m ≤ length table = omega (arith, A.long, A.columns_fit) in
    let cs = columns_in n m table in
    combination_at p n cs x
    (All-from_get_or (λ c. length c ≡ n) cs []
    (λ i h. let w : i < m = omega (arith, length_columns n m table fits) in
    ap length (column_in n m table i w fits) ∙ (column_valid p n m table A i w).0)) k l
    ∙ ap (λ s. s % p) (sum_same (length x)
    (λ i. slice_index x i * slice_index (slice_index_or cs i []) k)
    (λ i. slice_index x i * slice_index (slice_index_or table i []) k)
    (λ i h. let w : i < m = omega (arith, e) in
    ap (λ y. slice_index x i * y) (ap (λ c. slice_index c k) (column_in n m table i w fits)
    ∙ get_or-take n (slice_index_or table i []) k 0 l)))

-- **so what the matrix gives is the beginning of a row of such sums**
pub applied_row : (p n m : ℕ) (table : List (List ℕ)) → AreColumns p n m table → (x : List ℕ)
    → length x ≡ m → (row : List ℕ) → n ≤ length row
    → ((k : ℕ) → k < n → slice_index row k ≡ row_sum (length x) x table k % p)
    → take n row
    ≡ matrix_apply (mod_ops p) (record { rows = n; columns = columns_in n m table }) x
applied_row p n m table A x e row fits same =
    beginning_of_row n row
    (matrix_apply (mod_ops p) (record { rows = n; columns = columns_in n m table }) x)
    (length_combination (mod_ops p) n (columns_in n m table) x
    (columns_long (residues p) n (columns_in n m table) (columns_modular p n m table A).entries)) fits
    (λ k l. same k l ∙ sym (applied_place p n m table A x e k l))

-- the beginning of a unit column
pub unit_cut : (p w n k : ℕ) → k < n → n ≤ w
    → take n (unit_column (mod_ops p) w k) ≡ unit_column (mod_ops p) n k
unit_cut p w n k l fits =
    take-set-lt n (replicate w 0) k 1 l
    ∙ ap (λ z. slice_set z k 1) (replicate_cut w n fits)
  where
    replicate_cut : (w n : ℕ) → n ≤ w → take n (replicate {A = ℕ} w 0) ≡ replicate n 0
    replicate_cut w n fits =
        let e : length (take n (replicate {A = ℕ} w 0)) ≡ n =
        length-take-le n (replicate w 0) (omega (arith, length-replicate {A = ℕ} w 0)) in
        ext_get_or 0 (take n (replicate w 0)) (replicate n 0) (e ∙ sym (length-replicate {A = ℕ} n 0))
        (λ k h. let m : k < n = omega (arith, e) in
        get_or-take n (replicate w 0) k 0 m ∙ get_or-replicate w k 0 0 (omega arith)
        ∙ sym (get_or-replicate n k 0 0 m))

-- one and zeros are residues
pub unit_row_valid : (p w k : ℕ) → 1 < p → IsRowOf p w (unit_column (mod_ops p) w k)
unit_row_valid p w k l = record {
  wide = omega (arith, length-set {A = ℕ} (replicate w 0) k 1, length-replicate {A = ℕ} w 0);
  residues = All-set (λ x. x < p) (replicate w 0) k 1 l (All-replicate (λ x. x < p) w 0 (omega arith));
}
