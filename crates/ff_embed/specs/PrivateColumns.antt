-- What `Columns` keeps: the columns of a matrix of residues, in a table of constant width. No
-- public clause cites this module.
--     columns_in n m table         the first n places of each of the first m rows of the table
--     AreColumns p n m table       a table of residues modulo p that holds m columns of n places
--     columns_at n m digits        the first m lists of n digits each
--     AreDigits p n m digits       the digits are residues modulo p, m columns of n places and
--                                  MAX_DEGREE more
--     product_of a b               the product of two matrices over one prime
--     IsListed a k digits          the digits are those of the first k columns of the matrix a
use Rattle.std.specs.Prelude.{◌≡◌, ℕ, ◌+◌, ◌*◌, ◌≤◌, ◌<◌, List, length, map, take, drop, All}
use Rattle.std.specs.List.{range_with_len}
use Rattle.alg_model.specs.Coefficients.{IsCharacteristic, mod_ops}
use Rattle.alg_model.specs.Matrices.{matrix_product}
use Rattle.ff_residues.specs.SumRows.{IsRowOf}
use Rattle.ff_matrix.specs.ModularMatrix.{ModularMatrix}
use Rattle.ff_poly.specs.declared.TheConstants.{MAX_DEGREE}

abbrev pub columns_in : ℕ → ℕ → List (List ℕ) → List (List ℕ)
columns_in n m table = map (take n) (take m table)

pub record AreColumns (p n m : ℕ) (table : List (List ℕ)) : Type 0 where
  pub characteristic : IsCharacteristic p
  pub long : length table ≡ MAX_DEGREE
  pub residues : All (IsRowOf p MAX_DEGREE) table
  pub rows_fit : n ≤ MAX_DEGREE
  pub columns_fit : m ≤ MAX_DEGREE

abbrev pub columns_at : ℕ → ℕ → List ℕ → List (List ℕ)
columns_at n m digits = map (λ k. take n (drop (k * n) digits)) (range_with_len 0 m)

pub record AreDigits (p n m : ℕ) (digits : List ℕ) : Type 0 where
  pub characteristic : IsCharacteristic p
  pub long : length digits ≡ m * n + MAX_DEGREE
  pub residues : All (λ x. x < p) digits
  pub rows_fit : n ≤ MAX_DEGREE
  pub columns_fit : m ≤ MAX_DEGREE

abbrev pub product_of : ModularMatrix → ModularMatrix → ModularMatrix
product_of a b = record {
  prime = a.prime;
  matrix = matrix_product (mod_ops a.prime) a.matrix b.matrix;
}

pub record IsListed (a : ModularMatrix) (k : ℕ) (digits : List ℕ) : Type 0 where
  pub long : length digits ≡ k * a.matrix.rows
  pub residues : All (λ x. x < a.prime) digits
  pub columns : columns_at a.matrix.rows k digits ≡ take k a.matrix.columns
