-- What a contract sees of a `Matrix`.
--     ModularMatrix         a characteristic, and a matrix over the residues modulo it
--     IsModularMatrix m     m is such a matrix, of at most MAX_DEGREE rows and columns
use Rattle.std.specs.Prelude.{ℕ, ◌≤◌, length}
use Rattle.alg_model.specs.Coefficients.{residues, IsCharacteristic}
use Rattle.alg_model.specs.Matrices.{Matrix, IsMatrix}
use Rattle.ff_poly.specs.declared.TheConstants.{MAX_DEGREE}

pub record ModularMatrix : Type 0 where
  pub prime : ℕ
  pub matrix : Matrix ℕ

pub record IsModularMatrix (m : ModularMatrix) : Type 0 where
  pub characteristic : IsCharacteristic m.prime
  pub entries : IsMatrix (residues m.prime) m.matrix
  pub rows_fit : m.matrix.rows ≤ MAX_DEGREE
  pub columns_fit : length m.matrix.columns ≤ MAX_DEGREE
