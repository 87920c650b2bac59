-- What a contract sees of an `Echelon`.
--     IsEchelonOf m e       e has the reduced row echelon form of the matrix m, over the same prime
use Rattle.std.specs.Prelude.{◌≡◌}
use Rattle.alg_model.specs.Coefficients.{residues}
use Rattle.alg_model.specs.Matrices.{IsReduction}
use Rattle.ff_matrix.specs.declared.echelon.Echelon.{Echelon}
use Rattle.ff_matrix.specs.ModularMatrix.{ModularMatrix, IsModularMatrix}

pub record IsEchelonOf (m : ModularMatrix) (e : Echelon) : Type 0 where
  pub matrix : IsModularMatrix m
  pub form : IsModularMatrix e.form
  pub transform : IsModularMatrix e.transform
  pub form_prime : e.form.prime ≡ m.prime
  pub transform_prime : e.transform.prime ≡ m.prime
  pub reduction : IsReduction (residues m.prime) m.matrix e.form.matrix e.transform.matrix e.pivots
