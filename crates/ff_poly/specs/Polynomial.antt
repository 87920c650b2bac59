-- What a contract sees of a `Poly`.
--     Polynomial     a characteristic, and the coefficients of a polynomial over the residues
--         modulo it
--     IsPoly f       f is such a polynomial, of at most MAX_POLY coefficients
use Rattle.std.specs.Prelude.{◌≤◌, ℕ, List, length}
use Rattle.alg_model.specs.Coefficients.{residues, IsCharacteristic}
use Rattle.alg_model.specs.Factors.{IsPolynomial}
use Rattle.ff_poly.specs.declared.TheConstants.{MAX_POLY}

-- coefficients modulo a prime, lowest first
pub record Polynomial : Type 0 where
  pub prime : ℕ
  pub coefficients : List ℕ

-- f has residues modulo its prime as coefficients, no zero at their end, and room for them
pub record IsPoly (f : Polynomial) : Type 0 where
  pub characteristic : IsCharacteristic f.prime
  pub polynomial : IsPolynomial (residues f.prime) f.coefficients
  pub fits : length f.coefficients ≤ MAX_POLY
