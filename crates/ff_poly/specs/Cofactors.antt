-- The factor of one polynomial in what it and another combine to.
--     IsCofactor p a b u     u * a + w * b is the greatest common divisor of a and b, for some w
use Rattle.std.specs.Prelude.{◌≡◌, ℕ, ◌-◌, ◌≤◌, max, List, length}
use Rattle.alg_model.specs.Coefficients.{mod_ops, residues}
use Rattle.alg_model.specs.Polynomials.{poly_sum, poly_product}
use Rattle.alg_model.specs.Factors.{IsPolynomial, IsGreatestCommonDivisor}

-- and u has no more coefficients than b has beyond those of the divisor, or it is a constant
pub record IsCofactor (p : ℕ) (a b u : List ℕ) : Type 0 where
  pub other : List ℕ
  pub divisor : List ℕ
  pub polynomial : IsPolynomial (residues p) other
  pub greatest : IsGreatestCommonDivisor (residues p) a b divisor
  pub identity : poly_sum (mod_ops p) (poly_product (mod_ops p) u a)
      (poly_product (mod_ops p) other b) ≡ divisor
  pub short : length u ≤ max 1 (length b - length divisor)
