-- How a polynomial is made monic, and stands in a row. No public clause cites this module.
--     IsNormalizer p f k     k is the constant polynomial of the inverse of f's last coefficient
--     IsRowOf w p row n      a row of w residues, of which the first n are a polynomial and the
--         others zero
use Rattle.std.specs.Prelude.{◌≡◌, ℕ, ◌<◌, ◌≤◌, List, [], ◌∷◌, length, take, All}
use Rattle.alg_model.specs.Coefficients.{mod_ops}
use Rattle.alg_model.specs.Polynomials.{trim, leading}

pub record IsNormalizer (p : ℕ) (f k : List ℕ) : Type 0 where
  pub inverse : ℕ
  pub residue : inverse < p
  pub identity : (mod_ops p).mul (leading (mod_ops p) f) inverse ≡ 1
  pub constant : k ≡ trim (mod_ops p) (inverse ∷ [])

pub record IsRowOf (w p : ℕ) (row : List ℕ) (n : ℕ) : Type 0 where
  pub count : length row ≡ w
  pub residues : All (λ x. x < p) row
  pub fits : n ≤ w
  pub trimmed : take n row ≡ trim (mod_ops p) row
