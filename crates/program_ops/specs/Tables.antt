-- Operations by the coefficients of their polynomials, lowest first, for each characteristic.
--     polynomial_over coefficients p     the polynomial over p with these coefficients
--     table_with coefficients      these polynomials, in the order of the characteristics
--     square p                     x^2
--     artin_schreier p             x^p - x, the Artin-Schreier polynomial
--     successor p                  x + 1
use Rattle.std.specs.Prelude.{ℕ, ◌-◌, List, [], ◌∷◌, ◌++◌, map, replicate}
use Rattle.alg_model.specs.Coefficients.{primes}
use Rattle.ff_poly.specs.Polynomial.{Polynomial}

-- the polynomial over p with the coefficients for p
abbrev pub polynomial_over : (ℕ → List ℕ) → ℕ → Polynomial
polynomial_over coefficients p = record { prime = p; coefficients = coefficients p }

-- one for each characteristic
abbrev pub table_with : (ℕ → List ℕ) → List Polynomial
table_with coefficients = map (polynomial_over coefficients) primes

-- 0, 0, 1
abbrev pub square : ℕ → List ℕ
square p = 0 ∷ 0 ∷ 1 ∷ []

-- 0, -1, then zeros at the places 2 to p - 1, and 1 at the place p
abbrev pub artin_schreier : ℕ → List ℕ
artin_schreier p = 0 ∷ (p - 1) ∷ (replicate (p - 2) 0 ++ (1 ∷ []))

-- 1, 1
abbrev pub successor : ℕ → List ℕ
successor p = 1 ∷ 1 ∷ []
