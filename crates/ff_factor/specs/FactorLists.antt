-- What contracts see of a list of factors.
--     coefficients_of fs     the coefficients of each polynomial of a list
--     AreOver p fs           each polynomial of a list is over the residues modulo p
use Rattle.std.specs.Prelude.{◌≡◌, ℕ, List, map, All}
use Rattle.ff_poly.specs.Polynomial.{Polynomial}

abbrev pub coefficients_of : List Polynomial → List (List ℕ)
coefficients_of fs = map (λ f. f.coefficients) fs

abbrev pub AreOver : ℕ → List Polynomial → Type 0
AreOver p fs = All (λ f. f.prime ≡ p) fs
