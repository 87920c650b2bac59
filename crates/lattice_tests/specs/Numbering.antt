-- A polynomial over the residues modulo p as a number in base p.
use Rattle.std.specs.Prelude.{ℕ, ◌+◌, ◌*◌, List, [], ◌∷◌}

-- the number whose digits in base p, lowest first, are the coefficients
abbrev pub number_of : ℕ → List ℕ → ℕ
number_of p [] = 0
number_of p (x ∷ xs) = x + p * number_of p xs
