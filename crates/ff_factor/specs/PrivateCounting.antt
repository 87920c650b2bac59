-- Residues as the digits of a number. No public clause cites this module.
--     number p xs      the number with the digits xs in base p, lowest first
use Rattle.std.specs.Prelude.{ℕ, ◌+◌, ◌*◌, List, [], ◌∷◌}

abbrev pub number : ℕ → List ℕ → ℕ
number p [] = 0
number p (x ∷ xs) = x + p * number p xs
