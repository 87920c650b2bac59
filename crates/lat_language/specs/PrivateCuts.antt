-- What the cuts of a text give. No public clause cites this module.
use Rattle.std.specs.Prelude.{◌≡◌, ◌⊎◌, ℕ, ◌<◌, ◌==◌, List, [], ◌∷◌, length}
use Rattle.std.specs.List.{slice_split}

-- the first part of a text is this one, and the others are those of the rest, which is shorter
abbrev pub IsFirstPart : (List ℕ → List (List ℕ)) → List ℕ → List ℕ → List ℕ → Type 0
IsFirstPart parts_of text first rest =
    (parts_of text ≡ first ∷ parts_of rest) × (length rest < length text)

-- the same for the parts between such bytes, or there is no such byte, and nothing is left
abbrev pub IsCutAt : ℕ → List ℕ → List ℕ → List ℕ → Type 0
IsCutAt byte text first rest = IsFirstPart (slice_split (λ b. b == byte)) text first rest
    ⊎ ((slice_split (λ b. b == byte) text ≡ first ∷ []) × (first ≡ text) × (rest ≡ []))
