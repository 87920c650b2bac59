-- What the search for roots keeps of its lists. No public clause cites this module.
--     IsRising F vs                values of F, each before all later ones
--     Collects F P n old new       new has the members of old and, n more, those that P holds of
use Rattle.std.specs.Prelude.{◌≡◌, ◌⊎◌, ◌↔◌, ℕ, ◌+◌, List, length, All, AllPairs, Contains}
use Rattle.alg_model.specs.Maps.{Field, field_values}
use Rattle.alg_model.specs.Roots.{IsBefore}

-- values in their order, each once
pub record IsRising (F : Field) (vs : List (List ℕ)) : Type 0 where
  pub values : All (field_values F).Valid vs
  pub rising : AllPairs IsBefore vs

-- n values more, those with the property P
pub record Collects (F : Field) (P : List ℕ → Type 0) (n : ℕ) (old new : List (List ℕ))
    : Type 0 where
  pub list : IsRising F new
  pub count : length new ≡ length old + n
  pub members : (v : List ℕ) → Contains new v ↔ (Contains old v ⊎ P v)
