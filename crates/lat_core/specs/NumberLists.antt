-- Rising lists of numbers.
--     IsNumberList numbers     at most 200 numbers, rising
use Rattle.std.specs.Prelude.{ℕ, ◌<◌, ◌≤◌, List, length, AllPairs}
use Rattle.lat_core.specs.declared.TheConstants.{MAX_FIELDS}

-- rising numbers, at most as many as a lattice has fields
pub record IsNumberList (numbers : List ℕ) : Type 0 where
  pub count : length numbers ≤ MAX_FIELDS
  pub rising : AllPairs (λ a b. a < b) numbers
