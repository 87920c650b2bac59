-- Members and their degrees, as a program has them.
--     AreMembersBelow L E F n is     the list of the members below n, rising
--     AreDegrees L E F holds         holds is true of the degrees of members, and of no others
--     InClosure holds d              d is a number that holds, or a gcd of two that are in the
--                                    closure
use Rattle.std.specs.Prelude.{◌≡◌, ◌↔◌, ℕ, ◌<◌, List, AllPairs, Contains}
use Rattle.std.specs.Int.{IsGcd}
use Rattle.alg_model.specs.Maps.{degree_of}
use Rattle.alg_model.specs.Lattices.{Lattice, field_at}
use Rattle.alg_model.specs.Candidates.{IsMember}

-- the members below n, each once
pub record AreMembersBelow (L : Lattice) (E F n : ℕ) (is : List ℕ) : Type 0 where
  pub rising : AllPairs (λ a b. a < b) is
  pub exactly : (i : ℕ) → Contains is i ↔ ((i < n) × IsMember L E F i)

-- the degrees of the members
pub record AreDegrees (L : Lattice) (E F : ℕ) (holds : ℕ → Type 0) : Type 0 where
  pub exactly : (d : ℕ) → holds d
      ↔ ((i : ℕ) × IsMember L E F i × (degree_of (field_at L.rows i) ≡ d))

-- what holds, closed under gcd
pub data InClosure (holds : ℕ → Type 0) : ℕ → Type 0 where
  of_member : {d : ℕ} → holds d → InClosure holds d
  of_gcd : {a b d : ℕ} → InClosure holds a → InClosure holds b → IsGcd a b d → InClosure holds d
