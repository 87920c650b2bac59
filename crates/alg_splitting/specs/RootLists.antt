-- The roots of a polynomial in a finite field, as a list.
--     IsRootList F g vs     vs are the roots of g in F, the least first
use Rattle.std.specs.Prelude.{◌↔◌, ℕ, List, AllPairs, Contains}
use Rattle.alg_model.specs.Maps.{Field}
use Rattle.alg_model.specs.Roots.{IsRoot, IsBefore}

pub record IsRootList (F : Field) (g vs : List (List ℕ)) : Type 0 where
  pub rising : AllPairs IsBefore vs
  pub exactly : (v : List ℕ) → Contains vs v ↔ IsRoot F g v
