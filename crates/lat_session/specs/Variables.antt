-- The variables of a session.
--     Variables                  values with the numbers of their fields, by names
--     Holds variables name t     t is the value of the variable of this name
--     IsVariable variables name  there is a variable of this name
--     IsFullFor variables name   the name is new, and there is no room for one more
--     AreVariables L variables   each is a value of a field of L, and there are not too many
use Rattle.std.specs.Prelude.{◌≡◌, ℕ, ◌≤◌, List, Some}
use Rattle.std.specs.Cmp.Lexicographic.{slice_cmp}
use Rattle.std.specs.Ordering.{nat_cmp}
use Rattle.std.specs.FinMap.{FinMap, get, len}
use Rattle.std.specs.declared.cmp.Ordering.{Ordering}
use Rattle.alg_model.specs.Lattices.{Lattice}
use Rattle.lat_core.specs.declared.tagged.Tagged.{Tagged}
use Rattle.lat_core.specs.Answers.{IsTaggedValue}
use Rattle.lat_session.specs.declared.TheConstants.{MAX_VARIABLES}

-- names in the order of their bytes
abbrev pub name_cmp : List ℕ → List ℕ → Ordering
name_cmp = slice_cmp nat_cmp

-- at most one value for each name
abbrev pub Variables : Type 0
Variables = FinMap name_cmp Tagged

-- t is the value of this variable
pub record Holds (variables : Variables) (name : List ℕ) (t : Tagged) : Type 0 where
  pub found : get variables name ≡ Some t

abbrev pub IsVariable : Variables → List ℕ → Type 0
IsVariable variables name = (t : Tagged) × Holds variables name t

-- a variable of this name would be one too many
pub record IsFullFor (variables : Variables) (name : List ℕ) : Type 0 where
  pub new : ¬ IsVariable variables name
  pub full : MAX_VARIABLES ≤ len variables

-- each is tagged with a field of L and is a value of it, and there is room for all
pub record AreVariables (L : Lattice) (variables : Variables) : Type 0 where
  pub values : {name : List ℕ} {t : Tagged} → Holds variables name t → IsTaggedValue L t
  pub room : len variables ≤ MAX_VARIABLES
