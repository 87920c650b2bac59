-- The laws of lists of roots that this crate proves, as statements on the fields of the model.
use Rattle.std.specs.Prelude.{◌≡◌, ◌≢◌, ℕ, ◌<◌, List, [], ◌∷◌, length}
use Prim.Native.Nat.{◌∣◌}
use Rattle.alg_model.specs.Coefficients.{residues}
use Rattle.alg_model.specs.Factors.{IsPolynomial, IsMonic, IsIrreducible}
use Rattle.alg_model.specs.Values.{degree}
use Rattle.alg_model.specs.Maps.{Field, IsFiniteField, field_values, degree_of, constants}
use Rattle.alg_model.specs.Roots.{IsLeastRoot}
use Rattle.alg_splitting.specs.RootLists.{IsRootList}

-- each polynomial has a list of its roots
abbrev pub RootListExists : Type 0
RootListExists = (F : Field) → IsFiniteField F → (g : List (List ℕ))
    → (vs : List (List ℕ)) × IsRootList F g vs

-- and one alone
abbrev pub RootListIsUnique : Type 0
RootListIsUnique = (F : Field) (g vs ws : List (List ℕ)) → IsRootList F g vs → IsRootList F g ws
    → vs ≡ ws

-- which begins with the least root
abbrev pub FirstIsLeastRoot : Type 0
FirstIsLeastRoot = (F : Field) (g : List (List ℕ)) (v : List ℕ) (vs : List (List ℕ))
    → IsRootList F g (v ∷ vs) → IsLeastRoot F g v

-- a polynomial that isn't zero has at most as many roots as its degree
abbrev pub RootListIsShort : Type 0
RootListIsShort = (F : Field) → IsFiniteField F → (g vs : List (List ℕ))
    → IsPolynomial (field_values F) g → g ≢ [] → IsRootList F g vs → length vs < length g

-- a monic irreducible polynomial over the prime field has as many as its degree, where that divides
-- the degree of F
abbrev pub IrreducibleHasAllRoots : Type 0
IrreducibleHasAllRoots = (F : Field) → IsFiniteField F → (f : List ℕ)
    → IsMonic (residues F.characteristic) f → IsIrreducible (residues F.characteristic) f
    → degree f ∣ degree_of F → (vs : List (List ℕ)) → IsRootList F (constants F f) vs
    → length vs ≡ degree f

-- and none elsewhere
abbrev pub IrreducibleHasNoRoots : Type 0
IrreducibleHasNoRoots = (F : Field) → IsFiniteField F → (f : List ℕ)
    → IsMonic (residues F.characteristic) f → IsIrreducible (residues F.characteristic) f
    → ¬ (degree f ∣ degree_of F) → IsRootList F (constants F f) []
