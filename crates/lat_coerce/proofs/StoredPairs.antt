-- What is known of pairs with a stored map in a compatible lattice.
use Rattle.std.proofs.Common.{◌≡◌, ◌↔◌, ◌⊎◌, ℕ, ◌+◌, ◌<◌, ◌≤◌, List, length, sym, ◌∙◌, inl, inr, ⊎_elim, arith, Bool, true, false, Option, Some, None}
use Rattle.std.specs.Prelude.{IsTrue}
use Rattle.std.specs.FinMap.{get}
use Rattle.std.proofs.lemmas.Bool.{cases_eq}
use Rattle.std.proofs.lemmas.Option.{none-some}
use Rattle.std.proofs.lemmas.Nat.Gcd.{le_of_dvd}
use Rattle.alg_model.specs.Maps.{IsFiniteField, degree_of}
use Rattle.alg_model.specs.Lattices.{Lattice, field_at, Stored, IsCompatible}
use Rattle.alg_galois.proofs.EmbeddingRoots.{embedding_degree_divides}
use Rattle.alg_galois.proofs.Meets.{degree_positive}
use Rattle.alg_compatible.proofs.Transfer.{lattice_decided, field_finite}
use Rattle.lat_core.specs.Answers.{IsStoredPair}

-- a number up to n is n or below it
pub last_or_below : {n m d : ℕ} → m ≡ n + 1 → d < m → (n ≡ d) ⊎ (d < n)
last_or_below {n} {m} {d} e h = ⊎_elim (λ s. inl s) (λ apart. inr (omega arith)) (cases_eq n d)

-- it can be told whether a map is stored for a pair
pub stored_or_not : (L : Lattice) (i j : ℕ) → IsStoredPair L i j ⊎ ¬ IsStoredPair L i j
stored_or_not L i j = lattice_decided L i j

-- a pair for which nothing is found has none
pub missing_pair : (L : Lattice) (i j : ℕ) → get L.maps (i, j) ≡ None → ¬ IsStoredPair L i j
missing_pair L i j e (m, s) = none-some m (sym e ∙ s.found)

-- what a test tells
pub tells_true : {P : Type 0} (b : Bool) → IsTrue b ↔ P → b ≡ true → P
tells_true b same e = same.0 e

pub tells_false : {P : Type 0} (b : Bool) → IsTrue b ↔ P → b ≡ false → ¬ P
tells_false b same e p = let t : b ≡ true = same.1 p in cc

module _ {L : Lattice} (C : IsCompatible L) where
  pub source_within : {i j : ℕ} → IsStoredPair L i j → i < length L.rows
  source_within (m, s) = (C.compatible.within s).0

  pub target_within : {i j : ℕ} → IsStoredPair L i j → j < length L.rows
  target_within (m, s) = (C.compatible.within s).1

  -- the field of a number of a stored pair is finite
  pub source_finite : {i j : ℕ} {m : List (List ℕ)} → Stored L i j m
      → IsFiniteField (field_at L.rows i)
  source_finite {i} s = field_finite L C.rows i (C.compatible.within s).0

  pub target_finite : {i j : ℕ} {m : List (List ℕ)} → Stored L i j m
      → IsFiniteField (field_at L.rows j)
  target_finite {j = j} s = field_finite L C.rows j (C.compatible.within s).1

  -- **degrees don't fall along a stored map**
  pub degree_rises : {i j : ℕ} → IsStoredPair L i j
      → degree_of (field_at L.rows i) ≤ degree_of (field_at L.rows j)
  degree_rises {i} {j} (m, s) = le_of_dvd (degree_positive (field_at L.rows j) (target_finite s))
      (embedding_degree_divides (field_at L.rows i) (field_at L.rows j) (source_finite s) (target_finite s) m
      (C.compatible.embedding s))
