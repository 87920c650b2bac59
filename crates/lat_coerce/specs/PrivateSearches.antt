-- What is found by going through the fields of a lattice. No public clause cites this module.
--     IsLowestBelow L a b n g     g is the first of lowest degree of the common overfields of a and
--                                 b below n
--     IsBestBelow L a b n best    best is this field, or None where there is no such overfield
--     IsCommonSubfield L i j d l  l is stored in i and in j, and has degree d
--     IsFirstOfDegree L i j d l   the first such l
--     AreSubfieldsBelow L k n numbers     the numbers below n of stored subfields of k
use Rattle.std.specs.Prelude.{◌≡◌, ◌↔◌, ℕ, ◌<◌, ◌≤◌, List, length, AllPairs, Contains, Option, MatchOption}
use Rattle.alg_model.specs.Maps.{degree_of}
use Rattle.alg_model.specs.Lattices.{Lattice, field_at}
use Rattle.lat_core.specs.Answers.{IsStoredPair, IsCommon}

-- of the common overfields below n none has a lower degree, and of those of its degree it is first
pub record IsLowestBelow (L : Lattice) (a b n g : ℕ) : Type 0 where
  pub below : g < n
  pub common : IsCommon L a b g
  pub lowest : (h : ℕ) → h < n → IsCommon L a b h
      → degree_of (field_at L.rows g) ≤ degree_of (field_at L.rows h)
  pub first : (h : ℕ) → h < n → IsCommon L a b h
      → degree_of (field_at L.rows h) ≤ degree_of (field_at L.rows g) → g ≤ h

abbrev pub IsBestBelow : Lattice → ℕ → ℕ → ℕ → Option ℕ → Type 0
IsBestBelow L a b n best = MatchOption best ((h : ℕ) → h < n → ¬ IsCommon L a b h)
    (IsLowestBelow L a b n)

pub record IsCommonSubfield (L : Lattice) (i j d l : ℕ) : Type 0 where
  pub first : IsStoredPair L l i
  pub second : IsStoredPair L l j
  pub of_degree : degree_of (field_at L.rows l) ≡ d

pub record IsFirstOfDegree (L : Lattice) (i j d l : ℕ) : Type 0 where
  pub common : IsCommonSubfield L i j d l
  pub first : (m : ℕ) → IsCommonSubfield L i j d m → l ≤ m

-- rising, with room for n, and exactly those
pub record AreSubfieldsBelow (L : Lattice) (k n : ℕ) (numbers : List ℕ) : Type 0 where
  pub count : length numbers ≤ n
  pub rising : AllPairs (λ a b. a < b) numbers
  pub exactly : (i : ℕ) → Contains numbers i ↔ ((i < n) × IsStoredPair L i k)
