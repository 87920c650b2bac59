-- Which common subfields restrict an embedding of field E into field F. No public clause cites this
-- module.
--     ComesFirst L d c     field c is greater than field d or, of the same degree, first
--     Covers L E F d c     field d goes into the common subfield c, which comes first
--     IsNeeded L E F d     d is a common subfield, no prime field, and goes into no such one
use Rattle.std.specs.Prelude.{◌≡◌, ◌≢◌, ◌⊎◌, ℕ, ◌<◌, List}
use Rattle.alg_model.specs.Maps.{degree_of}
use Rattle.alg_model.specs.Lattices.{Lattice, field_at, Stored}
use Rattle.alg_choices.specs.Fitting.{IsCommonSubfield, IsCovered}

-- the degree of c is greater than that of d, or the same, and its number less
abbrev pub ComesFirst : Lattice → ℕ → ℕ → Type 0
ComesFirst L d c = (degree_of (field_at L.rows d) < degree_of (field_at L.rows c))
    ⊎ ((degree_of (field_at L.rows d) ≡ degree_of (field_at L.rows c)) × (c < d))

-- d goes into the common subfield c, which is greater or, of the same degree, first
pub record Covers (L : Lattice) (E F d c : ℕ) : Type 0 where
  pub comes_first : ComesFirst L d c
  pub into : (m : List (List ℕ)) × Stored L d c m
  pub is_common : IsCommonSubfield L E F c

-- d is a common subfield, no prime field, and goes into no other one that does for it too
pub record IsNeeded (L : Lattice) (E F d : ℕ) : Type 0 where
  pub is_common : IsCommonSubfield L E F d
  pub not_prime : degree_of (field_at L.rows d) ≢ 1
  pub uncovered : ¬ IsCovered L E F d
