-- What the functions of this crate hand on of degrees, members and added fields. No public clause
-- cites this module.
--     AreDegreesBelow L E F n ds     ds are the degrees of the members below n
--     IsSmallDegree d                d is 1 to MAX_DEGREE
--     number_at ms a, images_at ms a     the number of the a-th member, and its map
--     AreListed L E F phi rows n ms      ms are the members and the added fields below n, with
--                                        their maps into F
--     AreMade L F degrees fields     one field for each degree, as they are added to L
--     Divides rows F fields          these fields have the characteristic of F, and degrees that
--                                    divide its
use Rattle.std.specs.Prelude.{◌≡◌, ◌↔◌, ℕ, ◌+◌, ◌<◌, ◌≤◌, List, length, slice_index, slice_index_or, Contains}
use Prim.Native.Nat.{◌∣◌}
use Rattle.alg_model.specs.Maps.{degree_of}
use Rattle.alg_model.specs.Lattices.{Lattice, Row, no_row, field_at}
use Rattle.alg_model.specs.Candidates.{IsMember}
use Rattle.alg_model.specs.Filling.{IsMadeRow}
use Rattle.alg_choices.specs.Linking.{IsListedBelow}
use Rattle.ff_poly.specs.declared.TheConstants.{MAX_DEGREE}
use Rattle.lat_world.specs.declared.members.Member.{Member}
use Rattle.lat_world.specs.Worlds.{no_member, map_at}

abbrev pub AreDegreesBelow : Lattice → ℕ → ℕ → ℕ → List ℕ → Type 0
AreDegreesBelow L E F n ds = (d : ℕ) → Contains ds d
    ↔ ((i : ℕ) × (i < n) × IsMember L E F i × (degree_of (field_at L.rows i) ≡ d))

abbrev pub IsSmallDegree : ℕ → Type 0
IsSmallDegree d = (0 < d) × (d ≤ MAX_DEGREE)

abbrev pub number_at : List Member → ℕ → ℕ
number_at ms a = (slice_index_or ms a no_member).number

abbrev pub images_at : List Member → ℕ → List (List ℕ)
images_at ms a = (map_at ms a).images

-- the members and the added fields below n; their maps go between fields of these rows
pub record AreListed (L : Lattice) (E F : ℕ) (phi : List (List ℕ)) (rows : List Row) (n : ℕ)
    (ms : List Member) : Type 0 where
  pub listed : IsListedBelow (length ms) (number_at ms) (images_at ms) L E F phi rows n
  pub source : (a : ℕ) → a < length ms → (map_at ms a).source ≡ field_at rows (number_at ms a)
  pub target : (a : ℕ) → a < length ms → (map_at ms a).target ≡ field_at rows F

-- a field of each degree, named by the number that it gets
pub record AreMade (L : Lattice) (F : ℕ) (degrees : List ℕ) (fields : List Row) : Type 0 where
  pub count : length fields ≡ length degrees
  pub made_rows : (k : ℕ) → k < length degrees
      → IsMadeRow (length L.rows + k) (field_at L.rows F).characteristic (slice_index degrees k)
      (slice_index_or fields k no_row)

-- each of these fields goes into field F
pub record GoInto (L : Lattice) (F : ℕ) (fields : List Row) : Type 0 where
  pub same_characteristic : (k : ℕ) → k < length fields
      → (field_at fields k).characteristic ≡ (field_at L.rows F).characteristic
  pub divides : (k : ℕ) → k < length fields
      → degree_of (field_at fields k) ∣ degree_of (field_at L.rows F)
