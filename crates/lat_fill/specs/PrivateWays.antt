-- What the functions of this crate hand on of the maps that they store. No public clause cites this
-- module.
--     followed e f          the map e, and then f
--     IsWay L ms m          m is the map between two members that agrees with their maps, or such
--                           a map and then a map of L
--     AreWays L ms maps     so is each of these maps
--     IsHad L maps i k      L or one of the maps has the pair (i, k)
--     Keeps L old new       the pairs that are had with `old` are had with `new`
--     Provides L ms Needed i k old new     old ways are kept, and the pair (i, k) is had if needed
--     Goes ms a b           the degree of the a-th member divides that of the b-th
--     IsExit L ms a b k     so does it, and L has a map from the b-th to k
--     IsReached L ms a k    so it is through some place b
--     AreAtHome L ms        members with stored maps begin in their fields of L
--     IsWayFor L ms i k m   m is such a map from i to k
--     Leads L ms b k        L has a map from the b-th member to k
--     AreExits L ms k n exits     for each degree, a place below n of a member that leads into k and
--                           that a field of this degree goes into, if there is one
--     HasPlace ms k         a member has the number k
--     AreAllWays L ms maps  these maps are such, and enough of them
use Rattle.std.specs.Prelude.{◌≡◌, ◌⊎◌, ℕ, ◌+◌, ◌<◌, List, length, slice_index_or, Option, Some, None}
use Prim.Native.Nat.{◌∣◌}
use Rattle.alg_model.specs.Maps.{degree_of, comp}
use Rattle.alg_model.specs.Lattices.{Lattice, Stored, field_at}
use Rattle.ff_poly.specs.declared.TheConstants.{MAX_DEGREE}
use Rattle.ff_embed.specs.SmallEmbeddings.{FieldMap}
use Rattle.lat_core.specs.declared.rows.MapRow.{MapRow}
use Rattle.lat_core.specs.SharedRows.{IsBetween}
use Rattle.lat_world.specs.declared.members.Member.{Member}
use Rattle.lat_world.specs.Worlds.{map_at, IsForcedBetween}
use Rattle.lat_fill.specs.PrivateListing.{number_at}

abbrev pub followed : FieldMap → FieldMap → FieldMap
followed e f = record {
  source = e.source;
  target = f.target;
  images = comp f.target e.images f.images;
}

-- a link, or a link and then a stored map
pub data IsWay (L : Lattice) (ms : List Member) (m : MapRow) : Type 0 where
  link : {a b : ℕ} → a < length ms → b < length ms → number_at ms a ≡ m.from
      → number_at ms b ≡ m.into → IsForcedBetween ms a b m.map → IsWay L ms m
  beyond : {a b : ℕ} {e f : FieldMap} → a < length ms → b < length ms → number_at ms a ≡ m.from
      → IsForcedBetween ms a b e → Stored L (number_at ms b) m.into f.images
      → IsBetween L.rows (number_at ms b) m.into f → m.map ≡ followed e f → IsWay L ms m

pub record AreWays (L : Lattice) (ms : List Member) (maps : List MapRow) : Type 0 where
  pub each : (x : ℕ) (d : MapRow) → x < length maps → IsWay L ms (slice_index_or maps x d)

-- a map of the list has the pair
pub record IsListedPair (maps : List MapRow) (i k : ℕ) : Type 0 where
  pub place : ℕ
  pub within : place < length maps
  pub from : (d : MapRow) → (slice_index_or maps place d).from ≡ i
  pub into : (d : MapRow) → (slice_index_or maps place d).into ≡ k

abbrev pub IsHad : Lattice → List MapRow → ℕ → ℕ → Type 0
IsHad L maps i k = ((m : List (List ℕ)) × Stored L i k m) ⊎ IsListedPair maps i k

pub record Keeps (old new : List MapRow) : Type 0 where
  pub kept : (i k : ℕ) → IsListedPair old i k → IsListedPair new i k

-- new has what old has, ways alone, and if it is needed the pair (i, k)
pub record Provides (L : Lattice) (ms : List Member) (Needed : Type 0) (i k : ℕ)
    (old new : List MapRow) : Type 0 where
  pub ways : AreWays L ms new
  pub kept : Keeps old new
  pub had : Needed → IsHad L new i k

abbrev pub Goes : List Member → ℕ → ℕ → Type 0
Goes ms a b = degree_of (map_at ms a).source ∣ degree_of (map_at ms b).source

-- out of place a, through place b, into field k
pub record IsExit (L : Lattice) (ms : List Member) (a b k : ℕ) : Type 0 where
  pub divides : Goes ms a b
  pub is_stored : (m : List (List ℕ)) × Stored L (number_at ms b) k m

-- through some place
pub record IsReached (L : Lattice) (ms : List Member) (a k : ℕ) : Type 0 where
  pub through : ℕ
  pub within : through < length ms
  pub exit : IsExit L ms a through k

-- a member with a stored map is a field of the lattice
pub record AreAtHome (L : Lattice) (ms : List Member) : Type 0 where
  pub source : (b k : ℕ) (m : List (List ℕ)) → b < length ms → Stored L (number_at ms b) k m
      → (map_at ms b).source ≡ field_at L.rows (number_at ms b)

-- m is such a map from i to k
pub record IsWayFor (L : Lattice) (ms : List Member) (i k : ℕ) (m : MapRow) : Type 0 where
  pub way : IsWay L ms m
  pub from : m.from ≡ i
  pub into : m.into ≡ k

-- the b-th member has a map into k
abbrev pub Leads : Lattice → List Member → ℕ → ℕ → Type 0
Leads L ms b k = (m : List (List ℕ)) × Stored L (number_at ms b) k m

-- for each degree, a place below n of a member that it divides the degree of and that leads into k,
-- exactly where there is one
pub record AreExits (L : Lattice) (ms : List Member) (k n : ℕ) (exits : List (Option ℕ))
    : Type 0 where
  pub count : length exits ≡ MAX_DEGREE + 1
  pub below : (d b : ℕ) → slice_index_or exits d None ≡ Some b → b < n
  pub leads : (d b : ℕ) → slice_index_or exits d None ≡ Some b → Leads L ms b k
  pub divides : (d b : ℕ) → slice_index_or exits d None ≡ Some b
      → d ∣ degree_of (map_at ms b).source
  pub all : (d b : ℕ) → b < n → Leads L ms b k → d ∣ degree_of (map_at ms b).source
      → slice_index_or exits d None ≡ None → ⊥

-- a member has this number
pub record HasPlace (ms : List Member) (k : ℕ) : Type 0 where
  pub place : ℕ
  pub within : place < length ms
  pub number : number_at ms place ≡ k

-- maps between members and out of them, one for each pair that is needed
pub record AreAllWays (L : Lattice) (ms : List Member) (maps : List MapRow) : Type 0 where
  pub ways : AreWays L ms maps
  pub among : (a b : ℕ) → a < length ms → b < length ms → Goes ms a b
      → IsHad L maps (number_at ms a) (number_at ms b)
  pub leaving : (a k : ℕ) → a < length ms → k < length L.rows → (HasPlace ms k → ⊥)
      → IsReached L ms a k → IsHad L maps (number_at ms a) k
