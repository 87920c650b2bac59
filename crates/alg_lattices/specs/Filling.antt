-- What an insertion of a map adds to a lattice. E is the source of the map, F its target.
--     IsCandidate o L E F phi       phi is an embedding that agrees with the common subfields
--     IsMember L E F i              i is a stored subfield of E or of F
--     IsClosureDegree, IsMissing    the members' degrees closed under gcd; those that no member has
--     AreMissing o L E F ds         the list of the missing degrees
--     Insertion Field Map           a lattice, the map chosen, and the fields after it
--     IsInsertion o W               the map is a candidate, and the fields that are added have the
--                                   missing degrees
--     IsMapInto o W i m             m is the map of the member i into F
--     IsSubfield o W i              i has a map into F
--     IsForced o W i j m            m is the one map which, followed by j's map into F, is i's map
--                                   into F
--     IsStoredAfter o W i k m       m is stored for i and k after the insertion
--     filled o W                    the lattice after the insertion
use Rattle.std.specs.Prelude.{◌≡◌, ◌+◌, length, slice_index, ◌↔◌, List, AllPairs, Contains, ℕ, ◌<◌, ◌≤◌}
use Rattle.std.specs.Int.{IsGcd}
use Rattle.alg_lattices.specs.Embeddings.{Embeddings}
use Rattle.alg_lattices.specs.Lattices.{Lattice}

-- phi is an embedding of E in F, and follows each map of a common subfield into E by its map into F
pub record IsCandidate {Field Map : Type 0} (o : Embeddings Field Map) (L : Lattice Field Map)
    (E F : ℕ) (phi : Map) : Type 0 where
  pub embedding : o.IsEmbedding (L.row E) (L.row F) phi
  pub agrees : {d : ℕ} {m n : Map} → L.Has d E m → L.Has d F n → o.comp (L.row F) m phi ≡ n

-- a stored subfield of E or of F
pub data IsMember {Field Map : Type 0} (L : Lattice Field Map) (E F : ℕ) (i : ℕ) : Type 0 where
  of_source : {m : Map} → L.Has i E m → IsMember L E F i
  of_target : {m : Map} → L.Has i F m → IsMember L E F i

-- the degrees of the members, and gcds of such degrees
pub data IsClosureDegree {Field Map : Type 0} (o : Embeddings Field Map) (L : Lattice Field Map)
    (E F : ℕ) : ℕ → Type 0 where
  of_member : {i : ℕ} → IsMember L E F i → IsClosureDegree o L E F (o.degree (L.row i))
  of_gcd : {a b d : ℕ} → IsClosureDegree o L E F a → IsClosureDegree o L E F b → IsGcd a b d
      → IsClosureDegree o L E F d

-- a degree of the closure that no member has
pub record IsMissing {Field Map : Type 0} (o : Embeddings Field Map) (L : Lattice Field Map)
    (E F : ℕ) (d : ℕ) : Type 0 where
  pub in_closure : IsClosureDegree o L E F d
  pub no_member : {i : ℕ} → IsMember L E F i → o.degree (L.row i) ≡ d → ⊥

-- each number is below each later one
abbrev pub IsRising : List ℕ → Type 0
IsRising ds = AllPairs (λ a b. a < b) ds

-- ds lists the missing degrees, lowest first
pub record AreMissing {Field Map : Type 0} (o : Embeddings Field Map) (L : Lattice Field Map)
    (E F : ℕ) (ds : List ℕ) : Type 0 where
  pub rising : IsRising ds
  pub exactly : (d : ℕ) → Contains ds d ↔ IsMissing o L E F d

-- a lattice, an embedding chosen for a pair of its fields, and the fields afterwards
pub record Insertion (Field Map : Type 0) : Type 1 where
  pub old : Lattice Field Map
  pub source : ℕ
  pub target : ℕ
  pub chosen : Map
  -- the number of fields after the insertion, and the fields
  pub count : ℕ
  pub row : ℕ → Field
  -- Made i m: m is the map of the added field i into the target
  pub Made : ℕ → Map → Type 0

-- the map chosen is a candidate, and one field is added for each missing degree
pub record IsInsertion {Field Map : Type 0} (o : Embeddings Field Map) (W : Insertion Field Map)
    : Type 0 where
  pub source : W.source < W.old.count
  pub target : W.target < W.old.count
  pub candidate : IsCandidate o W.old W.source W.target W.chosen
  -- one field is added for each missing degree, lowest first
  pub rows : (i : ℕ) → i < W.old.count → W.row i ≡ W.old.row i
  pub degrees : List ℕ
  pub missing : AreMissing o W.old W.source W.target degrees
  pub count : W.count ≡ W.old.count + length degrees
  pub added : (k : ℕ) → k < length degrees
      → o.degree (W.row (W.old.count + k)) ≡ slice_index degrees k
  -- an added field has one map into the target
  pub made : (i : ℕ) → W.old.count ≤ i → i < W.count → (m : Map) × W.Made i m
  pub made_within : {i : ℕ} {m : Map} → W.Made i m → (W.old.count ≤ i) × (i < W.count)
  pub made_one : {i : ℕ} {m n : Map} → W.Made i m → W.Made i n → m ≡ n
  pub made_embedding : {i : ℕ} {m : Map} → W.Made i m → o.IsEmbedding (W.row i) (W.row W.target) m

-- the stored map into F; the stored map into E and then the map chosen; an added field's map
pub data IsMapInto {Field Map : Type 0} (o : Embeddings Field Map) (W : Insertion Field Map) (i : ℕ)
    : Map → Type 0 where
  stored : {m : Map} → W.old.Has i W.target m → IsMapInto o W i m
  through : {m : Map} → W.old.Has i W.source m
      → IsMapInto o W i (o.comp (W.row W.target) m W.chosen)
  made : {m : Map} → W.Made i m → IsMapInto o W i m

-- a member, or an added field
abbrev pub IsSubfield : {Field Map : Type 0} → Embeddings Field Map → Insertion Field Map → ℕ
    → Type 0
IsSubfield {Map = Map} o W i = (m : Map) × IsMapInto o W i m

-- what, followed by j's map into F, is i's map into F
pub record IsForced {Field Map : Type 0} (o : Embeddings Field Map) (W : Insertion Field Map)
    (i j : ℕ) (m : Map) : Type 0 where
  pub first : Map
  pub second : Map
  pub first_into : IsMapInto o W i first
  pub second_into : IsMapInto o W j second
  pub embedding : o.IsEmbedding (W.row i) (W.row j) m
  pub followed : o.comp (W.row W.target) m second ≡ first

-- the maps stored before, the forced ones, and forced ones followed by stored ones
pub data IsStoredAfter {Field Map : Type 0} (o : Embeddings Field Map) (W : Insertion Field Map)
    (i k : ℕ) : Map → Type 0 where
  before : {m : Map} → W.old.Has i k m → IsStoredAfter o W i k m
  forced : {m : Map} → IsForced o W i k m → IsStoredAfter o W i k m
  beyond : {j : ℕ} {m n : Map} → IsForced o W i j m → W.old.Has j k n
      → IsStoredAfter o W i k (o.comp (W.row k) m n)

-- the lattice after the insertion
abbrev pub filled : {Field Map : Type 0} → Embeddings Field Map → Insertion Field Map
    → Lattice Field Map
filled o W = record { count = W.count; row = W.row; Has = IsStoredAfter o W }
