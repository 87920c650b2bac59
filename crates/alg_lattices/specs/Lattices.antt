-- Lattices of fields and embeddings, and the rules that make one compatible.
--     Lattice Field Map            numbered fields, and maps stored for pairs of them
--     IsDecided L                  it can be told whether a pair has a map
--     HasInverse, HasMeet          a stored map has an inverse; two meet in a stored field
--     Compatible o primes L        the stored maps are embeddings that agree, and meet
--     Grows L M                    M has the fields of L first, and the maps of L
use Rattle.std.specs.Prelude.{◌≡◌, ◌⊎◌, ℕ, ◌<◌, ◌≤◌}
use Rattle.alg_lattices.specs.Embeddings.{Embeddings}

-- numbered fields, and which maps between them are stored
pub record Lattice (Field Map : Type 0) : Type 1 where
  pub count : ℕ
  -- the field of a number; only numbers below the count matter
  pub row : ℕ → Field
  -- Has i j m: the map m from field i to field j is stored
  pub Has : ℕ → ℕ → Map → Type 0

-- some map from field i to field j is stored
abbrev pub IsStoredPair : {Field Map : Type 0} → Lattice Field Map → ℕ → ℕ → Type 0
IsStoredPair {Map = Map} L i j = (m : Map) × L.Has i j m

-- each pair has a map or not
abbrev pub IsDecided : {Field Map : Type 0} → Lattice Field Map → Type 0
IsDecided L = (i j : ℕ) → IsStoredPair L i j ⊎ ¬ IsStoredPair L i j

-- the map m from field i to field j has an inverse
abbrev pub HasInverse : {Field Map : Type 0} → Embeddings Field Map → Lattice Field Map → ℕ → ℕ
    → Map → Type 0
HasInverse {Map = Map} o L i j m = (n : Map) × L.Has j i n
    × (o.comp (L.row i) m n ≡ o.identity (L.row i))
    × (o.comp (L.row j) n m ≡ o.identity (L.row j))

-- what the maps a from field i and b from field j into field k have in common is stored: field l
abbrev pub HasMeet : {Field Map : Type 0} → Embeddings Field Map → Lattice Field Map → ℕ → ℕ → ℕ
    → Map → Map → Type 0
HasMeet {Map = Map} o L i j k a b = (l : ℕ) × (u : Map) × (v : Map) × L.Has l i u × L.Has l j v
    × o.IsMeet (L.row i) (L.row j) (L.row k) (L.row l) u v a b

-- The fields below `primes` are the prime fields.
pub record Compatible {Field Map : Type 0} (o : Embeddings Field Map) (primes : ℕ)
    (L : Lattice Field Map) : Type 0 where
  pub within : {i j : ℕ} {m : Map} → L.Has i j m → (i < L.count) × (j < L.count)
  pub embedding : {i j : ℕ} {m : Map} → L.Has i j m → o.IsEmbedding (L.row i) (L.row j) m
  -- unicity
  pub one : {i j : ℕ} {m n : Map} → L.Has i j m → L.Has i j n → m ≡ n
  pub identity : (i : ℕ) → i < L.count → L.Has i i (o.identity (L.row i))
  -- prime subfields
  pub prime_fields : primes ≤ L.count
  pub degree_one : (i : ℕ) → i < primes → o.degree (L.row i) ≡ 1
  pub only_degree_one : (i : ℕ) → i < L.count → o.degree (L.row i) ≡ 1 → i < primes
  pub primes_apart : {i j : ℕ} {m : Map} → i < primes → j < primes
      → o.IsEmbedding (L.row i) (L.row j) m → i ≡ j
  pub prime_subfield : (j : ℕ) → j < L.count → (q : ℕ) × (m : Map) × (q < primes) × L.Has q j m
  -- inverse of an isomorphism
  pub inverse : {i j : ℕ} {m : Map} → L.Has i j m → o.degree (L.row i) ≡ o.degree (L.row j)
      → HasInverse o L i j m
  -- transitivity
  pub transitive : {i j k : ℕ} {m n : Map} → L.Has i j m → L.Has j k n
      → L.Has i k (o.comp (L.row k) m n)
  -- intersection
  pub meet : {i j k : ℕ} {a b : Map} → L.Has i k a → L.Has j k b
      → HasMeet o L i j k a b

-- M has the fields of L in their places, and its maps
pub record Grows {Field Map : Type 0} (L M : Lattice Field Map) : Type 0 where
  pub count : L.count ≤ M.count
  pub rows : (i : ℕ) → i < L.count → M.row i ≡ L.row i
  pub maps : {i j : ℕ} {m : Map} → L.Has i j m → M.Has i j m
