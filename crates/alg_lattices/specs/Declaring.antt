-- The lattice of the prime fields, and the lattice with one field more.
--     Declaration Field Map         a lattice, the fields after the declaration, and the map of the
--                                   new field's prime field
--     IsDeclaration o primes W      the new field has the next number, and isn't a prime field
--     declared o W                  the lattice after the declaration
--     opening o primes row          the prime fields and their identities
use Rattle.std.specs.Prelude.{◌≡◌, ◌≢◌, ℕ, suc, ◌<◌}
use Rattle.alg_lattices.specs.Embeddings.{Embeddings}
use Rattle.alg_lattices.specs.Lattices.{Lattice}

-- a lattice and one field more
pub record Declaration (Field Map : Type 0) : Type 1 where
  pub old : Lattice Field Map
  pub row : ℕ → Field
  -- the prime field of the new field, and its map
  pub prime : ℕ
  pub map : Map

-- the new field has the next number, a degree above one, and a prime subfield
pub record IsDeclaration {Field Map : Type 0} (o : Embeddings Field Map) (primes : ℕ)
    (W : Declaration Field Map) : Type 0 where
  pub rows : (i : ℕ) → i < W.old.count → W.row i ≡ W.old.row i
  pub field : o.IsField (W.row W.old.count)
  pub degree : o.degree (W.row W.old.count) ≢ 1
  pub prime : W.prime < primes
  pub embedding : o.IsEmbedding (W.row W.prime) (W.row W.old.count) W.map

-- the maps stored before, the new field's identity, and the map of its prime field
pub data IsStoredWith {Field Map : Type 0} (o : Embeddings Field Map) (W : Declaration Field Map)
    (i j : ℕ) (m : Map) : Type 0 where
  kept : W.old.Has i j m → IsStoredWith o W i j m
  itself : i ≡ W.old.count → j ≡ W.old.count → m ≡ o.identity (W.row W.old.count)
      → IsStoredWith o W i j m
  of_prime : i ≡ W.prime → j ≡ W.old.count → m ≡ W.map → IsStoredWith o W i j m

-- the lattice after the declaration
abbrev pub declared : {Field Map : Type 0} → Embeddings Field Map → Declaration Field Map
    → Lattice Field Map
declared o W = record { count = suc W.old.count; row = W.row; Has = IsStoredWith o W }

-- the prime fields and their identities
abbrev pub opening : {Field Map : Type 0} → Embeddings Field Map → ℕ → (ℕ → Field)
    → Lattice Field Map
opening o primes row = record {
  count = primes;
  row = row;
  Has = λ i j m. (i ≡ j) × (j < primes) × (m ≡ o.identity (row j));
}

-- the rows of the opening lattice
pub record ArePrimeFields {Field Map : Type 0} (o : Embeddings Field Map) (primes : ℕ)
    (row : ℕ → Field) : Type 0 where
  pub field : (i : ℕ) → i < primes → o.IsField (row i)
  pub degree : (i : ℕ) → i < primes → o.degree (row i) ≡ 1
  pub apart : {i j : ℕ} {m : Map} → i < primes → j < primes → o.IsEmbedding (row i) (row j) m
      → i ≡ j
