-- Fields and embeddings without their elements: what the theory of lattices needs of them.
--     Embeddings Field Map     fields, degrees, the embeddings between them, how they are composed
--     EmbeddingLaws o          what embeddings of finite fields of one characteristic keep
--     FrobeniusLaws o          two embeddings with the same ends differ by a power of Frobenius
use Rattle.std.specs.Prelude.{◌≡◌, ◌↔◌, ℕ, ◌%◌, ◌<◌}
use Rattle.std.specs.Int.{IsGcd}
use Prim.Native.Nat.{◌∣◌}

-- A map is a value that several pairs of fields may share; IsEmbedding alone says between which
-- fields it is one.
pub record Embeddings (Field Map : Type 0) : Type 1 where
  pub IsField : Field → Type 0
  -- the degree over the prime field
  pub degree : Field → ℕ
  pub IsEmbedding : Field → Field → Map → Type 0
  pub identity : Field → Map
  -- comp F m n is m followed by n, which ends in F
  pub comp : Field → Map → Map → Map
  -- IsMeet I J K L u v a b: a value of I and one of J that a and b send to one value of K are the
  -- images under u and v of one value of L
  pub IsMeet : Field → Field → Field → Field → Map → Map → Map → Map → Type 0
  -- frobenius F t sends each value of F to its power by p ^ t
  pub frobenius : Field → ℕ → Map

-- embeddings of finite fields of one characteristic keep these laws
pub record EmbeddingLaws {Field Map : Type 0} (o : Embeddings Field Map) : Type 0 where
  pub source : {E F : Field} {m : Map} → o.IsEmbedding E F m → o.IsField E
  pub target : {E F : Field} {m : Map} → o.IsEmbedding E F m → o.IsField F
  pub identity : {E : Field} → o.IsField E → o.IsEmbedding E E (o.identity E)
  pub comp : {E F G : Field} {m n : Map} → o.IsEmbedding E F m → o.IsEmbedding F G n
      → o.IsEmbedding E G (o.comp G m n)
  pub assoc : {D E F G : Field} {l m n : Map} → o.IsEmbedding D E l → o.IsEmbedding E F m
      → o.IsEmbedding F G n
      → o.comp G (o.comp F l m) n ≡ o.comp G l (o.comp G m n)
  pub identity_comp : {E F : Field} {m : Map} → o.IsEmbedding E F m → o.comp F (o.identity E) m ≡ m
  pub comp_identity : {E F : Field} {m : Map} → o.IsEmbedding E F m → o.comp F m (o.identity F) ≡ m
  pub cancel : {E F G : Field} {m n k : Map} → o.IsEmbedding E F m → o.IsEmbedding E F n
      → o.IsEmbedding F G k
      → o.comp G m k ≡ o.comp G n k → m ≡ n
  pub degree_divides : {E F : Field} {m : Map} → o.IsEmbedding E F m → o.degree E ∣ o.degree F
  pub factor : {I J F : Field} {a b : Map} → o.IsEmbedding I F a → o.IsEmbedding J F b
      → o.degree I ∣ o.degree J
      → (m : Map) × o.IsEmbedding I J m × (o.comp F m b ≡ a)
  pub meet : {I J K L : Field} {u v a b : Map} → o.IsEmbedding L I u → o.IsEmbedding L J v
      → o.IsEmbedding I K a → o.IsEmbedding J K b
      → o.comp K u a ≡ o.comp K v b
      → o.IsMeet I J K L u v a b ↔ IsGcd (o.degree I) (o.degree J) (o.degree L)

-- the powers of Frobenius, as embeddings of a field in itself
pub record FrobeniusLaws {Field Map : Type 0} (o : Embeddings Field Map) : Type 0 where
  pub degree_positive : {E : Field} → o.IsField E → 0 < o.degree E
  pub embedding : {E : Field} → o.IsField E → (t : ℕ) → o.IsEmbedding E E (o.frobenius E t)
  pub differ : {E F : Field} {m n : Map} → o.IsEmbedding E F m → o.IsEmbedding E F n
      → (t : ℕ) × (n ≡ o.comp F m (o.frobenius F t))
  pub period : {E F : Field} {m : Map} → o.IsEmbedding E F m → (s t : ℕ)
      → (o.comp F m (o.frobenius F s) ≡ o.comp F m (o.frobenius F t))
      ↔ (s % o.degree E ≡ t % o.degree E)
