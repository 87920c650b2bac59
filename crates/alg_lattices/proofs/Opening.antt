-- The lattice of the prime fields is compatible.
use Rattle.std.proofs.Common.{◌≡◌, ℕ, ◌<◌, refl, sym, ◌∙◌, subst, arith}
use Rattle.alg_lattices.specs.Embeddings.{Embeddings, EmbeddingLaws}
use Rattle.alg_lattices.specs.Lattices.{Compatible, HasInverse, HasMeet}
use Rattle.alg_lattices.proofs.Congruences.{gcd_itself}
use Rattle.alg_lattices.specs.Declaring.{opening, ArePrimeFields}

module _ {Field Map : Type 0} {o : Embeddings Field Map} {primes : ℕ} {row : ℕ → Field}
    (law : EmbeddingLaws o) (P : ArePrimeFields o primes row) where
  -- identities are stored, and no other map
  abbrev Stored : ℕ → ℕ → Map → Type 0
  Stored i j m = (i ≡ j) × (j < primes) × (m ≡ o.identity (row j))

  identity : {i : ℕ} → i < primes → o.IsEmbedding (row i) (row i) (o.identity (row i))
  identity {i} h = law.identity (P.field i h)

  unit : {i : ℕ} → i < primes
      → o.comp (row i) (o.identity (row i)) (o.identity (row i)) ≡ o.identity (row i)
  unit h = law.identity_comp (identity h)

  embedding : {i j : ℕ} {m : Map} → Stored i j m → o.IsEmbedding (row i) (row j) m
  embedding (e, h, f) = rw (e, f) (identity h)

  inverse : {i j : ℕ} {m : Map} → Stored i j m
      → HasInverse o (opening o primes row) i j m
  inverse {i} (e, h, f) = (o.identity (row i), (sym e, subst (λ x. x < primes) (sym e) h, refl), rw (f, e) (unit h), rw (f, e) (unit h))

  transitive : {i j k : ℕ} {m n : Map} → Stored i j m → Stored j k n
      → Stored i k (o.comp (row k) m n)
  transitive (e, h, f) (d, k, g) = (e ∙ d, k, rw (f, g, d) (unit k))

  meet : {i j k : ℕ} {a b : Map} → Stored i k a → Stored j k b
      → HasMeet o (opening o primes row) i j k a b
  meet {i} {j} {k} (e, h, f) (d, n, g) = (
    k,
    o.identity (row i),
    o.identity (row j),
    (sym e, subst (λ x. x < primes) (sym e) h, refl),
    (sym d, subst (λ x. x < primes) (sym d) h, refl),
    rw (f, g, e, d) ((law.meet (identity h) (identity h) (identity h) (identity h) refl).1 (gcd_itself (o.degree (row k)))),
  )

  -- **the opening lattice is compatible**
  pub opening_compatible : Compatible o primes (opening o primes row)
  opening_compatible = record {
    within = λ (e, h, f). (subst (λ x. x < primes) (sym e) h, h);
    embedding = λ h. embedding h;
    one = λ (e, h, f) (d, k, g). f ∙ sym g;
    identity = λ i h. (refl, h, refl);
    prime_fields = omega arith;
    degree_one = P.degree;
    only_degree_one = λ i h e. h;
    primes_apart = λ {m = m} h k e. P.apart {m = m} h k e;
    prime_subfield = λ j h. (j, o.identity (row j), h, (refl, h, refl));
    inverse = λ h e. inverse h;
    transitive = λ h k. transitive h k;
    meet = λ h k. meet h k;
  }
