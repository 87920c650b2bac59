-- A declaration keeps a lattice compatible, and the lattice grows.
use Rattle.std.proofs.Common.{◌≡◌, ℕ, suc, ◌<◌, refl, sym, ap, ◌∙◌, subst, ⊎_elim, arith}
use Rattle.std.proofs.lemmas.Bool.{cases_lt}
use Rattle.std.proofs.lemmas.Nat.Gcd.{IsGcd-swap}
use Rattle.std.proofs.Math.Nat.{eq-one_of_dvd-one}
use Prim.Native.Nat.{◌∣◌}
use Rattle.alg_lattices.specs.Embeddings.{Embeddings, EmbeddingLaws}
use Rattle.alg_lattices.specs.Lattices.{Compatible, Grows, HasInverse, HasMeet}
use Rattle.alg_lattices.specs.Declaring.{Declaration, IsDeclaration, IsStoredWith, declared}
use Rattle.alg_lattices.specs.Declaring.IsStoredWith.{kept, itself, of_prime}
use Rattle.alg_lattices.proofs.Congruences.{gcd_itself, gcd_of_divisor}
use Rattle.alg_lattices.proofs.Rows.{compatible_same}

module _ {Field Map : Type 0} {o : Embeddings Field Map} {primes : ℕ} {W : Declaration Field Map}
    (law : EmbeddingLaws o)
    (C : Compatible o primes (record W.old { row = W.row })) (D : IsDeclaration o primes W) where
  abbrev N : ℕ
  N = W.old.count

  prime_below : W.prime < N
  prime_below = let a = C.prime_fields in let b = D.prime in omega arith

  not_new : {i j : ℕ} {m : Map} → W.old.Has i j m → (i ≡ N → ⊥) × (j ≡ N → ⊥)
  not_new h = let a = (C.within h).0 in let b = (C.within h).1 in (λ e. omega arith, λ e. omega arith)

  -- one field is not both the prime field and the new one
  not_both : {i : ℕ} → i ≡ N → i ≡ W.prime → ⊥
  not_both e f = let a = prime_below in omega arith

  prime_identity : o.IsEmbedding (W.row W.prime) (W.row W.prime) (o.identity (W.row W.prime))
  prime_identity = law.identity (law.source D.embedding)

  new_identity : o.IsEmbedding (W.row N) (W.row N) (o.identity (W.row N))
  new_identity = law.identity D.field

  identity_declared : (i : ℕ) → i < suc N → IsStoredWith o W i i (o.identity (W.row i))
  identity_declared i h = ⊎_elim
      (λ k. kept (C.identity i k))
      (λ k. let e : i ≡ N = omega arith in itself e e (ap (λ x. o.identity (W.row x)) e))
      (cases_lt i N)

  within_declared : {i j : ℕ} {m : Map} → IsStoredWith o W i j m → (i < suc N) × (j < suc N)
  within_declared (kept h) = let a = (C.within h).0 in let b = (C.within h).1 in (omega arith, omega arith)
  within_declared (itself e f g) = (omega arith, omega arith)
  within_declared (of_prime e f g) = let a = prime_below in (omega arith, omega arith)

  embedding_declared : {i j : ℕ} {m : Map} → IsStoredWith o W i j m
      → o.IsEmbedding (W.row i) (W.row j) m
  embedding_declared (kept h) = C.embedding h
  embedding_declared (itself e f g) = rw (e, f, g) new_identity
  embedding_declared (of_prime e f g) = rw (e, f, g) D.embedding

  one_declared : {i j : ℕ} {m n : Map} → IsStoredWith o W i j m → IsStoredWith o W i j n → m ≡ n
  one_declared (kept h) (kept k) = C.one h k
  one_declared (kept h) (itself e f g) = absurd ((not_new h).1 f)
  one_declared (kept h) (of_prime e f g) = absurd ((not_new h).1 f)
  one_declared (itself e f g) (kept k) = absurd ((not_new k).1 f)
  one_declared (itself e f g) (itself b c d) = g ∙ sym d
  one_declared (itself e f g) (of_prime b c d) = absurd (not_both e b)
  one_declared (of_prime e f g) (kept k) = absurd ((not_new k).1 f)
  one_declared (of_prime e f g) (itself b c d) = absurd (not_both b e)
  one_declared (of_prime e f g) (of_prime b c d) = g ∙ sym d

  -- what is stored into the prime field is its identity
  into_prime : {i j : ℕ} {m : Map} → W.old.Has i j m → j ≡ W.prime
      → (i ≡ W.prime) × (m ≡ o.identity (W.row W.prime))
  into_prime {i} {j} {m} h f = (same ∙ f, C.one (subst (λ x. W.old.Has x W.prime m) (same ∙ f) (subst (λ x. W.old.Has i x m) f h)) (C.identity W.prime prime_below))
    where
      of_one : o.degree (W.row i) ∣ 1
      of_one = subst (λ d. o.degree (W.row i) ∣ d) (ap (λ x. o.degree (W.row x)) f ∙ C.degree_one W.prime D.prime) (law.degree_divides (C.embedding h))

      same : i ≡ j
      same = C.primes_apart {m = m} (C.only_degree_one i (C.within h).0 (eq-one_of_dvd-one of_one)) (subst (λ x. x < primes) (sym f) D.prime) (C.embedding h)

  transitive_declared : {i j k : ℕ} {m n : Map} → IsStoredWith o W i j m → IsStoredWith o W j k n
      → IsStoredWith o W i k (o.comp (W.row k) m n)
  transitive_declared (kept h) (kept k) = kept (C.transitive h k)
  transitive_declared (kept h) (itself b c d) = absurd ((not_new h).1 b)
  transitive_declared (kept h) (of_prime b c d) = let (e, g) = into_prime h b in of_prime e c (rw (g, d, c) (law.identity_comp D.embedding))
  transitive_declared (itself e f g) (kept k) = absurd ((not_new k).0 f)
  transitive_declared (itself e f g) (itself b c d) = itself e c (rw (g, d, c) (law.identity_comp new_identity))
  transitive_declared (itself e f g) (of_prime b c d) = absurd (not_both f b)
  transitive_declared (of_prime e f g) (kept k) = absurd ((not_new k).0 f)
  transitive_declared (of_prime e f g) (itself b c d) = of_prime e c (rw (g, d, c) (law.comp_identity D.embedding))
  transitive_declared (of_prime e f g) (of_prime b c d) = absurd (not_both f b)

  inverse_declared : {i j : ℕ} {m : Map} → IsStoredWith o W i j m
      → o.degree (W.row i) ≡ o.degree (W.row j)
      → HasInverse o (declared o W) i j m
  inverse_declared (kept h) d = let (n, k, e, f) = C.inverse h d in (n, kept k, e, f)
  inverse_declared (itself e f g) d = (
    o.identity (W.row N),
    itself f e refl,
    rw (g, e) (law.identity_comp new_identity),
    rw (g, f) (law.identity_comp new_identity),
  )
  inverse_declared (of_prime e f g) d =
      absurd (D.degree (ap (λ x. o.degree (W.row x)) (sym f) ∙ sym d ∙ ap (λ x. o.degree (W.row x)) e ∙ C.degree_one W.prime D.prime))

  prime_divides : o.degree (W.row W.prime) ∣ o.degree (W.row N)
  prime_divides = law.degree_divides D.embedding

  prime_itself : {j : ℕ} → j ≡ W.prime → IsStoredWith o W W.prime j (o.identity (W.row W.prime))
  prime_itself b = kept (rw b (C.identity W.prime prime_below))

  meet_declared : {i j k : ℕ} {a b : Map} → IsStoredWith o W i k a → IsStoredWith o W j k b
      → HasMeet o (declared o W) i j k a b
  meet_declared (kept h) (kept n) = let (l, u, v, p, q, e) = C.meet h n in (l, u, v, kept p, kept q, e)
  meet_declared (kept h) (itself b c d) = absurd ((not_new h).1 c)
  meet_declared (kept h) (of_prime b c d) = absurd ((not_new h).1 c)
  meet_declared (itself e f g) (kept n) = absurd ((not_new n).1 f)
  meet_declared (itself e f g) (itself b c d) = (
    N,
    o.identity (W.row N),
    o.identity (W.row N),
    itself refl e refl,
    itself refl b refl,
    rw (g, d, e, b, f) ((law.meet new_identity new_identity new_identity new_identity refl).1 (gcd_itself (o.degree (W.row N)))),
  )
  meet_declared (itself e f g) (of_prime b c d) = (
    W.prime,
    W.map,
    o.identity (W.row W.prime),
    of_prime refl e refl,
    prime_itself b,
    rw (g, d, e, b, f) ((law.meet D.embedding prime_identity new_identity D.embedding (law.comp_identity D.embedding ∙ sym (law.identity_comp D.embedding))).1
        (gcd_of_divisor (o.degree (W.row W.prime)) (o.degree (W.row N)) prime_divides)),
  )
  meet_declared (of_prime e f g) (kept n) = absurd ((not_new n).1 f)
  meet_declared (of_prime e f g) (itself b c d) = (
    W.prime,
    o.identity (W.row W.prime),
    W.map,
    prime_itself e,
    of_prime refl b refl,
    rw (g, d, e, b, f) ((law.meet prime_identity D.embedding D.embedding new_identity (law.identity_comp D.embedding ∙ sym (law.comp_identity D.embedding))).1
        (IsGcd-swap (o.degree (W.row N)) (o.degree (W.row W.prime)) (o.degree (W.row W.prime))
        (gcd_of_divisor (o.degree (W.row W.prime)) (o.degree (W.row N)) prime_divides))),
  )
  meet_declared (of_prime e f g) (of_prime b c d) = (
    W.prime,
    o.identity (W.row W.prime),
    o.identity (W.row W.prime),
    prime_itself e,
    prime_itself b,
    rw (g, d, e, b, f) ((law.meet prime_identity prime_identity D.embedding D.embedding refl).1 (gcd_itself (o.degree (W.row W.prime)))),
  )

  compatible_with : Compatible o primes (declared o W)
  compatible_with = record {
    within = λ h. within_declared h;
    embedding = λ h. embedding_declared h;
    one = λ h k. one_declared h k;
    identity = identity_declared;
    prime_fields = let a = C.prime_fields in omega arith;
    degree_one = C.degree_one;
    only_degree_one = λ i h e. ⊎_elim
        (λ k. C.only_degree_one i k e)
        (λ k. let f : i ≡ N = omega arith in absurd (D.degree (ap (λ x. o.degree (W.row x)) (sym f) ∙ e)))
        (cases_lt i N);
    primes_apart = λ {m = m} h k e. C.primes_apart {m = m} h k e;
    prime_subfield = λ j h. ⊎_elim
        (λ k. let (q, m, p, n) = C.prime_subfield j k in (q, m, p, kept n))
        (λ k. (W.prime, W.map, D.prime, of_prime refl (let f : j ≡ N = omega arith in f) refl))
        (cases_lt j N);
    inverse = λ h e. inverse_declared h e;
    transitive = λ h k. transitive_declared h k;
    meet = λ h k. meet_declared h k;
  }

-- **a declaration keeps a lattice compatible**
pub declared_compatible : {Field Map : Type 0} {o : Embeddings Field Map} {primes : ℕ}
    {W : Declaration Field Map}
    → EmbeddingLaws o
    → Compatible o primes W.old → IsDeclaration o primes W → Compatible o primes (declared o W)
declared_compatible law C D =
    compatible_with law (compatible_same (record { count = refl; rows = λ i h. sym (D.rows i h); maps = (λ h. h, λ h. h) }) C) D

-- and the lattice grows
pub declared_grows : {Field Map : Type 0} {o : Embeddings Field Map} {primes : ℕ}
    {W : Declaration Field Map}
    → IsDeclaration o primes W → Grows W.old (declared o W)
declared_grows D = record { count = omega arith; rows = D.rows; maps = λ h. kept h }
