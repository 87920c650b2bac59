-- A lattice is compatible by its count, its fields below the count, and its stored maps.
use Rattle.std.proofs.Common.{◌≡◌, ◌↔◌, ℕ, ◌<◌, ◌≤◌, subst, arith}
use Rattle.alg_lattices.specs.Embeddings.{Embeddings}
use Rattle.alg_lattices.specs.Lattices.{Lattice, Compatible, HasInverse, HasMeet}

-- the same fields below the count, and the same maps
pub record SameLattice {Field Map : Type 0} (L M : Lattice Field Map) : Type 0 where
  pub count : L.count ≡ M.count
  pub rows : (i : ℕ) → i < L.count → L.row i ≡ M.row i
  pub maps : {i j : ℕ} {m : Map} → L.Has i j m ↔ M.Has i j m

module _ {Field Map : Type 0} {o : Embeddings Field Map} {primes : ℕ} {L M : Lattice Field Map}
    (S : SameLattice L M) (C : Compatible o primes L) where
  below : {i : ℕ} → i < M.count → i < L.count
  below {i} h = let e : L.count ≡ M.count = S.count in omega arith

  at_source : {i j : ℕ} {m : Map} → L.Has i j m → L.row i ≡ M.row i
  at_source {i} h = S.rows i (C.within h).0

  at_target : {i j : ℕ} {m : Map} → L.Has i j m → L.row j ≡ M.row j
  at_target {i} {j} h = S.rows j (C.within h).1

  at_prime : {i : ℕ} → i < primes → L.row i ≡ M.row i
  at_prime {i} h = let k : primes ≤ L.count = C.prime_fields in S.rows i (omega arith)

  -- one lattice is compatible if the same is
  pub compatible_same : Compatible o primes M
  compatible_same = record {
    within = λ h. within (S.maps.1 h);
    embedding = λ h. embedding (S.maps.1 h);
    one = λ h k. C.one (S.maps.1 h) (S.maps.1 k);
    identity = λ i h. S.maps.0 (rw (← S.rows i (below h)) (C.identity i (below h)));
    prime_fields = subst (λ n. primes ≤ n) S.count C.prime_fields;
    degree_one = λ i h. rw (← at_prime h) (C.degree_one i h);
    only_degree_one = λ i h e. C.only_degree_one i (below h) (rw (S.rows i (below h)) e);
    primes_apart = λ h k e. apart h k e;
    prime_subfield = λ j h. let (q, m, p, k) = C.prime_subfield j (below h) in (q, m, p, S.maps.0 k);
    inverse = λ h e. inverse (S.maps.1 h) e;
    transitive = λ h k. S.maps.0 (rw (← at_target (S.maps.1 k)) (C.transitive (S.maps.1 h) (S.maps.1 k)));
    meet = λ h k. meet (S.maps.1 h) (S.maps.1 k);
  }
    where
      within : {i j : ℕ} {m : Map} → L.Has i j m → (i < M.count) × (j < M.count)
      within h =
          let e : L.count ≡ M.count = S.count in
          let a = (C.within h).0 in
          let b = (C.within h).1 in
          (omega arith, omega arith)

      apart : {i j : ℕ} {m : Map} → i < primes → j < primes → o.IsEmbedding (M.row i) (M.row j) m
          → i ≡ j
      apart {m = m} h k e = C.primes_apart {m = m} h k (rw (at_prime h, at_prime k) e)

      embedding : {i j : ℕ} {m : Map} → L.Has i j m → o.IsEmbedding (M.row i) (M.row j) m
      embedding h = rw (← at_source h, ← at_target h) (C.embedding h)

      back : {i j : ℕ} {m n : Map} → L.Has i j m → L.Has j i n
          → o.comp (L.row i) m n ≡ o.identity (L.row i)
          → o.comp (L.row j) n m ≡ o.identity (L.row j)
          → HasInverse o M i j m
      back {n = n} h k f g = (n, S.maps.0 k, rw (← at_source h) f, rw (← at_target h) g)

      inverse : {i j : ℕ} {m : Map} → L.Has i j m → o.degree (M.row i) ≡ o.degree (M.row j)
          → HasInverse o M i j m
      inverse h e = let (n, k, f, g) = C.inverse h (rw (at_source h, at_target h) e) in back h k f g

      meet : {i j k : ℕ} {a b : Map} → L.Has i k a → L.Has j k b
          → HasMeet o M i j k a b
      meet h k =
          let (l, u, v, p, q, e) = C.meet h k in
          (l, u, v, S.maps.0 p, S.maps.0 q, rw (← at_source h, ← at_source k, ← at_target h, ← at_source p) e)
