-- A lattice that keeps the rules is compatible.
use Rattle.std.proofs.Common.{◌≡◌, ℕ, ◌<◌, length}
use Rattle.alg_model.specs.Maps.{degree_of}
use Rattle.alg_model.specs.Lattices.{Lattice, field_at, IsRows, Compatible, IsCompatible}
use Rattle.lat_audit.specs.PrivateRules.{HoldsMaps, KeepsRules}

module _ (L : Lattice) (M : HoldsMaps L) (K : KeepsRules L) where
  -- the rules, where only the prime fields have degree one
  kept_compatible : ((i : ℕ) → i < length L.rows → degree_of (field_at L.rows i) ≡ 1
      → i < length L.edition.primes) → Compatible L
  kept_compatible primes_alone = record {
    within = λ {i} {j} {m} s. M.within i j m s;
    embedding = λ {i} {j} {m} s. M.embedding i j m s;
    identity = K.identity;
    only_degree_one = primes_alone;
    prime_subfield = λ j l.
        let p = K.prime_subfield j l in
        (p.number, p.map, p.prime.within, p.stored);
    inverse = λ {i} {j} {m} s same.
        let w = M.within i j m s in
        let (n, h) = K.inverse i j w.0 w.1 m s same in
        (n, h.stored, h.back, h.forth);
    transitive = λ {i} {j} {k} {m} {n} s t.
        let w = M.within i j m s in
        let v = M.within j k n t in
        K.composition i j k w.0 w.1 v.1 m n s t;
    meet = λ {i} {j} {k} {a} {b} s t.
        let w = M.within i k a s in
        let v = M.within j k b t in
        let (l, u, x, h) = K.intersection i j k w.0 v.0 w.1 a b s t in
        (l, u, x, h.first, h.second, h.meet);
  }

  -- **rules that are kept make a lattice compatible**
  pub rules_compatible : IsRows L.edition L.rows
      → ((i : ℕ) → i < length L.rows → degree_of (field_at L.rows i) ≡ 1 → i < length L.edition.primes)
      → IsCompatible L
  rules_compatible rows primes_alone = record { rows = rows; compatible = kept_compatible primes_alone }
