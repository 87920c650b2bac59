-- Where one field of a compatible lattice has an embedding into another, it has one that agrees
-- with all common subfields: some
-- power of Frobenius is to follow the embedding, by congruences that agree in pairs.
--     Common L E F d              d is a stored subfield of E and of F
--     Restriction o L E F phi d   the power of Frobenius that d asks for, modulo the degree of d
use Rattle.std.proofs.Common.{◌≡◌, ◌⊎◌, ℕ, ◌%◌, ◌<◌, refl, sym, ap, ◌∙◌, subst, inl, inr, ⊎_elim, arith}
use Rattle.std.proofs.lemmas.Nat.Gcd.{same_from_IsGcd}
use Rattle.std.proofs.Math.Nat.{eq-one_of_dvd-one}
use Rattle.std.specs.Int.{IsGcd}
use Prim.Native.Nat.{◌∣◌}
use Rattle.alg_lattices.specs.Embeddings.{Embeddings, EmbeddingLaws, FrobeniusLaws}
use Rattle.alg_lattices.specs.Lattices.{Lattice, Compatible, IsDecided}
use Rattle.alg_lattices.specs.Filling.{IsCandidate}
use Rattle.alg_lattices.proofs.ChineseRemainders.{common_solution}
use Rattle.alg_lattices.proofs.Meets.{CommonSubfield, common_subfield}

-- a common stored subfield, with its two maps
pub record Common {Field Map : Type 0} (L : Lattice Field Map) (E F d : ℕ) : Type 0 where
  pub source : Map
  pub target : Map
  pub into_source : L.Has d E source
  pub into_target : L.Has d F target

-- what a field asks of the power of Frobenius that follows phi
pub record Restriction {Field Map : Type 0} (o : Embeddings Field Map) (L : Lattice Field Map)
    (E F : ℕ) (phi : Map) (d : ℕ) : Type 0 where
  pub turn : ℕ
  pub modulus : ℕ
  pub positive : 0 < modulus
  pub restricts : {m n : Map} → L.Has d E m → L.Has d F n
      → n ≡ o.comp (L.row F) (o.comp (L.row F) m phi) (o.frobenius (L.row F) turn)
  -- a field that is no common subfield asks for nothing
  pub kind : (¬ Common L E F d × (modulus ≡ 1)) ⊎ (Common L E F d × (modulus ≡ o.degree (L.row d)))

-- an embedding between two fields of a compatible lattice
pub record Plain {Field Map : Type 0} (o : Embeddings Field Map) (primes : ℕ)
    (L : Lattice Field Map) (E F : ℕ) (phi : Map) : Type 0 where
  pub law : EmbeddingLaws o
  pub frobenius : FrobeniusLaws o
  pub compatible : Compatible o primes L
  pub decided : IsDecided L
  pub embedding : o.IsEmbedding (L.row E) (L.row F) phi

module _ {Field Map : Type 0} {o : Embeddings Field Map} {primes : ℕ} {L : Lattice Field Map}
    {E F : ℕ} {phi : Map} (P : Plain o primes L E F phi) where
  open P use {law, compatible as C, embedding}

  -- phi followed by the t-th power of Frobenius
  abbrev turned : ℕ → Map
  turned t = o.comp (L.row F) phi (o.frobenius (L.row F) t)

  power : (t : ℕ) → o.IsEmbedding (L.row F) (L.row F) (o.frobenius (L.row F) t)
  power t = P.frobenius.embedding (law.target embedding) t

  asked : {d : ℕ} → Common L E F d → Restriction o L E F phi d
  asked {d} c =
      let (t, e) = P.frobenius.differ (law.comp (C.embedding c.into_source) embedding) (C.embedding c.into_target) in
      record {
        turn = t;
        modulus = o.degree (L.row d);
        positive = P.frobenius.degree_positive (law.source (C.embedding c.into_source));
        restricts = λ h k. C.one k c.into_target ∙ e
            ∙ ap (λ x. o.comp (L.row F) (o.comp (L.row F) x phi) (o.frobenius (L.row F) t)) (C.one c.into_source h);
        kind = inr (c, refl);
      }

  nothing_asked : {d : ℕ} → ¬ Common L E F d → Restriction o L E F phi d
  nothing_asked none = record {
    turn = 0;
    modulus = 1;
    positive = omega arith;
    restricts = λ {m} {n} h k. absurd (none (record { source = m; target = n; into_source = h; into_target = k }));
    kind = inl (none, refl);
  }

  -- each field asks for a power modulo its degree, or for nothing
  pub restriction : (d : ℕ) → Restriction o L E F phi d
  restriction d = ⊎_elim
      (λ (m, h). ⊎_elim
      (λ (n, k). asked (record { source = m; target = n; into_source = h; into_target = k }))
      (λ no_target. nothing_asked (λ c. no_target (c.target, c.into_target)))
      (P.decided d F))
      (λ no_source. nothing_asked (λ c. no_source (c.source, c.into_source)))
      (P.decided d E)

  -- below two common subfields lies one of the degree gcd, and both ask the same of it
  agree_below : {i j : ℕ} → Common L E F i → Common L E F j
      → (r : Restriction o L E F phi i) (s : Restriction o L E F phi j) (g : ℕ)
      → IsGcd (o.degree (L.row i)) (o.degree (L.row j)) g → r.turn % g ≡ s.turn % g
  agree_below {i} {j} a b r s g h = subst (λ d. r.turn % d ≡ s.turn % d) degree
      ((P.frobenius.period (law.comp (C.embedding below) embedding) r.turn s.turn).0 (sym (asks a r c.first_stored refl) ∙ same ∙ asks b s c.second_stored (sym c.square)))
    where
      c : CommonSubfield o L i j E a.source b.source
      c = common_subfield law C a.into_source b.into_source

      degree : o.degree (L.row c.field) ≡ g
      degree = same_from_IsGcd (o.degree (L.row i)) (o.degree (L.row j)) (o.degree (L.row c.field)) g c.gcd h

      below : L.Has c.field E (o.comp (L.row E) c.first a.source)
      below = C.transitive c.first_stored a.into_source

      -- the map into F through either is the one that is stored
      same : o.comp (L.row F) c.first a.target ≡ o.comp (L.row F) c.second b.target
      same = C.one (C.transitive c.first_stored a.into_target) (C.transitive c.second_stored b.into_target)

      asks : {d : ℕ} {u : Map} (w : Common L E F d) (q : Restriction o L E F phi d)
          → L.Has c.field d u
          → o.comp (L.row E) u w.source ≡ o.comp (L.row E) c.first a.source
          → o.comp (L.row F) u w.target ≡ o.comp (L.row F) (o.comp (L.row F) (o.comp (L.row E) c.first a.source) phi) (o.frobenius (L.row F) q.turn)
      asks {u = u} w q l e =
          ap (λ x. o.comp (L.row F) u x) (q.restricts w.into_source w.into_target)
          ∙ sym (law.assoc (C.embedding l) (law.comp (C.embedding w.into_source) embedding) (power q.turn))
          ∙ ap (λ x. o.comp (L.row F) x (o.frobenius (L.row F) q.turn)) (sym (law.assoc (C.embedding l) (C.embedding w.into_source) embedding))
          ∙ ap (λ x. o.comp (L.row F) (o.comp (L.row F) x phi) (o.frobenius (L.row F) q.turn)) e

  agree : {i j : ℕ} (r : Restriction o L E F phi i) (s : Restriction o L E F phi j) (g : ℕ)
      → IsGcd r.modulus s.modulus g
      → r.turn % g ≡ s.turn % g
  agree r s g h = ⊎_elim
      (λ (n, e). by_one (subst (λ n. g ∣ n) e h.0))
      (λ (a, e). ⊎_elim
      (λ (n, f). by_one (subst (λ n. g ∣ n) f h.1))
      (λ (b, f). agree_below a b r s g (rw (e, f) at h))
      s.kind)
      r.kind
    where
      by_one : g ∣ 1 → r.turn % g ≡ s.turn % g
      by_one k = let e : g ≡ 1 = eq-one_of_dvd-one k in rw e (omega arith)

  power_of_all : (t : ℕ) ×
      ((d : ℕ) → d < L.count → t % (restriction d).modulus ≡ (restriction d).turn % (restriction d).modulus)
  power_of_all = common_solution (λ d. (restriction d).modulus) (λ d. (restriction d).turn) L.count
      (λ d h. (restriction d).positive) (λ i j g h k e. agree (restriction i) (restriction j) g e)

  -- followed by the power that all ask for, the embedding is a candidate
  agrees : (t : ℕ) {d : ℕ} {m n : Map} (r : Restriction o L E F phi d)
      → t % r.modulus ≡ r.turn % r.modulus
      → L.Has d E m → L.Has d F n → o.comp (L.row F) m (turned t) ≡ n
  agrees t {d} {m} {n} r e h k =
      sym (law.assoc (C.embedding h) embedding (power t))
      ∙ (P.frobenius.period (law.comp (C.embedding h) embedding) t r.turn).1 same
      ∙ sym (r.restricts h k)
    where
      same : t % o.degree (L.row d) ≡ r.turn % o.degree (L.row d)
      same = ⊎_elim
          (λ (none, f). absurd (none (record { source = m; target = n; into_source = h; into_target = k })))
          (λ (c, f). rw f at e)
          r.kind

  -- **an embedding followed by a power of Frobenius is a candidate**
  pub candidate_exists : (t : ℕ) × IsCandidate o L E F
      (o.comp (L.row F) phi (o.frobenius (L.row F) t))
  candidate_exists =
      let (t, e) = power_of_all in (
        t,
        record {
          embedding = law.comp embedding (power t);
          agrees = λ {d} h k. agrees t (restriction d) (e d (C.within h).0) h k;
        },
      )
