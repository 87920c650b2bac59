-- A value is a candidate exactly if it is a root of the polynomial of E that agrees at enough
-- common subfields and sends what is prescribed.
use Rattle.std.proofs.Common.{◌≡◌, ◌⊎◌, ◌↔◌, ℕ, zero, suc, ◌+◌, ◌-◌, ◌*◌, ◌<◌, ◌≤◌, List, length, ap, sym, ◌∙◌, subst, inl, inr, ⊎_elim, arith, Option, Equal, Greater, nat_cmp}
use Rattle.std.proofs.lemmas.Bool.{cases_eq, cases_lt}
use Rattle.std.proofs.Math.Nat.{mul-le-mul_right}
use Rattle.std.specs.Ordering.{ordering_reverse}
use Rattle.std.proofs.lemmas.Cmp.{nat_cmp_total, tied_itself}
use Rattle.std.proofs.lemmas.Nat.Gcd.{le_of_dvd}
use Rattle.alg_model.specs.Maps.{Field, IsFiniteField, degree_of, generator, constants, apply, comp, identity_map, IsEmbedding}
use Rattle.alg_model.specs.Factors.{order_by}
use Rattle.alg_model.specs.Roots.{IsRoot, IsBefore}
use Rattle.alg_model.specs.Lattices.{Lattice, field_at, Stored, IsCompatible}
use Rattle.alg_model.specs.Candidates.{embedding_by, IsSent, IsCandidate, IsChoice}
use Rattle.alg_galois.proofs.Embeddings.{embedding_is_powers_of_image, apply_valid, generator_is_value, comp_embedding, comp_assoc, identity_comp}
use Rattle.alg_galois.proofs.EmbeddingRoots.{embedding_of_root, generator_image_root, embedding_degree_divides}
use Rattle.alg_galois.proofs.Meets.{degree_positive}
use Rattle.alg_compatible.specs.Theorems.{AreFields}
use Rattle.alg_compatible.proofs.Transfer.{stored_one, field_finite, lattice_decided}
use Rattle.alg_rings.proofs.PolynomialOrder.{order_by_total}
use Rattle.alg_rings.proofs.Decisions.{Least, search_below, both_or_not}
use Rattle.alg_choices.specs.Fitting.{IsCommonSubfield, AgreesAt, Fits, AreSufficient, IsCovered}
use Rattle.alg_choices.proofs.Restrictions.{embedding_of_degree_one}

-- of two values one at most comes before the other
pub not_before_back : (v w : List ℕ) → IsBefore v w → IsBefore w v → ⊥
not_before_back v w a b =
    let e : order_by nat_cmp w v ≡ Greater = (order_by_total nat_cmp_total).antisymm w v ∙ ap ordering_reverse a in cc

-- no value comes before itself
pub not_before_itself : (w : List ℕ) → IsBefore w w → ⊥
not_before_itself w b = let e : order_by nat_cmp w w ≡ Equal = tied_itself (order_by_total nat_cmp_total) w in cc

further : (x y n c d : ℕ) → x < y → c < n → x * n + c < y * n + d
further x y n c d h k = let more : suc x * n ≤ y * n = mul-le-mul_right n h in omega (arith)

module _ {L : Lattice} (C : IsCompatible L) where
  -- a field of the lattice is a finite field
  pub finite_at : (i : ℕ) → i < length L.rows → IsFiniteField (field_at L.rows i)
  finite_at = field_finite L C.rows

  module _ {E F : ℕ} (A : AreFields L E F) where
    abbrev FE : Field
    FE = field_at L.rows E

    abbrev FF : Field
    FF = field_at L.rows F

    module _ {v : List ℕ}
        (D : IsEmbedding (field_at L.rows E) (field_at L.rows F) (embedding_by L E F v)) where
      -- the prime field restricts nothing
      pub agrees_of_degree_one : (c : ℕ) → degree_of (field_at L.rows c) ≡ 1 → AgreesAt L E F v c
      agrees_of_degree_one c d = record {
        agrees = λ {m} {n} h k.
            let V = finite_at c (C.compatible.within h).0 in
            embedding_of_degree_one (field_at L.rows c) FF V (finite_at F A.target) d (comp FF m (embedding_by L E F v))
            (comp_embedding (field_at L.rows c) FE FF V (finite_at E A.source) (finite_at F A.target) m (embedding_by L E F v) (C.compatible.embedding h) D)
            ∙ sym (embedding_of_degree_one (field_at L.rows c) FF V (finite_at F A.target) d n (C.compatible.embedding k));
      }

      -- what agrees at a common subfield agrees at all that go into it
      pub agrees_below : {c d : ℕ} {k : List (List ℕ)} → Stored L c d k → IsCommonSubfield L E F d
          → AgreesAt L E F v d → AgreesAt L E F v c
      agrees_below {c} {d} {k} h S a = record {
        agrees = λ {m} {n} x y.
            let first : m ≡ comp FE k S.first = stored_one x (C.compatible.transitive h S.into_first) in
            let second : n ≡ comp FF k S.second = stored_one y (C.compatible.transitive h S.into_second) in
            ap (λ w. comp FF w (embedding_by L E F v)) first
            ∙ comp_assoc (field_at L.rows c) (field_at L.rows d) FE FF (finite_at c (C.compatible.within h).0) (finite_at d (C.compatible.within h).1)
            (finite_at E A.source) (finite_at F A.target) k S.first (embedding_by L E F v)
            (C.compatible.embedding h) (C.compatible.embedding S.into_first) D
            ∙ ap (λ w. comp FF k w) (a.agrees S.into_first S.into_second)
            ∙ sym second;
      }

    -- a candidate is a root of the polynomial of E
    pub candidate_root : {sending : Option (List ℕ × List ℕ)} {v : List ℕ}
        → IsCandidate L E F sending v
        → IsRoot (field_at L.rows F)
        (constants (field_at L.rows F) (field_at L.rows E).polynomial) v
    candidate_root {v = v} c = subst (IsRoot FF (constants FF FE.polynomial)) c.generator
        (generator_image_root FE FF (finite_at E A.source) (finite_at F A.target) (embedding_by L E F v) c.embedding)

    module _ (same : (field_at L.rows E).characteristic ≡ (field_at L.rows F).characteristic) where
      -- **a root that agrees at enough common subfields is a candidate, and conversely**
      pub fits_candidate : {S : ℕ → Type 0} → AreSufficient L E F S
          → (sending : Option (List ℕ × List ℕ)) (v : List ℕ)
          → Fits L E F S sending v ↔ IsCandidate L E F sending v
      fits_candidate {S} enough sending v = (candidate, fits)
        where
          candidate : Fits L E F S sending v → IsCandidate L E F sending v
          candidate f =
              let (e, g) = embedding_of_root FE FF (finite_at E A.source) (finite_at F A.target) same v f.root in
              record {
                value = f.root.0;
                embedding = e;
                generator = g;
                agrees = λ {d = c} {m} {n} h k. ⊎_elim
                    (λ one. (agrees_of_degree_one e c one).agrees h k)
                    (λ more.
                    let (d, s, common, (x, into)) = enough.covered c (record { first = m; second = n; into_first = h; into_second = k }) more in
                    (agrees_below e into common (f.agrees d s)).agrees h k)
                    (cases_eq (degree_of (field_at L.rows c)) 1);
                sent = f.sent;
              }

          fits : IsCandidate L E F sending v → Fits L E F S sending v
          fits c = record { root = candidate_root c; agrees = λ d s. record { agrees = λ h k. c.agrees h k }; sent = c.sent }

    -- ---- where the pair is stored already
    module _ {m : List (List ℕ)} (h : Stored L E F m) where
      -- the stored map sends the generator to the only possible candidate
      pub stored_candidate : {sending : Option (List ℕ × List ℕ)} {v : List ℕ}
          → IsCandidate L E F sending v
          → (embedding_by L E F v ≡ m)
          × (apply (field_at L.rows F) m (generator (field_at L.rows E)) ≡ v)
      stored_candidate {v = v} c =
          let e : embedding_by L E F v ≡ m =
          sym (identity_comp FE FF (finite_at E A.source) (finite_at F A.target) (embedding_by L E F v) c.embedding)
          ∙ c.agrees (C.compatible.identity E A.source) h in
          (e, ap (λ x. apply FF x (generator FE)) (sym e) ∙ c.generator)

      -- its powers are the stored map
      pub stored_powers :
          embedding_by L E F (apply (field_at L.rows F) m (generator (field_at L.rows E))) ≡ m
      stored_powers = sym (embedding_is_powers_of_image FE FF (finite_at E A.source) (finite_at F A.target) m (C.compatible.embedding h))

      -- **it is the choice if the stored map sends what is prescribed**
      pub stored_choice : {sending : Option (List ℕ × List ℕ)}
          → IsSent (field_at L.rows F) m sending
          → IsChoice L E F sending (apply (field_at L.rows F) m (generator (field_at L.rows E)))
      stored_choice {sending} sent = record {
        candidate = record {
          value = apply_valid FE FF (finite_at E A.source) (finite_at F A.target) m D (generator FE)
              (generator_is_value FE FF (finite_at E A.source) (finite_at F A.target));
          embedding = subst (IsEmbedding FE FF) (sym stored_powers) D;
          generator = ap (λ x. apply FF x (generator FE)) stored_powers;
          agrees = λ {d} {m = a} {n = b} x y. ap (λ w. comp FF a w) stored_powers ∙ stored_one (C.compatible.transitive x h) y;
          sent = subst (λ x. IsSent FF x sending) (sym stored_powers) sent;
        };
        first = λ w c b. not_before_itself w (subst (λ x. IsBefore w x) (stored_candidate c).1 b);
      }
        where
          D : IsEmbedding FE FF m
          D = C.compatible.embedding h

      -- and else there is none
      pub stored_sent : {sending : Option (List ℕ × List ℕ)} {v : List ℕ}
          → IsCandidate L E F sending v
          → IsSent (field_at L.rows F) m sending
      stored_sent {sending} c = subst (λ x. IsSent FF x sending) (stored_candidate c).0 c.sent

    -- ---- which common subfields are enough
    -- all of them
    pub all_sufficient : AreSufficient L E F (λ d. d < length L.rows)
    all_sufficient = record {
      covered = λ c S more. let below = (C.compatible.within S.into_first).0 in
          (c, below, S, (identity_map (field_at L.rows c), C.compatible.identity c below));
    }

    -- none, where the only common subfield is the prime field
    pub none_sufficient :
        ((c : ℕ) → IsCommonSubfield L E F c → degree_of (field_at L.rows c) ≡ 1)
        → AreSufficient L E F (λ d. ⊥)
    none_sufficient only = record { covered = λ c S more. absurd (more (only c S)) }

    -- a degree is at most that of F
    degree_small : {d : ℕ} → IsCommonSubfield L E F d
        → degree_of (field_at L.rows d) ≤ degree_of (field_at L.rows F)
    degree_small {d} S = le_of_dvd (degree_positive FF (finite_at F A.target))
        (embedding_degree_divides (field_at L.rows d) FF (finite_at d (C.compatible.within S.into_second).0) (finite_at F A.target) S.second
        (C.compatible.embedding S.into_second))

    -- whether a field has maps into both can be told
    common_or_not : (d : ℕ) → IsCommonSubfield L E F d ⊎ ¬ IsCommonSubfield L E F d
    common_or_not d = ⊎_elim
        (λ ((m, h), (n, k)). inl (record { first = m; second = n; into_first = h; into_second = k }))
        (λ none. inr (λ S. none ((S.first, S.into_first), (S.second, S.into_second))))
        (both_or_not (lattice_decided L d E) (lattice_decided L d F))

    abbrev ComesFirst : ℕ → ℕ → Type 0
    ComesFirst d c = (degree_of (field_at L.rows d) < degree_of (field_at L.rows c))
        ⊎ ((degree_of (field_at L.rows d) ≡ degree_of (field_at L.rows c)) × (c < d))

    comes_first_or_not : (d c : ℕ) → ComesFirst d c ⊎ ¬ ComesFirst d c
    comes_first_or_not d c = ⊎_elim
        (λ h. inl (inl h))
        (λ h. ⊎_elim (λ x. inl (inr x)) (λ none. inr (λ x. ⊎_elim (λ k. let l : degree_of (field_at L.rows c) ≤ degree_of (field_at L.rows d) = h in omega arith) none x))
        (both_or_not (cases_eq (degree_of (field_at L.rows d)) (degree_of (field_at L.rows c))) (below_or_not c d)))
        (cases_lt (degree_of (field_at L.rows d)) (degree_of (field_at L.rows c)))
      where
        below_or_not : (a b : ℕ) → (a < b) ⊎ ¬ (a < b)
        below_or_not a b = ⊎_elim (λ h. inl h) (λ h. inr (λ k. omega arith)) (cases_lt a b)

    -- whether a field is covered can be told
    pub covered_or_not : (d : ℕ) → IsCovered L E F d ⊎ ¬ IsCovered L E F d
    covered_or_not d = ⊎_elim
        (λ (l : Least Covers (length L.rows)).
        let ((S, (m, h)), first) = l.holds in
        inl (record { cover = l.number; map = m; is_common = S; into = h; comes_first = first }))
        (λ none. inr (λ x. none x.cover (C.compatible.within x.into).1 ((x.is_common, (x.map, x.into)), x.comes_first)))
        (search_below Covers (length L.rows) (λ c h. both_or_not (both_or_not (common_or_not c) (lattice_decided L d c)) (comes_first_or_not d c)))
      where
        Covers : ℕ → Type 0
        Covers c = (IsCommonSubfield L E F c × ((m : List (List ℕ)) × Stored L d c m)) × ComesFirst d c

    -- a number that falls with each cover
    rank : ℕ → ℕ
    rank d = (degree_of (field_at L.rows F) - degree_of (field_at L.rows d)) * length L.rows + d

    -- a greater degree, or the same degree and a lesser number, has a lesser rank
    rank_falls : {c d : ℕ} → c < length L.rows → IsCommonSubfield L E F c → IsCommonSubfield L E F d
        → ComesFirst d c → rank c < rank d
    unfolding rank
    rank_falls {c} {d} below S T (inl h) =
        let a : degree_of (field_at L.rows c) ≤ degree_of (field_at L.rows F) = degree_small S in
        further (degree_of (field_at L.rows F) - degree_of (field_at L.rows c))
        (degree_of (field_at L.rows F) - degree_of (field_at L.rows d)) (length L.rows) c d (omega arith) below
    rank_falls {c} {d} below S T (inr (e, h)) =
        let f : (degree_of (field_at L.rows F) - degree_of (field_at L.rows d)) * length L.rows
        ≡ (degree_of (field_at L.rows F) - degree_of (field_at L.rows c)) * length L.rows =
        ap (λ n. (degree_of (field_at L.rows F) - n) * length L.rows) e in
        omega arith

    -- **those that aren't covered**
    pub uncovered_sufficient : AreSufficient L E F (λ d. (d < length L.rows) × ¬ IsCovered L E F d)
    uncovered_sufficient = record { covered = λ c S more. climb (suc (rank c)) c S (omega arith) }
      where
        climb : (n c : ℕ) → IsCommonSubfield L E F c → rank c < n
            → (d : ℕ) × ((d < length L.rows) × ¬ IsCovered L E F d) × IsCommonSubfield L E F d
            × ((k : List (List ℕ)) × Stored L c d k)
        climb zero c S h = absurd (omega arith)
        climb (suc n) c S h = ⊎_elim
            (λ (x : IsCovered L E F c).
            let falls : rank x.cover < rank c = rank_falls (C.compatible.within x.into).1 x.is_common S x.comes_first in
            let (d, free, T, (k, into)) = climb n x.cover x.is_common (omega arith) in
            (d, free, T, (comp (field_at L.rows d) x.map k, C.compatible.transitive x.into into)))
            (λ free.
            let below = (C.compatible.within S.into_first).0 in
            (c, (below, free), S, (identity_map (field_at L.rows c), C.compatible.identity c below)))
            (covered_or_not c)
