-- Where there is a candidate there is a first one, and it is the only first one.
use Rattle.std.proofs.Common.{◌≡◌, ◌⊎◌, ℕ, ◌<◌, List, length, refl, ap, ◌∙◌, subst, inl, inr, ⊎_elim, Option, Some, None, Ordering, Less, Equal, Greater, nat_cmp}
use Rattle.std.specs.Ordering.{ordering_reverse}
use Rattle.std.proofs.lemmas.Cmp.{nat_cmp_total, on_total}
use Rattle.std.proofs.lemmas.Bool.{cases_eq}
use Rattle.alg_model.specs.Polynomials.{evaluate}
use Rattle.alg_model.specs.Factors.{order_by}
use Rattle.alg_model.specs.Maps.{IsFiniteField, field_values, apply, comp, constants}
use Rattle.alg_model.specs.Roots.{IsRoot, IsBefore}
use Rattle.alg_model.specs.Lattices.{Lattice, Compatible, Stored, field_at, IsRows}
use Rattle.alg_model.specs.Candidates.{map_sending, IsSent, IsCandidate, IsChoice}
use Rattle.alg_rings.proofs.Elements.{Element}
use Rattle.alg_rings.proofs.PolynomialOrder.{order_by_total, order_by_same, nat_cmp_same}
use Rattle.alg_rings.proofs.Decisions.{both_or_not, all_or_not, lists_equal_or_not}
use Rattle.alg_finite.proofs.LeastMembers.{least_member}
use Rattle.alg_galois.proofs.Fields.{modulus_of, finite}
use Rattle.alg_galois.proofs.EmbeddingRoots.{embedding_of_root, generator_image_root}
use Rattle.alg_compatible.proofs.Transfer.{lattice_decided, stored_one, field_finite}

-- values of which neither comes before the other are equal
pub not_before : (v w : List ℕ) → ¬ IsBefore v w → ¬ IsBefore w v → v ≡ w
not_before v w first second = compared (order_by nat_cmp v w) refl
  where
    compared : (r : Ordering) → order_by nat_cmp v w ≡ r → v ≡ w
    compared Less e = absurd (first e)
    compared Equal e = order_by_same nat_cmp_same v w e
    compared Greater e = absurd (second ((order_by_total nat_cmp_total).antisymm w v ∙ ap ordering_reverse e))

-- **there is at most one choice**
pub choice_one : {L : Lattice} {E F : ℕ} {sending : Option (List ℕ × List ℕ)} {v w : List ℕ}
    → IsChoice L E F sending v → IsChoice L E F sending w → v ≡ w
choice_one {v = v} {w = w} c d = not_before v w (λ b. d.first v c.candidate b) (λ b. c.first w d.candidate b)

module _ (L : Lattice) (R : IsRows L.edition L.rows) (C : Compatible L) (E F : ℕ)
    (s : E < length L.rows) (t : F < length L.rows)
    (sending : Option (List ℕ × List ℕ)) where
  -- whether two lists of values are equal can be told
  maps_equal_or_not : (m n : List (List ℕ)) → (m ≡ n) ⊎ ¬ (m ≡ n)
  maps_equal_or_not = lists_equal_or_not (lists_equal_or_not cases_eq)

  -- the maps of d agree with the map phi
  Agrees : List (List ℕ) → ℕ → Type 0
  Agrees phi d = (m n : List (List ℕ)) → Stored L d E m → Stored L d F n → comp (field_at L.rows F) m phi ≡ n

  agrees_or_not : (phi : List (List ℕ)) (d : ℕ) → Agrees phi d ⊎ ¬ Agrees phi d
  unfolding Agrees
  agrees_or_not phi d = ⊎_elim
      (λ (m, h). ⊎_elim
      (λ (n, k). ⊎_elim
      (λ e. inl (λ u v p q. ap (λ x. comp (field_at L.rows F) x phi) (stored_one p h) ∙ e ∙ stored_one k q))
      (λ fails. inr (λ a. fails (a m n h k)))
      (maps_equal_or_not (comp (field_at L.rows F) m phi) n))
      (λ none. inl (λ u v p q. absurd (none (v, q))))
      (lattice_decided L d F))
      (λ none. inl (λ u v p q. absurd (none (u, p))))
      (lattice_decided L d E)

  sent_or_not : (phi : List (List ℕ)) (x : Option (List ℕ × List ℕ))
      → IsSent (field_at L.rows F) phi x ⊎ ¬ IsSent (field_at L.rows F) phi x
  sent_or_not phi None = inl tt
  sent_or_not phi (Some x) = lists_equal_or_not cases_eq (apply (field_at L.rows F) phi x.0) x.1

  -- what a candidate must be besides a root of the polynomial of E
  Fits : List ℕ → Type 0
  Fits v = ((d : ℕ) → d < length L.rows → Agrees (map_sending (field_at L.rows E) (field_at L.rows F) v) d)
      × IsSent (field_at L.rows F) (map_sending (field_at L.rows E) (field_at L.rows F) v) sending

  fits_or_not : (v : List ℕ) → Fits v ⊎ ¬ Fits v
  unfolding Fits
  fits_or_not v = both_or_not
      (all_or_not (Agrees (map_sending (field_at L.rows E) (field_at L.rows F) v)) (length L.rows)
      (λ d h. agrees_or_not (map_sending (field_at L.rows E) (field_at L.rows F) v) d))
      (sent_or_not (map_sending (field_at L.rows E) (field_at L.rows F) v) sending)

  module _ (same : (field_at L.rows E).characteristic ≡ (field_at L.rows F).characteristic) where
    -- a root that fits is a candidate
    of_root : (v : List ℕ)
        → IsRoot (field_at L.rows F) (constants (field_at L.rows F) (field_at L.rows E).polynomial) v
        → Fits v
        → IsCandidate L E F sending v
    unfolding Fits Agrees
    of_root v r (a, sent) =
        let (e, g) = embedding_of_root (field_at L.rows E) (field_at L.rows F) (field_finite L R E s) (field_finite L R F t) same v r in
        record {
          value = r.0;
          embedding = e;
          generator = g;
          agrees = λ {d} {m} {n} h k. a d (C.within h).0 m n h k;
          sent = sent;
        }

    -- and a candidate is one
    to_root : (v : List ℕ) → IsCandidate L E F sending v
        → IsRoot (field_at L.rows F) (constants (field_at L.rows F) (field_at L.rows E).polynomial) v
    to_root v c = subst (IsRoot (field_at L.rows F) (constants (field_at L.rows F) (field_at L.rows E).polynomial)) c.generator
        (generator_image_root (field_at L.rows E) (field_at L.rows F) (field_finite L R E s) (field_finite L R F t)
        (map_sending (field_at L.rows E) (field_at L.rows F) v) c.embedding)

    to_fits : (v : List ℕ) → IsCandidate L E F sending v → Fits v
    unfolding Fits Agrees
    to_fits v c = (λ d h m n p q. c.agrees p q, c.sent)

    -- whether a value is a candidate can be told
    pub candidate_or_not : (v : List ℕ) → (field_values (field_at L.rows F)).Valid v
        → IsCandidate L E F sending v ⊎ ¬ IsCandidate L E F sending v
    candidate_or_not v value = ⊎_elim
        (λ z. ⊎_elim (λ f. inl (of_root v (value, z) f)) (λ fails. inr (λ c. fails (to_fits v c))) (fits_or_not v))
        (λ fails. inr (λ c. fails (to_root v c).1))
        (lists_equal_or_not cases_eq (evaluate (field_values (field_at L.rows F)).ops (constants (field_at L.rows F) (field_at L.rows E).polynomial) v)
        (field_values (field_at L.rows F)).ops.zero)

  -- **where there is a candidate there is a choice**
  pub choice_exists : {w : List ℕ} → IsCandidate L E F sending w
      → (v : List ℕ) × IsChoice L E F sending v
  choice_exists {w} c =
      let a : (a : Element (field_values (field_at L.rows F))) × IsCandidate L E F sending a.0
      × ((u : Element (field_values (field_at L.rows F))) → IsCandidate L E F sending u.0 → order_by nat_cmp u.0 a.0 ≡ Less → ⊥) =
      least_member (finite (field_at L.rows F).characteristic W.characteristic (field_at L.rows F).polynomial (modulus_of (field_at L.rows F) W)).members
      (on_total (λ a. a.0) (order_by_total nat_cmp_total)) (λ a. IsCandidate L E F sending a.0)
      (λ a. candidate_or_not c.embedding.same_characteristic a.0 a.1) (w, c.value) c in
      (a.0.0, record { candidate = a.1; first = λ u d b. a.2 (u, d.value) d b })
    where
      W : IsFiniteField (field_at L.rows F)
      W = field_finite L R F t
