-- A polynomial whose roots are the candidates, made in steps; its least root is the choice.
use Rattle.std.proofs.Common.{◌≡◌, ◌↔◌, ℕ, zero, suc, ◌+◌, ◌<◌, List, [], length, get_or, refl, ap, sym, ◌∙◌, subst, ⊎_elim, arith, Option, Some, None, AllPairs}
use Rattle.std.specs.Prelude.{MatchOption}
use Rattle.std.specs.List.{Contains}
use Rattle.std.proofs.lemmas.Bool.{cases_eq}
use Rattle.std.proofs.lemmas.List.{get_or_default}
use Rattle.std.proofs.lemmas.List.Elements.{Contains-get_or}
use Prim.Native.Nat.{◌∣◌}
use Rattle.alg_model.specs.Polynomials.{evaluate}
use Rattle.alg_model.specs.Maps.{Field, field_values, degree_of, generator, constants, apply, comp, IsEmbedding}
use Rattle.alg_model.specs.Roots.{IsRoot, IsBefore, IsLeastRoot}
use Rattle.alg_model.specs.Lattices.{Lattice, field_at, Stored, IsCompatible}
use Rattle.alg_model.specs.Candidates.{map_sending, embedding_by, IsSent, IsCandidate, IsChoice}
use Rattle.alg_galois.proofs.EmbeddingRoots.{embedding_of_root, least_root_exists}
use Rattle.alg_compatible.specs.Theorems.{AreFields}
use Rattle.alg_compatible.proofs.Transfer.{stored_one}
use Rattle.alg_compatible.proofs.Candidates.{plain_candidate}
use Rattle.alg_choices.specs.Restrictions.{Extends, IsRestriction, prescription, IsPrescription}
use Rattle.alg_choices.specs.Fitting.{AgreesAt, Fits, AreSufficient, Passed, IsSelection, Selects, Narrows, AreRestrictions, AreZeros, AreGiven}
use Rattle.alg_choices.proofs.Restrictions.{prescription_is}
use Rattle.alg_choices.proofs.Fitting.{finite_at, not_before_itself, not_before_back, fits_candidate}

-- common roots with one polynomial more
pub narrowed : (F : Field) (Z : List ℕ → Type 0) (g h k : List (List ℕ))
    → ((w : List ℕ) → IsRoot F k w ↔ (IsRoot F g w × IsRoot F h w)) → (w : List ℕ)
    → (Z w × IsRoot F k w) ↔ ((Z w × IsRoot F g w) × IsRoot F h w)
narrowed F Z g h k both w = (
  λ (z, r). let (a, b) = (both w).0 r in ((z, a), b),
  λ ((z, a), b). (z, (both w).1 (a, b)),
)

-- the clause of a polynomial for a common subfield, as a record
pub restriction_from : {E F : Field} {sub into g : List (List ℕ)}
    → ((v : List ℕ) → (field_values F).Valid v
    → (evaluate (field_values F).ops g v ≡ (field_values F).ops.zero)
    ↔ (IsEmbedding E F (map_sending E F v) × (apply F (map_sending E F v) (generator E) ≡ v)
    × (comp F sub (map_sending E F v) ≡ into)))
    → IsRestriction E F sub into g
restriction_from exactly = record {
  exactly = λ v valid. (
    λ z. let (e, g, f) = (exactly v valid).0 z in record { embedding = e; generator = g; followed = f },
    λ x. (exactly v valid).1 (x.embedding, x.generator, x.followed),
  );
}

module _ {L : Lattice} {E F : ℕ} where
  -- ---- the choice
  module _ {sending : Option (List ℕ × List ℕ)} (g : List (List ℕ))
      (roots : (w : List ℕ) → IsRoot (field_at L.rows F) g w ↔ IsCandidate L E F sending w) where
    -- **the least root of a polynomial whose roots are the candidates is the choice**
    pub choice_from_roots : (v : List ℕ)
        → IsLeastRoot (field_at L.rows F) g v ↔ IsChoice L E F sending v
    choice_from_roots v = (
      λ r. record { candidate = (roots v).0 r.root; first = λ w c b. r.least w ((roots w).1 c) b },
      λ c. record { root = (roots v).1 c.candidate; least = λ w r b. c.first w ((roots w).0 r) b },
    )

    -- where it has no root there is no candidate
    pub none_from_roots : ((w : List ℕ) → IsRoot (field_at L.rows F) g w → ⊥)
        ↔ ((w : List ℕ) → IsCandidate L E F sending w → ⊥)
    none_from_roots = (λ n w c. n w ((roots w).1 c), λ n w r. n w ((roots w).0 r))

    -- both at once, for a program that looks for the least root
    pub choice_or_none : (r : Option (List ℕ))
        → MatchOption r ((w : List ℕ) → IsRoot (field_at L.rows F) g w → ⊥)
        (λ v. IsLeastRoot (field_at L.rows F) g v)
        → MatchOption r ((w : List ℕ) → IsCandidate L E F sending w → ⊥)
        (λ v. IsChoice L E F sending v)
    choice_or_none None h = none_from_roots.0 h
    choice_or_none (Some v) h = (choice_from_roots v).0 h

  -- ---- the choice from a list
  module _ {sending : Option (List ℕ × List ℕ)} (vs : List (List ℕ)) (rising : AllPairs IsBefore vs)
      (exactly : (w : List ℕ) → Contains vs w ↔ IsCandidate L E F sending w) where
    -- **the first of the rising list of the candidates is the choice**
    pub choice_from_list : (d : List ℕ) → 0 < length vs → IsChoice L E F sending (get_or vs 0 d)
    choice_from_list d h = record {
      candidate = (exactly (get_or vs 0 d)).0 (Contains-get_or vs 0 d h);
      first = λ w c b. later w ((exactly w).1 c) b;
    }
      where
        later : (w : List ℕ) → Contains vs w → IsBefore w (get_or vs 0 d) → ⊥
        later w (zero, l, e) b = not_before_itself w
            (subst (λ v. IsBefore w v) (get_or_default vs 0 d w h ∙ e) b)
        later w (suc k, l, e) b = not_before_back (get_or vs 0 d) w
            (subst (λ v. IsBefore (get_or vs 0 d) v) (get_or_default vs (suc k) d w l ∙ e)
            (rising 0 (suc k) d (omega arith) l)) b

    -- where it is empty there is no candidate
    pub none_from_list : length vs ≡ 0 → (w : List ℕ) → IsCandidate L E F sending w → ⊥
    none_from_list e w c = let (k, l, f) = (exactly w).1 c in omega arith

  -- **where nothing is prescribed, it has a least root**
  pub plain_root_exists : IsCompatible L → AreFields L E F
      → (field_at L.rows E).characteristic ≡ (field_at L.rows F).characteristic
      → degree_of (field_at L.rows E) ∣ degree_of (field_at L.rows F)
      → (g : List (List ℕ))
      → ((w : List ℕ) → IsRoot (field_at L.rows F) g w ↔ IsCandidate L E F None w)
      → (v : List ℕ) × IsLeastRoot (field_at L.rows F) g v
  plain_root_exists C A e d g roots =
      let (w, c) = plain_candidate C.rows C.compatible E F A.source A.target e d in
      least_root_exists (field_at L.rows F) (finite_at C F A.target) g w ((roots w).1 c)

  module _ (C : IsCompatible L) (A : AreFields L E F)
      (same : (field_at L.rows E).characteristic ≡ (field_at L.rows F).characteristic) where
    -- a root of the polynomial of E extends what it agrees with
    extends : {v : List ℕ} {d : ℕ} {m n : List (List ℕ)}
        → IsRoot (field_at L.rows F)
        (constants (field_at L.rows F) (field_at L.rows E).polynomial) v
        → AgreesAt L E F v d → Stored L d E m → Stored L d F n
        → Extends (field_at L.rows E) (field_at L.rows F) m n v
    extends {v} r a h k =
        let (e, g) = embedding_of_root (field_at L.rows E) (field_at L.rows F) (finite_at C E A.source) (finite_at C F A.target) same v r in
        record { embedding = e; generator = g; followed = a.agrees h k }

    -- what extends a field's maps agrees there
    agrees : {v : List ℕ} {d : ℕ} {m n : List (List ℕ)}
        → Extends (field_at L.rows E) (field_at L.rows F) m n v → Stored L d E m → Stored L d F n
        → AgreesAt L E F v d
    agrees {v} x h k = record {
      agrees = λ p q. ap (λ w. comp (field_at L.rows F) w (embedding_by L E F v)) (stored_one p h) ∙ x.followed ∙ stored_one k q;
    }

    -- ---- a polynomial made in steps
    module _ {needed : ℕ → Type 0} where
      -- at first, the polynomial of E
      pub selects_root : Selects L E F needed 0 None
          (constants (field_at L.rows F) (field_at L.rows E).polynomial)
      selects_root = record {
        exactly = λ w. (λ r. record { root = r; agrees = λ d (l, n). absurd (omega arith); sent = tt }, λ f. f.root);
      }

      -- or the zero polynomial, where roots of the polynomial of E are looked for
      pub narrows_all : Narrows L E F needed 0 None []
      narrows_all = record {
        exactly = λ w. (
          λ (r, z). record { root = r; agrees = λ d (l, n). absurd (omega arith); sent = tt },
          λ f. (f.root, (f.root.0, refl)),
        );
      }

      module _ {i : ℕ} {R : List ℕ → Type 0} (G : IsSelection L E F needed i None R) where
        -- a needed common subfield, by the common roots with its restriction
        pub selects_common : {m n h : List (List ℕ)} {T : List ℕ → Type 0} → needed i
            → Stored L i E m → Stored L i F n
            → IsRestriction (field_at L.rows E) (field_at L.rows F) m n h
            → ((w : List ℕ) → T w ↔ (R w × IsRoot (field_at L.rows F) h w))
            → IsSelection L E F needed (i + 1) None T
        selects_common {m} {n} {h} {T} need x y H both = record { exactly = λ w. (to w, from w) }
          where
            to : (w : List ℕ) → T w
                → Fits L E F (Passed L E F needed (i + 1)) None w
            to w r =
                let (a, b) = (both w).0 r in
                let f = (G.exactly w).0 a in
                record {
                  root = f.root;
                  agrees = λ d (l, z). ⊎_elim
                      (λ e. subst (AgreesAt L E F w) (sym e) (agrees ((H.exactly w b.0).0 b.1) x y))
                      (λ e. f.agrees d (omega arith, z))
                      (cases_eq d i);
                  sent = tt;
                }

            from : (w : List ℕ) → Fits L E F (Passed L E F needed (i + 1)) None w
                → T w
            from w f = (both w).1 (
              (G.exactly w).1 (record { root = f.root; agrees = λ d (l, z). f.agrees d (omega arith, z); sent = tt }),
              (f.root.0, (H.exactly w f.root.0).1 (extends f.root (f.agrees i (omega arith, need)) x y)),
            )

        -- any other field is passed over where it isn't needed, or agrees anyhow
        pub selects_other : (needed i → (w : List ℕ) → Fits L E F (Passed L E F needed i) None w
            → AgreesAt L E F w i)
            → IsSelection L E F needed (i + 1) None R
        selects_other anyhow = record {
          exactly = λ w. (
            λ r. let f = (G.exactly w).0 r in record {
              root = f.root;
              agrees = λ d (l, z). ⊎_elim
                  (λ (e : d ≡ i). subst (AgreesAt L E F w) (sym e) (anyhow (subst needed e z) w f))
                  (λ e. f.agrees d (omega arith, z))
                  (cases_eq d i);
              sent = tt;
            },
            λ f. (G.exactly w).1 (record { root = f.root; agrees = λ d (l, z). f.agrees d (omega arith, z); sent = tt }),
          );
        }

        -- a prescribed pair, by the common roots with its polynomial
        pub selects_sent : {a b : List ℕ} {h : List (List ℕ)} {T : List ℕ → Type 0}
            → IsPrescription (field_at L.rows E) (field_at L.rows F) a b h
            → ((w : List ℕ) → T w ↔ (R w × IsRoot (field_at L.rows F) h w))
            → IsSelection L E F needed i (Some (a, b)) T
        selects_sent H both = record {
          exactly = λ w. (
            λ r.
                let (x, y) = (both w).0 r in
                let f = (G.exactly w).0 x in
                record { root = f.root; agrees = f.agrees; sent = (H.exactly w y.0).0 y.1 },
            λ f. (both w).1 (
              (G.exactly w).1 (record { root = f.root; agrees = f.agrees; sent = tt }),
              (f.root.0, (H.exactly w f.root.0).1 f.sent),
            ),
          );
        }

      -- **after the last field these are the candidates, if the needed fields are enough**
      pub selects_candidates : {sending : Option (List ℕ × List ℕ)} {R : List ℕ → Type 0}
          → IsSelection L E F needed (length L.rows) sending R
          → AreSufficient L E F (Passed L E F needed (length L.rows))
          → (w : List ℕ) → R w ↔ IsCandidate L E F sending w
      selects_candidates {sending} G enough w = (
        λ r. (fits_candidate C A same enough sending w).0 ((G.exactly w).0 r),
        λ c. (G.exactly w).1 ((fits_candidate C A same enough sending w).1 c),
      )

    -- ---- common zeros
    module _ {S : ℕ → Type 0} {restriction : ℕ → List (List ℕ)}
        (R : AreRestrictions L E F S restriction) where
      zeros_fit : (sending : Option (List ℕ × List ℕ)) → AreGiven L E F sending → (v : List ℕ)
          → AreZeros L E F S restriction sending v ↔ Fits L E F S sending v
      zeros_fit sending given v = (
        λ z. record {
          root = z.root;
          agrees = λ d s. let c = R.is_common d s in
              agrees (((R.restricts d s c.into_first c.into_second).exactly v (z.restricted d s).0).0 (z.restricted d s).1) c.into_first c.into_second;
          sent = to sending given z.sent;
        },
        λ f. record {
          root = f.root;
          restricted = λ d s. let c = R.is_common d s in
              (f.root.0, ((R.restricts d s c.into_first c.into_second).exactly v f.root.0).1 (extends f.root (f.agrees d s) c.into_first c.into_second));
          sent = from sending given f.root.0 f.sent;
        },
      )
        where
          to : (sending : Option (List ℕ × List ℕ)) → AreGiven L E F sending
              → MatchOption sending (Unit {0})
              (λ s. IsRoot (field_at L.rows F) (prescription (field_at L.rows F) s.0 s.1) v)
              → IsSent (field_at L.rows F) (embedding_by L E F v) sending
          to None given z = tt
          to (Some (a, b)) (va, vb) (vv, e) =
              ((prescription_is (field_at L.rows E) (field_at L.rows F) (finite_at C E A.source) (finite_at C F A.target) same a b va vb).exactly v vv).0 e

          from : (sending : Option (List ℕ × List ℕ)) → AreGiven L E F sending
              → (field_values (field_at L.rows F)).Valid v
              → IsSent (field_at L.rows F) (embedding_by L E F v) sending
              → MatchOption sending (Unit {0})
              (λ s. IsRoot (field_at L.rows F) (prescription (field_at L.rows F) s.0 s.1) v)
          from None given vv z = tt
          from (Some (a, b)) (va, vb) vv e =
              (vv, ((prescription_is (field_at L.rows E) (field_at L.rows F) (finite_at C E A.source) (finite_at C F A.target) same a b va vb).exactly v vv).1 e)

      -- **the candidates are the common zeros of the polynomials**
      pub zeros_candidate : AreSufficient L E F S → (sending : Option (List ℕ × List ℕ))
          → AreGiven L E F sending → (v : List ℕ)
          → AreZeros L E F S restriction sending v ↔ IsCandidate L E F sending v
      zeros_candidate enough sending given v = (
        λ z. (fits_candidate C A same enough sending v).0 ((zeros_fit sending given v).0 z),
        λ c. (zeros_fit sending given v).1 ((fits_candidate C A same enough sending v).1 c),
      )
