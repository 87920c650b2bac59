-- What an insertion in a lattice of finite fields adds is forced.
use Rattle.std.proofs.Common.{◌≡◌, ◌↔◌, ℕ, ◌≤◌, List, [], ◌∷◌, ◌++◌, length, get_or, refl, sym, ap, ◌∙◌, subst, arith, length-take, get_or-take, length-append, append-nil}
use Rattle.std.proofs.Math.Seq.{take-length}
use Rattle.alg_model.specs.Maps.{degree_of}
use Rattle.alg_model.specs.Lattices.{Lattice, Compatible, Stored, field_at, IsRows, Grows, Row, no_row}
use Rattle.alg_model.specs.Candidates.{IsMissing}
use Rattle.alg_model.specs.Filling.{IsFilled}
use Rattle.alg_lattices.specs.Lattices as Theory
use Rattle.alg_lattices.specs.Filling as TheoryFilling
use Rattle.alg_lattices.proofs.Additions as TheoryAdditions
use Rattle.alg_lattices.proofs.Rows.{SameLattice}
use Rattle.alg_lattices.proofs.StoredMaps.{into_stored}
use Rattle.alg_lattices.proofs.Filling as TheoryFillingProofs
use Rattle.alg_compatible.proofs.FiniteFields.{finite_fields, embedding_laws}
use Rattle.alg_compatible.proofs.Transfer.{lattice_of, lattice_decided, to_theory}
use Rattle.alg_compatible.proofs.Insertions.{MadeMap, insertion_of, to_missing}
use Rattle.alg_compatible.proofs.Filling.{Inserted, is_insertion, maps_after}

-- a lattice that has grown has grown in the theory
pub to_grows : {L M : Lattice} → Grows L M → Theory.Grows (lattice_of L) (lattice_of M)
to_grows {L} {M} G = record {
  count = omega (arith, length-take (length L.rows) M.rows, ap length G.rows);
  rows = λ i h. ap (λ r. r.field) (sym (get_or-take (length L.rows) M.rows i no_row h) ∙ ap (λ rs. get_or rs i no_row) G.rows);
  maps = λ h. G.maps h;
}

-- a compatible lattice of the same edition is one with the same prime fields
same_primes : (L M : Lattice) → M.edition ≡ L.edition → IsRows M.edition M.rows → Compatible M
    → Theory.Compatible finite_fields (length L.edition.primes) (lattice_of M)
same_primes L M e Q K =
    subst (λ x. Theory.Compatible finite_fields (length x.primes) (lattice_of M)) e (to_theory M Q K)

-- **a compatible lattice that has grown, and stores the new map, has a field of each missing degree
-- below F**
pub fields_forced : {L M : Lattice} → IsRows L.edition L.rows → Compatible L
    → IsRows M.edition M.rows → Compatible M → Grows L M
    → {E F : ℕ} {phi : List (List ℕ)} → Stored M E F phi → {d : ℕ} → IsMissing L E F d
    → (i : ℕ) × (m : List (List ℕ)) × Stored M i F m × (degree_of (field_at M.rows i) ≡ d)
fields_forced {L} {M} R C Q K G chosen m =
    let s = TheoryAdditions.fields_forced embedding_laws (to_theory L R C) (same_primes L M G.edition Q K) (to_grows G) chosen (to_missing m).in_closure in
    (s.field, s.map, s.is_stored, s.degree)

module _ {L : Lattice} {E F : ℕ} {phi : List (List ℕ)} {N : Lattice} (H : Inserted L E F phi N.rows)
    (D : IsFilled L E F phi N) where
  -- the map by the least root is stored
  made_stored : {i : ℕ} {m : List (List ℕ)} → MadeMap L F N.rows i m → Stored N i F m
  made_stored h = (maps_after H D).0 (into_stored (TheoryFillingProofs.setting embedding_laws (to_theory L H.before H.compatible) (lattice_decided L) (is_insertion H))
      (TheoryFilling.IsMapInto.made h))

  -- **a compatible lattice that has grown, with the fields of the filled one and their maps into F,
  -- has all its maps**
  pub maps_forced : {M : Lattice} → IsRows M.edition M.rows → Compatible M → Grows L M
      → M.rows ≡ N.rows → Stored M E F phi
      → ((i : ℕ) (m : List (List ℕ)) → length L.rows ≤ i → Stored N i F m → Stored M i F m)
      → Grows N M
  maps_forced {M} Q K G same chosen made = record {
    edition = G.edition ∙ sym D.edition;
    rows = rw same (take-length N.rows);
    maps = λ h. grown.maps ((maps_after H D).1 h);
  }
    where
      grown : Theory.Grows (TheoryFilling.filled finite_fields (insertion_of L E F phi N.rows))
          (lattice_of M)
      grown = TheoryAdditions.maps_forced embedding_laws (same_primes L M G.edition Q K) (to_grows G) (record {
        count = ap length same;
        rows = λ i h. ap (λ rs. field_at rs i) same;
        chosen = chosen;
        made = λ {i} {m} h. made i m h.new (made_stored h);
      })

  -- **where the pair is stored already, nothing changes**
  pub stored_pair_changes_nothing : {m : List (List ℕ)} → Stored L E F m
      → (N.rows ≡ L.rows) × ((i k : ℕ) (n : List (List ℕ)) → Stored N i k n ↔ Stored L i k n)
  stored_pair_changes_nothing {m} already = (
    D.rows.appended ∙ ap (λ rs. L.rows ++ rs) (no_rows D.rows.made none) ∙ append-nil L.rows,
    λ i k n. (λ h. same.maps.1 ((maps_after H D).1 h), λ h. (maps_after H D).0 (same.maps.0 h)),
  )
    where
      same : SameLattice (lattice_of L)
          (TheoryFilling.filled finite_fields (insertion_of L E F phi N.rows))
      same = TheoryAdditions.stored_pair_changes_nothing embedding_laws (to_theory L H.before H.compatible) (is_insertion H) already

      none : length D.rows.made ≡ 0
      none = omega (arith, same.count, ap length D.rows.appended, length-append L.rows D.rows.made)

      no_rows : (rs : List Row) → length rs ≡ 0 → rs ≡ []
      no_rows [] e = refl
      no_rows (r ∷ rs) e = absurd (omega arith)
