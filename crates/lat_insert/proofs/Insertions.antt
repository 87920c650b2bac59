-- What an insertion in a compatible lattice stores, and what it leaves as it was.
use Rattle.std.proofs.Common.{◌≡◌, ℕ, ◌<◌, List, [], ◌∷◌, length, refl, ap, ◌∙◌, subst, arith, length-append, Option, None}
use Rattle.std.specs.FinMap.{get, len}
use Rattle.alg_model.specs.Maps.{generator, apply, constants, identity_map, comp}
use Rattle.alg_model.specs.Roots.{IsRoot}
use Rattle.alg_model.specs.Lattices.{Lattice, field_at, Stored, IsCompatible}
use Rattle.alg_model.specs.Candidates.{embedding_by, IsCandidate, AreMissing}
use Rattle.alg_model.specs.Filling.{IsFilled}
use Rattle.alg_lattices.specs.Filling as Theory
use Rattle.alg_lattices.proofs.StoredMaps.{into_stored}
use Rattle.alg_lattices.proofs.Filling as TheoryFilling
use Rattle.alg_galois.proofs.EmbeddingRoots.{generator_image_root}
use Rattle.alg_compatible.specs.Theorems.{AreFields}
use Rattle.alg_compatible.proofs.FiniteFields.{embedding_laws}
use Rattle.alg_compatible.proofs.Transfer.{lattice_decided, to_theory, field_finite}
use Rattle.alg_compatible.proofs.Candidates.{to_candidate}
use Rattle.alg_compatible.proofs.Filling.{Inserted, is_insertion, maps_after, target_row}
use Rattle.alg_compatible.proofs.Laws.{filling_law, filling_exists_law, stored_pair_law}
use Rattle.alg_choices.proofs.Laws.{stored_law}
use Rattle.lat_insert.proofs.Additions.{more_maps}

module _ {L : Lattice} {E F : ℕ} (C : IsCompatible L) (A : AreFields L E F) where
  -- a candidate, whatever is prescribed
  pub plain : {sending : Option (List ℕ × List ℕ)} {v : List ℕ} → IsCandidate L E F sending v
      → IsCandidate L E F None v
  plain c = record { value = c.value; embedding = c.embedding; generator = c.generator; agrees = c.agrees; sent = tt }

  -- **a candidate is a root of the polynomial of E**
  pub candidate_root : {sending : Option (List ℕ × List ℕ)} {v : List ℕ}
      → IsCandidate L E F sending v
      → IsRoot (field_at L.rows F) (constants (field_at L.rows F) (field_at L.rows E).polynomial) v
  candidate_root {v = v} c =
      subst (IsRoot (field_at L.rows F) (constants (field_at L.rows F) (field_at L.rows E).polynomial)) c.generator
      (generator_image_root (field_at L.rows E) (field_at L.rows F) (field_finite L C.rows E A.source) (field_finite L C.rows F A.target)
      (embedding_by L E F v) c.embedding)

  module _ {sending : Option (List ℕ × List ℕ)} {v : List ℕ} (c : IsCandidate L E F sending v)
      {M : Lattice} (D : IsFilled L E F (embedding_by L E F v) M) where
    -- the insertion by it
    abbrev pub inserted : Inserted L E F (embedding_by L E F v) M.rows
    inserted = record {
      before = C.rows;
      compatible = C.compatible;
      source = A.source;
      target = A.target;
      candidate = to_candidate C.rows A.source A.target c;
      after = D.rows;
    }

    -- **the map by which a lattice is filled is stored**
    pub chosen_stored : Stored M E F (embedding_by L E F v)
    chosen_stored = subst (Stored M E F) same ((maps_after inserted D).0
        (into_stored (TheoryFilling.setting embedding_laws (to_theory L C.rows C.compatible) (lattice_decided L) (is_insertion inserted))
        (Theory.IsMapInto.through (C.compatible.identity E A.source))))
      where
        same : comp (field_at M.rows F) (identity_map (field_at L.rows E)) (embedding_by L E F v) ≡ embedding_by L E F v
        same = ap (λ K. comp K (identity_map (field_at L.rows E)) (embedding_by L E F v)) (target_row inserted)
            ∙ embedding_laws.identity_comp (to_candidate C.rows A.source A.target c).embedding

    -- **where the pair was not stored there are more maps afterwards**
    pub filled_more : get L.maps (E, F) ≡ None → len L.maps < len M.maps
    filled_more new = more_maps (filling_law L M E F sending v C A c D).1 chosen_stored new

  -- **where a map is stored, it fills the lattice as it is**
  pub stored_fills : {m : List (List ℕ)} → Stored L E F m
      → IsFilled L E F (embedding_by L E F (apply (field_at L.rows F) m (generator (field_at L.rows E)))) L
  stored_fills {m} s =
      let v = apply (field_at L.rows F) m (generator (field_at L.rows E)) in
      let c : IsCandidate L E F None v = (stored_law L E F None m C A s tt).candidate in
      let (M, D) = filling_exists_law L E F None v C A c in
      subst (λ N. IsFilled L E F (embedding_by L E F v) N) (stored_pair_law L M E F None v m C A c D s) D

  -- so no degree is missing
  pub stored_misses_none : {m : List (List ℕ)} → Stored L E F m → AreMissing L E F []
  stored_misses_none {m} s =
      let R = (stored_fills s).rows in
      subst (AreMissing L E F) (none R.degrees (omega (arith, R.count, ap length R.appended, length-append L.rows R.made))) R.missing
    where
      none : (ds : List ℕ) → length ds ≡ 0 → ds ≡ []
      none [] e = refl
      none (d ∷ ds) e = absurd (omega (arith, e))
