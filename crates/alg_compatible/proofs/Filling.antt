-- Filling a compatible lattice of finite fields by an embedding that agrees with its common
-- subfields leaves it compatible.
--     Inserted L E F phi rows     phi is a candidate in the compatible lattice L, and rows are those afterwards
use Rattle.std.proofs.Common.{◌≡◌, ◌↔◌, ℕ, ◌+◌, ◌-◌, ◌<◌, ◌≤◌, List, length, slice_index, slice_index_or, refl, sym, ap, ◌∙◌, subst, ⊎_elim, arith, length-append}
use Rattle.std.proofs.lemmas.Bool.{cases_lt}
use Rattle.std.proofs.lemmas.List.{get_or_append_left, get_or-append-add}
use Rattle.std.proofs.lemmas.List.Elements.{Contains-get_or}
use Rattle.std.proofs.Math.Seq.{take-append_seam}
use Prim.Native.Nat.{◌∣◌}
use Rattle.alg_model.specs.Coefficients.{residues, IsPrime}
use Rattle.alg_model.specs.Factors.{IsMonic, IsIrreducible}
use Rattle.alg_model.specs.Maps.{IsFiniteField, degree_of, constants}
use Rattle.alg_model.specs.Lattices.{Lattice, Compatible, Stored, field_at, IsRows, no_row, Row, Grows}
use Rattle.alg_model.specs.Candidates.{map_sending}
use Rattle.alg_model.specs.Filling.{IsFilled, AreRowsAfter, IsMadeRow}
use Rattle.alg_lattices.specs.Lattices as Theory
use Rattle.alg_lattices.specs.Filling.{IsCandidate, IsInsertion, filled}
use Rattle.alg_lattices.specs.Filling as TheoryFilling
use Rattle.alg_lattices.proofs.Filling.{filled_compatible}
use Rattle.alg_lattices.proofs.Rows.{compatible_same}
use Rattle.alg_lattices.proofs.MissingDegrees.{closure_divides_target}
use Rattle.alg_galois.proofs.EmbeddingRoots
use Rattle.alg_compatible.proofs.FiniteFields.{Embedded, finite_fields, embedding_laws}
use Rattle.alg_compatible.proofs.Transfer.{lattice_of, lattice_decided, to_theory, from_theory, field_finite}
use Rattle.alg_compatible.proofs.Insertions.{MadeMap, insertion_of, AreFields, to_closure, to_list, to_stored, from_stored}

-- a candidate in a compatible lattice, and the rows afterwards
pub record Inserted (L : Lattice) (E F : ℕ) (phi : List (List ℕ)) (rows : List Row) : Type 0 where
  pub before : IsRows L.edition L.rows
  pub compatible : Compatible L
  pub source : E < length L.rows
  pub target : F < length L.rows
  pub candidate : IsCandidate finite_fields (lattice_of L) E F phi
  pub after : AreRowsAfter L E F rows

-- a made row over a characteristic has a finite field
made_finite : {n p d : ℕ} {row : Row} → IsPrime p → IsMadeRow n p d row
    → IsFiniteField row.field
made_finite {row = row} h m = record {
  characteristic = subst IsPrime (sym m.characteristic) h;
  monic = subst (λ q. IsMonic (residues q) row.field.polynomial) (sym m.characteristic) m.polynomial.monic;
  irreducible = subst (λ q. IsIrreducible (residues q) row.field.polynomial) (sym m.characteristic) m.polynomial.irreducible;
}

module _ {L : Lattice} {E F : ℕ} {phi : List (List ℕ)} {rows : List Row}
    (H : Inserted L E F phi rows) where
  open H use {after as D}

  -- the fields of L keep their numbers
  pub old_row : (i : ℕ) → i < length L.rows → field_at rows i ≡ field_at L.rows i
  old_row i h = rw D.appended (ap (λ r. r.field) (get_or_append_left L.rows D.made no_row i h))

  -- an added row stands behind them
  pub made_row : (k : ℕ)
      → slice_index_or rows (length L.rows + k) no_row ≡ slice_index_or D.made k no_row
  made_row k = rw D.appended (get_or-append-add L.rows D.made k no_row)

  -- one row is added for each missing degree
  pub count_after : length rows ≡ length L.rows + length D.degrees
  count_after = ap length D.appended ∙ length-append L.rows D.made ∙ ap (λ n. length L.rows + n) D.count

  target_finite : IsFiniteField (field_at L.rows F)
  target_finite = field_finite L H.before F H.target

  -- an added field, by its place in the list of missing degrees
  pub record Place (i : ℕ) : Type 0 where
    pub place : ℕ
    pub number : i ≡ length L.rows + place
    pub below : place < length D.degrees

  -- each added field has a place
  pub place_of : (i : ℕ) → length L.rows ≤ i → i < length rows → Place i
  place_of i a b = record {
    place = i - length L.rows;
    number = omega arith;
    below = let e : length rows ≡ length L.rows + length D.degrees = count_after in omega arith;
  }

  -- and is the made row of that place
  pub made_at : {i : ℕ} (p : Place i)
      → IsMadeRow (length L.rows + p.place) (field_at L.rows F).characteristic (slice_index D.degrees p.place) (slice_index_or rows i no_row)
  made_at p = rw (p.number, made_row p.place) (D.made_rows p.place p.below)

  -- each row has a finite field
  pub finite_after : (i : ℕ) → i < length rows → IsFiniteField (field_at rows i)
  finite_after i b = ⊎_elim
      (λ h. rw (old_row i h) (field_finite L H.before i h))
      (λ h. made_finite target_finite.characteristic (made_at (place_of i h b)))
      (cases_lt i (length L.rows))

  -- the target is as before
  pub target_row : field_at rows F ≡ field_at L.rows F
  target_row = old_row F H.target

  target_below : F < length rows
  target_below =
      let e : length rows ≡ length L.rows + length D.degrees = count_after in
      let t : F < length L.rows = H.target in
      omega arith

  -- the degree of an added field divides that of the target
  pub made_divides : {i : ℕ} → Place i → degree_of (field_at rows i) ∣ degree_of (field_at rows F)
  made_divides {i} p = rw (target_row, (made_at p).polynomial.of_degree)
      (closure_divides_target embedding_laws (to_theory L H.before H.compatible) H.candidate
      (to_closure ((D.missing.exactly (slice_index D.degrees p.place)).0 (Contains-get_or D.degrees p.place 0 p.below)).in_closure))

  -- and its characteristic is that of the target
  pub made_characteristic : {i : ℕ} → Place i
      → (field_at rows i).characteristic ≡ (field_at rows F).characteristic
  made_characteristic p = (made_at p).characteristic ∙ sym (ap (λ K. K.characteristic) target_row)

  made_exists : (i : ℕ) → length L.rows ≤ i → i < length rows
      → (m : List (List ℕ)) × MadeMap L F rows i m
  made_exists i a b =
      let p = place_of i a b in
      let (v, r) = EmbeddingRoots.least_root_where_divides (field_at rows i) (field_at rows F) (finite_after i b) (finite_after F target_below)
      (made_characteristic p) (made_divides p) in
      (map_sending (field_at rows i) (field_at rows F) v, record { new = a; below = b; root = v; least = r; is_map = refl })

  made_one : {i : ℕ} {m n : List (List ℕ)} → MadeMap L F rows i m → MadeMap L F rows i n → m ≡ n
  made_one {i} h k =
      h.is_map
      ∙ ap (map_sending (field_at rows i) (field_at rows F))
      (EmbeddingRoots.least_root_unique (field_at rows F) (constants (field_at rows F) (field_at rows i).polynomial) h.root k.root h.least k.least)
      ∙ sym k.is_map

  made_embedding : {i : ℕ} {m : List (List ℕ)} → MadeMap L F rows i m
      → Embedded (field_at rows i) (field_at rows F) m
  made_embedding {i} h = record {
    source = finite_after i h.below;
    target = finite_after F target_below;
    embedding = rw h.is_map (EmbeddingRoots.embedding_of_root (field_at rows i) (field_at rows F) (finite_after i h.below) (finite_after F target_below)
        (made_characteristic (place_of i h.new h.below)) h.root h.least.root).0;
  }

  -- **the insertion is one of the theory**
  pub is_insertion : IsInsertion finite_fields (insertion_of L E F phi rows)
  is_insertion = record {
    source = H.source;
    target = H.target;
    candidate = H.candidate;
    rows = old_row;
    degrees = D.degrees;
    missing = to_list D.missing;
    count = count_after;
    added = λ k h.
        let e : length rows ≡ length L.rows + length D.degrees = count_after in
        (made_at (record { place = k; number = refl; below = h })).polynomial.of_degree;
    made = made_exists;
    made_within = λ h. (h.new, h.below);
    made_one = λ h k. made_one h k;
    made_embedding = λ h. made_embedding h;
  }

  -- its fields are finite fields
  pub fields : AreFields L rows
  fields = record {
    compatible = H.compatible;
    count = let e : length rows ≡ length L.rows + length D.degrees = count_after in omega arith;
    finite = finite_after;
  }

-- a lattice that is filled by a candidate
module _ {L : Lattice} {E F : ℕ} {phi : List (List ℕ)} {M : Lattice} (H : Inserted L E F phi M.rows)
    (D : IsFilled L E F phi M) where
  -- the maps of M are those that the theory has
  pub maps_after : {i k : ℕ} {m : List (List ℕ)}
      → (filled finite_fields (insertion_of L E F phi M.rows)).Has i k m ↔ Stored M i k m
  maps_after = (λ h. D.maps.1 (from_stored h), λ h. to_stored (fields H) (D.maps.0 h))

  -- **filling keeps a lattice compatible**
  pub filling_compatible : Compatible M
  filling_compatible = from_theory (subst (λ e. Theory.Compatible finite_fields (length e.primes) (lattice_of M)) (sym D.edition)
      (compatible_same (record { count = refl; rows = λ i h. refl; maps = maps_after })
      (filled_compatible embedding_laws (to_theory L H.before H.compatible) (lattice_decided L) (is_insertion H))))

  -- and the lattice grows
  pub filling_grows : Grows L M
  filling_grows = record {
    edition = D.edition;
    rows = rw D.rows.appended (take-append_seam L.rows D.rows.made);
    maps = λ h. D.maps.1 (from_stored (TheoryFilling.IsStoredAfter.before h));
  }
