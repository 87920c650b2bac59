-- Filling has a result: a lattice with a row for each missing degree, and the maps that are stored.
use Rattle.std.proofs.Common.{◌≡◌, ℕ, zero, suc, ◌+◌, ◌<◌, List, [], ◌∷◌, ◌++◌, length, slice_index, slice_index_or, refl, ap, subst, arith}
use Rattle.std.proofs.lemmas.List.Elements.{Contains-get_or}
use Rattle.std.proofs.Math.Nat.{pos_of_dvd_of_pos}
use Rattle.alg_model.specs.Coefficients.{IsPrime}
use Rattle.alg_model.specs.Maps.{IsFiniteField}
use Rattle.alg_model.specs.Lattices.{Lattice, Row, no_row, field_at, made_name, IsRows, Compatible}
use Rattle.alg_model.specs.Candidates.{AreMissing}
use Rattle.alg_model.specs.Filling.{IsMadeRow, AreRowsAfter, IsFilled}
use Rattle.alg_lattices.specs.Filling as Theory
use Rattle.alg_lattices.proofs.ForcedMaps.{Setting}
use Rattle.alg_lattices.proofs.StoredMaps
use Rattle.alg_lattices.proofs.Filling.{setting}
use Rattle.alg_lattices.proofs.MissingDegrees.{missing_list, closure_divides_target}
use Rattle.alg_lattices.proofs.Decided.{filled_decided}
use Rattle.alg_galois.proofs.Meets.{degree_positive}
use Rattle.alg_galois.proofs.LeastIrreducible.{least_irreducible_exists}
use Rattle.alg_compatible.proofs.FiniteFields.{finite_fields, embedding_laws, frobenius_laws}
use Rattle.alg_compatible.proofs.Transfer.{lattice_of, lattice_decided, to_theory, field_finite}
use Rattle.alg_compatible.proofs.Insertions.{insertion_of, to_stored, from_stored, from_list, to_closure}
use Rattle.alg_compatible.proofs.Filling.{Inserted, is_insertion, fields}
use Rattle.alg_compatible.proofs.Tables.{Pairs, pairs_map, pairs_map_has}

-- made rows from number n on, of the degrees ds
pub record MadeRows (n p : ℕ) (ds : List ℕ) : Type 0 where
  pub rows : List Row
  pub count : length rows ≡ length ds
  pub made : (k : ℕ) → k < length ds
      → IsMadeRow (n + k) p (slice_index ds k) (slice_index_or rows k no_row)

one_more : {n p d : ℕ} {ds : List ℕ} (row : Row) → IsMadeRow n p d row → MadeRows (suc n) p ds
    → MadeRows n p (d ∷ ds)
one_more {n} {p} {d} {ds} row first rest = record { rows = row ∷ rest.rows; count = ap suc rest.count; made = made }
  where
    made : (k : ℕ) → k < length (d ∷ ds)
        → IsMadeRow (n + k) p (slice_index (d ∷ ds) k) (slice_index_or (row ∷ rest.rows) k no_row)
    made zero l = subst (λ z. IsMadeRow z p d row) (omega arith) first
    made (suc k) l = subst (λ z. IsMadeRow z p (slice_index ds k) (slice_index_or rest.rows k no_row)) (omega arith) (rest.made k (omega arith))

made_rows : (n p : ℕ) → IsPrime p → (ds : List ℕ)
    → ((k : ℕ) → k < length ds → 0 < slice_index ds k) → MadeRows n p ds
made_rows n p h [] positive = record { rows = []; count = refl; made = λ k l. absurd (omega arith) }
made_rows n p h (d ∷ ds) positive =
    let (f, least) = least_irreducible_exists p d h (positive 0 (omega arith)) in
    one_more (record { name = made_name n; field = record { characteristic = p; polynomial = f } })
    (record { name = refl; characteristic = refl; polynomial = least })
    (made_rows (suc n) p h ds (λ k l. positive (suc k) (omega arith)))

module _ {L : Lattice} {E F : ℕ} {phi : List (List ℕ)} {rows : List Row}
    (H : Inserted L E F phi rows) where
  S : Setting finite_fields (length L.edition.primes) (insertion_of L E F phi rows)
  S = setting embedding_laws (to_theory L H.before H.compatible) (lattice_decided L) (is_insertion H)

  pairs : Pairs (length rows)
      (λ i k m. Theory.IsStoredAfter finite_fields (insertion_of L E F phi rows) i k m)
  pairs = record {
    decided = filled_decided S;
    one = λ h k. StoredMaps.stored_one S h k;
    within = λ h. StoredMaps.stored_within S h;
  }

  -- **a filled lattice exists**
  pub lattice_filled : (M : Lattice) × IsFilled L E F phi M
  lattice_filled = (
    record { edition = L.edition; rows = rows; maps = pairs_map pairs },
    record {
      edition = refl;
      rows = H.after;
      maps = (λ h. from_stored ((pairs_map_has pairs).0 h.found), λ h. record { found = (pairs_map_has pairs).1 (to_stored (fields H) h) });
    },
  )

-- **rows for the missing degrees exist**
pub rows_exist : {L : Lattice} → IsRows L.edition L.rows → Compatible L → (E F : ℕ)
    → F < length L.rows → (phi : List (List ℕ))
    → Theory.IsCandidate finite_fields (lattice_of L) E F phi
    → (rows : List Row) × AreRowsAfter L E F rows
rows_exist {L} R C E F t phi c =
    let (ds, a) =
    missing_list embedding_laws frobenius_laws (to_theory L R C) (lattice_decided L) E F in
    let r = added ds (from_list a) in (
      L.rows ++ r.rows,
      record {
        degrees = ds;
        missing = from_list a;
        made = r.rows;
        appended = refl;
        count = r.count;
        made_rows = r.made;
      },
    )
  where
    finite : IsFiniteField (field_at L.rows F)
    finite = field_finite L R F t

    added : (ds : List ℕ) → AreMissing L E F ds
        → MadeRows (length L.rows) (field_at L.rows F).characteristic ds
    added ds a = made_rows (length L.rows) (field_at L.rows F).characteristic finite.characteristic ds
        (λ k h. pos_of_dvd_of_pos
        (closure_divides_target embedding_laws (to_theory L R C) c (to_closure ((a.exactly (slice_index ds k)).0 (Contains-get_or ds k 0 h)).in_closure))
        (degree_positive (field_at L.rows F) finite))
