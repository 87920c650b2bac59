-- A filled lattice is determined by the lattice before, the two fields and the map.
use Rattle.std.proofs.Common.{◌≡◌, ◌↔◌, ℕ, ◌+◌, ◌<◌, List, ◌++◌, length, map, get_or, slice_index, refl, sym, ap, ◌∙◌, subst, Option, Some, None, ext_get_or}
use Rattle.std.specs.FinMap.{get, same_map}
use Rattle.alg_model.specs.Maps.{identity_map}
use Rattle.alg_model.specs.Lattices.{Lattice, Row, IsRows, no_row, field_at, prime_row, Stored}
use Rattle.alg_model.specs.Declaring.{IsOpening, IsDeclared, IsStoredWith}
use Rattle.alg_model.specs.Filling.{IsMadeRow, AreRowsAfter, IsStoredAfter, IsFilled}
use Rattle.alg_galois.proofs.LeastIrreducible.{least_irreducible_unique}
use Rattle.alg_lattices.proofs.MissingDegrees.{missing_list_one}
use Rattle.alg_compatible.proofs.Tables.{pair_total, pair_antisymmetric}
use Rattle.alg_compatible.proofs.Transfer.{one_prime}
use Rattle.alg_compatible.proofs.Insertions.{to_list}

same_option : {A : Type 0} (o p : Option A) → ((a : A) → (o ≡ Some a) ↔ (p ≡ Some a)) → o ≡ p
same_option (Some a) p same = sym ((same a).0 refl)
same_option None (Some a) same = (same a).1 refl
same_option None None same = refl

-- lattices that store the same maps have equal maps
pub same_maps : (L M : Lattice) → ((i j : ℕ) (m : List (List ℕ)) → Stored L i j m ↔ Stored M i j m)
    → L.maps ≡ M.maps
same_maps L M same = same_map pair_total pair_antisymmetric L.maps M.maps
    (λ q. same_option (get L.maps q) (get M.maps q)
    (λ m. (λ e. ((same q.0 q.1 m).0 (record { found = e })).found, λ e. ((same q.0 q.1 m).1 (record { found = e })).found)))

-- made rows of one number, characteristic and degree are equal
made_row_one : {n p d : ℕ} (r s : Row) → IsMadeRow n p d r → IsMadeRow n p d s → r ≡ s
made_row_one {n} {p} {d} r s h k = λ i. record {
  name = (h.name ∙ sym k.name) i;
  field = record {
    characteristic = (h.characteristic ∙ sym k.characteristic) i;
    polynomial = least_irreducible_unique p d r.field.polynomial s.field.polynomial h.polynomial k.polynomial i;
  };
}

-- the rows afterwards are determined
pub rows_after_one : {L : Lattice} {E F : ℕ} (rs ss : List Row) → AreRowsAfter L E F rs
    → AreRowsAfter L E F ss → rs ≡ ss
rows_after_one {L} {E} {F} rs ss R S = R.appended ∙ ap (λ made. L.rows ++ made) made ∙ sym S.appended
  where
    degrees : R.degrees ≡ S.degrees
    degrees = missing_list_one R.degrees S.degrees (to_list R.missing) (to_list S.missing)

    count : length R.made ≡ length S.made
    count = R.count ∙ ap length degrees ∙ sym S.count

    at_place : (k : ℕ) → k < length R.made → get_or R.made k no_row ≡ get_or S.made k no_row
    at_place k h =
        let first : k < length R.degrees = subst (λ n. k < n) R.count h in
        let second : k < length S.degrees = subst (λ ds. k < length ds) degrees first in
        made_row_one (get_or R.made k no_row) (get_or S.made k no_row) (R.made_rows k first)
        (subst (λ ds. IsMadeRow (length L.rows + k) (field_at L.rows F).characteristic (slice_index ds k) (get_or S.made k no_row)) (sym degrees)
        (S.made_rows k second))

    made : R.made ≡ S.made
    made = ext_get_or no_row R.made S.made count at_place

-- **a filled lattice is determined**
pub filled_one : {L : Lattice} {E F : ℕ} {phi : List (List ℕ)} (M N : Lattice)
    → IsFilled L E F phi M → IsFilled L E F phi N → M ≡ N
filled_one {L} {E} {F} {phi} M N P Q = λ i. record { edition = (P.edition ∙ sym Q.edition) i; rows = rows i; maps = maps i }
  where
    rows : M.rows ≡ N.rows
    rows = rows_after_one M.rows N.rows P.rows Q.rows

    there : {i k : ℕ} {m : List (List ℕ)} → IsStoredAfter L E F phi M.rows i k m
        → IsStoredAfter L E F phi N.rows i k m
    there {i} {k} {m} h = subst (λ rs. IsStoredAfter L E F phi rs i k m) rows h

    back : {i k : ℕ} {m : List (List ℕ)} → IsStoredAfter L E F phi N.rows i k m
        → IsStoredAfter L E F phi M.rows i k m
    back {i} {k} {m} h = subst (λ rs. IsStoredAfter L E F phi rs i k m) (sym rows) h

    maps : M.maps ≡ N.maps
    maps = same_maps M N (λ i k m. (λ h. Q.maps.1 (there (P.maps.0 h)), λ h. P.maps.1 (back (Q.maps.0 h))))

-- **the opening lattice of an edition is determined**
pub opening_one : (L M : Lattice) → L.edition ≡ M.edition → IsOpening L → IsOpening M → L ≡ M
opening_one L M e P Q = λ i. record { edition = e i; rows = rows i; maps = maps i }
  where
    rows : L.rows ≡ M.rows
    rows = P.rows ∙ ap (λ x. map prime_row x.primes) e ∙ sym Q.rows

    maps : L.maps ≡ M.maps
    maps = same_maps L M (λ i j m. (
      λ h. Q.maps.1 (subst (λ rs. (i ≡ j) × (j < length rs) × (m ≡ identity_map (field_at rs j))) rows (P.maps.0 h)),
      λ h. P.maps.1 (subst (λ rs. (i ≡ j) × (j < length rs) × (m ≡ identity_map (field_at rs j))) (sym rows) (Q.maps.0 h)),
    ))

-- **a lattice after a declaration is determined**
pub declared_one : {L : Lattice} {row : Row} → IsRows L.edition L.rows → (M N : Lattice)
    → IsDeclared L row M → IsDeclared L row N → M ≡ N
declared_one {L} {row} R M N P Q = λ i. record { edition = (P.edition ∙ sym Q.edition) i; rows = (P.rows ∙ sym Q.rows) i; maps = maps i }
  where
    prime : P.prime ≡ Q.prime
    prime = one_prime L R P.is_prime Q.is_prime (P.same_characteristic ∙ sym Q.same_characteristic)

    maps : M.maps ≡ N.maps
    maps = same_maps M N (λ i j m. (
      λ h. Q.maps.1 (subst (λ q. IsStoredWith L q row i j m) prime (P.maps.0 h)),
      λ h. P.maps.1 (subst (λ q. IsStoredWith L q row i j m) (sym prime) (Q.maps.0 h)),
    ))
