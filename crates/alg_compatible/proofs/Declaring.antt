-- The opening lattice of an edition is compatible, and a declared field leaves a lattice
-- compatible.
use Rattle.std.proofs.Common.{◌≡◌, ◌≢◌, ℕ, suc, ◌<◌, List, [], ◌∷◌, length, refl, sym, ap, ◌∙◌, subst, arith, length-append}
use Rattle.std.proofs.lemmas.List.{get_or_append_left, length-map}
use Rattle.std.proofs.Math.Seq.{take-append_seam, get_or-append_seam}
use Rattle.alg_model.specs.Maps.{Field, IsFiniteField, degree_of, identity_map}
use Rattle.alg_model.specs.Lattices.{Lattice, Compatible, Stored, field_at, IsRows, Grows, Row, no_row, prime_row}
use Rattle.alg_model.specs.Declaring.{IsOpening, IsDeclared, IsStoredWith, prime_map}
use Rattle.alg_model.specs.Declaring.IsStoredWith.{kept, itself, of_prime}
use Rattle.alg_lattices.specs.Lattices as Theory
use Rattle.alg_lattices.specs.Declaring as TheoryDeclaring
use Rattle.alg_lattices.proofs.Opening.{opening_compatible}
use Rattle.alg_lattices.proofs.Declaring.{declared_compatible}
use Rattle.alg_lattices.proofs.Rows.{compatible_same}
use Rattle.alg_galois.proofs.EmbeddingRoots
use Rattle.alg_compatible.proofs.FiniteFields.{finite_fields, embedding_laws}
use Rattle.alg_compatible.proofs.Transfer.{lattice_of, to_theory, from_theory, field_finite, primes_apart, prime_row_at}

-- **the opening lattice is compatible**
pub opening_is_compatible : {L : Lattice} → IsRows L.edition L.rows → IsOpening L → Compatible L
opening_is_compatible {L} R O = from_theory (compatible_same
    (record { count = count; rows = λ i h. refl; maps = (λ (e, h, f). O.maps.1 (e, below h, f), λ h. down (O.maps.0 h)) })
    (opening_compatible embedding_laws fields))
  where
    count : length L.edition.primes ≡ length L.rows
    count = sym (length-map L.edition.primes prime_row) ∙ ap length (sym O.rows)

    below : {i : ℕ} → i < length L.edition.primes → i < length L.rows
    below {i} h = subst (λ n. i < n) count h

    down : {i j : ℕ} {m : List (List ℕ)}
        → (i ≡ j) × (j < length L.rows) × (m ≡ identity_map (field_at L.rows j))
        → (i ≡ j) × (j < length L.edition.primes) × (m ≡ identity_map (field_at L.rows j))
    down {j = j} (e, h, f) = (e, subst (λ n. j < n) (sym count) h, f)

    fields : TheoryDeclaring.ArePrimeFields finite_fields (length L.edition.primes)
        (field_at L.rows)
    fields = record {
      field = λ i h. field_finite L R i (below h);
      degree = λ i h. ap (λ r. degree_of r.field) (prime_row_at L.edition.primes L.rows R.prime_fields i h);
      apart = λ {m = m} h k e. primes_apart L R {m = m} h k e;
    }

-- a field is declared in a compatible lattice
pub record Declares (L : Lattice) (row : Row) (M : Lattice) : Type 0 where
  pub rows : IsRows L.edition L.rows
  pub compatible : Compatible L
  pub finite : IsFiniteField row.field
  pub degree : degree_of row.field ≢ 1
  pub is_declared : IsDeclared L row M

module _ {L : Lattice} {row : Row} {M : Lattice} (H : Declares L row M) where
  open H use {is_declared as D}

  old_row : (i : ℕ) → i < length L.rows → field_at M.rows i ≡ field_at L.rows i
  old_row i h = rw D.rows (ap (λ r. r.field) (get_or_append_left L.rows (row ∷ []) no_row i h))

  new_row : field_at M.rows (length L.rows) ≡ row.field
  new_row = rw D.rows (ap (λ r. r.field) (get_or-append_seam L.rows row [] no_row))

  abbrev W : TheoryDeclaring.Declaration Field (List (List ℕ))
  W = record { old = lattice_of L; row = field_at M.rows; prime = D.prime; map = prime_map row.field }

  prime_below : D.prime < length L.rows
  prime_below = let a = D.is_prime in let b = (to_theory L H.rows H.compatible).prime_fields in omega arith

  prime_degree : degree_of (field_at L.rows D.prime) ≡ 1
  prime_degree = (to_theory L H.rows H.compatible).degree_one D.prime D.is_prime

  is_declaration : TheoryDeclaring.IsDeclaration finite_fields (length L.edition.primes) W
  is_declaration = record {
    rows = old_row;
    field = rw new_row H.finite;
    degree = λ e. H.degree (ap degree_of (sym new_row) ∙ e);
    prime = D.is_prime;
    embedding = rw (old_row D.prime prime_below, new_row) (record {
      source = field_finite L H.rows D.prime prime_below;
      target = H.finite;
      embedding = EmbeddingRoots.embedding_of_prime_field (field_at L.rows D.prime) row.field (field_finite L H.rows D.prime prime_below) H.finite
          D.same_characteristic prime_degree;
    });
  }

  to_maps : {i j : ℕ} {m : List (List ℕ)} → TheoryDeclaring.IsStoredWith finite_fields W i j m
      → Stored M i j m
  to_maps (TheoryDeclaring.IsStoredWith.kept h) = D.maps.1 (kept h)
  to_maps (TheoryDeclaring.IsStoredWith.itself e f g) = D.maps.1 (itself e f (g ∙ ap identity_map new_row))
  to_maps (TheoryDeclaring.IsStoredWith.of_prime e f g) = D.maps.1 (of_prime e f g)

  of_maps : {i j : ℕ} {m : List (List ℕ)} → IsStoredWith L D.prime row i j m
      → TheoryDeclaring.IsStoredWith finite_fields W i j m
  of_maps (kept h) = TheoryDeclaring.IsStoredWith.kept h
  of_maps (itself e f g) = TheoryDeclaring.IsStoredWith.itself e f (g ∙ ap identity_map (sym new_row))
  of_maps (of_prime e f g) = TheoryDeclaring.IsStoredWith.of_prime e f g

  count_after : suc (length L.rows) ≡ length M.rows
  count_after = omega (arith, ap length D.rows, length-append L.rows (row ∷ []))

  -- **a declaration keeps a lattice compatible**
  pub declaring_compatible : Compatible M
  declaring_compatible = from_theory (subst (λ e. Theory.Compatible finite_fields (length e.primes) (lattice_of M)) (sym D.edition)
      (compatible_same (record { count = count_after; rows = λ i h. refl; maps = (λ h. to_maps h, λ h. of_maps (D.maps.0 h)) })
      (declared_compatible embedding_laws (to_theory L H.rows H.compatible) is_declaration)))

  -- and the lattice grows
  pub declaring_grows : Grows L M
  declaring_grows = record {
    edition = D.edition;
    rows = rw D.rows (take-append_seam L.rows (row ∷ []));
    maps = λ h. D.maps.1 (kept h);
  }
