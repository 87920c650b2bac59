-- The rows after an insertion or a declaration are rows of the edition, where there is room.
use Rattle.std.proofs.Common.{◌≡◌, ◌≢◌, ℕ, ◌^◌, ◌<◌, ◌≤◌, List, [], ◌∷◌, ◌++◌, length, get_or, slice_index, slice_index_or, decimal, sym, ap, ◌∙◌, subst, inr, ⊎_elim, arith, length-append, AllPairs}
use Rattle.std.proofs.lemmas.Bool.{cases_lt}
use Rattle.std.proofs.lemmas.List.{get_or_append_left, get_or_default, take-append-le}
use Rattle.std.proofs.lemmas.List.Quantifiers.{all_pairs_push}
use Rattle.std.proofs.Math.Seq.{get_or-append_seam}
use Rattle.std.proofs.lemmas.Fmt.{decimal_injective}
use Rattle.std.proofs.lemmas.Nat.Gcd.{le_of_dvd}
use Rattle.alg_model.specs.Maps.{degree_of}
use Rattle.alg_model.specs.Lattices.{Edition, Lattice, Row, no_row, field_at, IsRow, IsRows, made_name}
use Rattle.alg_model.specs.Declaring.{IsDeclared}
use Rattle.alg_galois.proofs.Meets.{degree_positive}
use Rattle.alg_compatible.proofs.Transfer.{primes_within, field_finite}
use Rattle.alg_compatible.proofs.Filling.{Inserted, place_of, made_at, target_row, made_divides, finite_after}

-- names that begin with `_` are those of their numbers, so a made row differs from all before it
names_apart : (edition : Edition) (i j : ℕ) (r s : Row) → i < j → j < 2 ^ 64 → IsRow edition i r
    → s.name ≡ made_name j → r.name ≢ s.name
names_apart edition i j r s l h R e f = ⊎_elim
    (λ n. n (ap (λ t. slice_index t 0) (f ∙ e)))
    (λ g. let k : i ≡ j = decimal_injective i j (omega arith) h (tails (sym g ∙ f ∙ e)) in omega arith)
    R.name
  where
    tails : made_name i ≡ made_name j → decimal i ≡ decimal j
    tails e = cc

module _ {L : Lattice} {E F : ℕ} {phi : List (List ℕ)} {rows : List Row}
    (H : Inserted L E F phi rows) where
  R : IsRows L.edition L.rows
  R = H.before

  same_row : (i : ℕ) → i < length L.rows
      → slice_index_or rows i no_row ≡ slice_index_or L.rows i no_row
  same_row i h = rw H.after.appended (get_or_append_left L.rows H.after.made no_row i h)

  row_after : (i : ℕ) → i < length rows → IsRow L.edition i (slice_index_or rows i no_row)
  row_after i b = ⊎_elim (λ h. rw (same_row i h) (R.row i h)) added (cases_lt i (length L.rows))
    where
      added : length L.rows ≤ i → IsRow L.edition i (slice_index_or rows i no_row)
      added a =
          let p = place_of H i a b in
          record {
            field = finite_after H i b;
            characteristic = rw (made_at H p).characteristic (R.row F H.target).characteristic;
            degree =
                let d : degree_of (field_at rows i) ≤ degree_of (field_at rows F) =
                le_of_dvd (degree_positive (field_at rows F) (rw (target_row H) (field_finite L R F H.target))) (made_divides H p) in
                let t : degree_of (field_at rows F) ≤ L.edition.top = rw (target_row H) (R.row F H.target).degree in
                omega arith;
            name = inr ((made_at H p).name ∙ ap made_name (sym p.number));
          }

  names_after : length rows < 2 ^ 64 → AllPairs (λ r s. r.name ≢ s.name) rows
  names_after small i j d l h = rw (get_or_default rows i d no_row (omega arith), get_or_default rows j d no_row h)
      (⊎_elim old added (cases_lt j (length L.rows)))
    where
      old : j < length L.rows
          → (slice_index_or rows i no_row).name ≢ (slice_index_or rows j no_row).name
      old k = rw (same_row i (omega arith), same_row j k) (R.names_differ i j no_row l k)

      added : length L.rows ≤ j
          → (slice_index_or rows i no_row).name ≢ (slice_index_or rows j no_row).name
      added a =
          let p = place_of H j a h in
          names_apart L.edition i j (slice_index_or rows i no_row) (slice_index_or rows j no_row) l (omega arith)
          (row_after i (omega arith)) ((made_at H p).name ∙ ap made_name (sym p.number))

  -- **the rows after an insertion are rows of the edition, where there is room**
  pub inserted_rows : length rows ≤ L.edition.room → IsRows L.edition rows
  inserted_rows room = record {
    of_edition = R.of_edition;
    prime_fields = rw H.after.appended
        (take-append-le (length L.edition.primes) L.rows H.after.made (primes_within L.edition.primes L.rows R.prime_fields) ∙ R.prime_fields);
    row = row_after;
    names_differ = names_after (let b : L.edition.room < 2 ^ 64 = R.of_edition.room in omega arith);
    room = room;
  }

module _ {L : Lattice} {row : Row} {M : Lattice} (R : IsRows L.edition L.rows)
    (D : IsDeclared L row M) (new : IsRow L.edition (length L.rows) row) where
  row_declared : (i : ℕ) → i < length M.rows → IsRow L.edition i (slice_index_or M.rows i no_row)
  row_declared i b = rw D.rows (⊎_elim
      (λ h. rw (get_or_append_left L.rows (row ∷ []) no_row i h) (R.row i h))
      (λ h. subst (λ n. IsRow L.edition n (get_or (L.rows ++ row ∷ []) n no_row)) (last h) (rw (get_or-append_seam L.rows row [] no_row) new))
      (cases_lt i (length L.rows)))
    where
      last : length L.rows ≤ i → length L.rows ≡ i
      last h = omega (arith, ap length D.rows, length-append L.rows (row ∷ []))

  -- **the rows after a declaration are rows of the edition, where there is room and the name is
  -- new**
  pub declared_rows :
      ((i : ℕ) → i < length L.rows → (slice_index_or L.rows i no_row).name ≢ row.name)
      → length L.rows < L.edition.room → IsRows M.edition M.rows
  declared_rows names room = subst (λ e. IsRows e M.rows) (sym D.edition) (record {
    of_edition = R.of_edition;
    prime_fields = rw D.rows
        (take-append-le (length L.edition.primes) L.rows (row ∷ []) (primes_within L.edition.primes L.rows R.prime_fields) ∙ R.prime_fields);
    row = row_declared;
    names_differ = rw D.rows (all_pairs_push (λ r s. r.name ≢ s.name) L.rows row R.names_differ
        (λ k d h. rw (get_or_default L.rows k d no_row h) (names k h)));
    room = let r : length L.rows < L.edition.room = room in omega (arith, ap length D.rows, length-append L.rows (row ∷ []));
  })
