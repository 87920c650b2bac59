-- The opening lattice of an edition exists, and a lattice after a declaration.
use Rattle.std.proofs.Common.{◌≡◌, ◌⊎◌, ℕ, suc, ◌<◌, List, [], ◌∷◌, ◌++◌, length, map, refl, sym, ap, ◌∙◌, inl, inr, ⊎_elim, arith}
use Rattle.std.specs.List.{Contains}
use Rattle.std.proofs.lemmas.Bool.{cases_eq, cases_lt}
use Rattle.std.proofs.lemmas.Grind.{get_or_default_zero}
use Rattle.alg_model.specs.Maps.{identity_map}
use Rattle.alg_model.specs.Lattices.{Edition, Lattice, Row, field_at, prime_row, Stored, IsRow, IsRows, Compatible}
use Rattle.alg_model.specs.Declaring.{IsOpening, IsDeclared, IsStoredWith, prime_map}
use Rattle.alg_model.specs.Declaring.IsStoredWith.{kept, itself, of_prime}
use Rattle.alg_rings.proofs.Decisions.{both_or_not}
use Rattle.alg_compatible.proofs.Transfer.{lattice_decided, stored_one, primes_within, prime_row_at}
use Rattle.alg_compatible.proofs.Tables.{Pairs, pairs_map, pairs_map_has}

-- **an edition has an opening lattice**
pub opening_exists : (e : Edition) → (L : Lattice) × (L.edition ≡ e) × IsOpening L
opening_exists e = (
  record { edition = e; rows = rows; maps = pairs_map pairs },
  refl,
  record {
    rows = refl;
    maps = (λ h. (pairs_map_has pairs).0 h.found, λ h. record { found = (pairs_map_has pairs).1 h });
  },
)
  where
    rows : List Row
    rows = map prime_row e.primes

    IsIdentity : ℕ → ℕ → List (List ℕ) → Type 0
    IsIdentity i j m = (i ≡ j) × (j < length rows) × (m ≡ identity_map (field_at rows j))

    pairs : Pairs (length rows) IsIdentity
    pairs = record {
      decided = λ i j. ⊎_elim
          (λ (p, q). inl (identity_map (field_at rows j), (p, q, refl)))
          (λ none. inr (λ (m, (p, q, f)). none (p, q)))
          (both_or_not (cases_eq i j) (⊎_elim (λ h. inl h) (λ h. inr (λ k. omega arith)) (cases_lt j (length rows))));
      one = λ (p, q, f) (r, s, g). f ∙ sym g;
      within = λ (p, q, f). (omega arith, q);
    }

module _ {L : Lattice} (R : IsRows L.edition L.rows) (C : Compatible L) (row : Row) (q : ℕ)
    (below : q < length L.rows) where
  old : {i j : ℕ} {m : List (List ℕ)} → Stored L i j m → j ≡ length L.rows → ⊥
  old h e = let a = (C.within h).1 in omega arith

  with_one : {i j : ℕ} {m n : List (List ℕ)} → IsStoredWith L q row i j m
      → IsStoredWith L q row i j n → m ≡ n
  with_one (kept h) (kept k) = stored_one h k
  with_one (kept h) (itself e f g) = absurd (old h f)
  with_one (kept h) (of_prime e f g) = absurd (old h f)
  with_one (itself e f g) (kept k) = absurd (old k f)
  with_one (itself e f g) (itself b c d) = g ∙ sym d
  with_one (itself e f g) (of_prime b c d) = absurd (omega arith)
  with_one (of_prime e f g) (kept k) = absurd (old k f)
  with_one (of_prime e f g) (itself b c d) = absurd (omega arith)
  with_one (of_prime e f g) (of_prime b c d) = g ∙ sym d

  with_within : {i j : ℕ} {m : List (List ℕ)} → IsStoredWith L q row i j m
      → (i < suc (length L.rows)) × (j < suc (length L.rows))
  with_within (kept h) = let a = (C.within h).0 in let b = (C.within h).1 in (omega arith, omega arith)
  with_within (itself e f g) = (omega arith, omega arith)
  with_within (of_prime e f g) = (omega arith, omega arith)

  with_decided : (i j : ℕ)
      → ((m : List (List ℕ)) × IsStoredWith L q row i j m) ⊎ ¬ ((m : List (List ℕ)) × IsStoredWith L q row i j m)
  with_decided i j = ⊎_elim
      (λ (m, h). inl (m, kept h))
      (λ none. ⊎_elim
      (λ (e, f). inl (identity_map row.field, itself e f refl))
      (λ new. ⊎_elim
      (λ (e, f). inl (prime_map row.field, of_prime e f refl))
      (λ prime. inr (λ (m, h). neither (λ m h. none (m, h)) new prime m h))
      (both_or_not (cases_eq i q) (cases_eq j (length L.rows))))
      (both_or_not (cases_eq i (length L.rows)) (cases_eq j (length L.rows))))
      (lattice_decided L i j)
    where
      neither : ((m : List (List ℕ)) → Stored L i j m → ⊥)
          → ¬ ((i ≡ length L.rows) × (j ≡ length L.rows)) → ¬ ((i ≡ q) × (j ≡ length L.rows))
          → (m : List (List ℕ)) → IsStoredWith L q row i j m → ⊥
      neither a b c m (kept h) = a m h
      neither a b c m (itself e f g) = b (e, f)
      neither a b c m (of_prime e f g) = c (e, f)

  pub pairs_with : Pairs (suc (length L.rows)) (IsStoredWith L q row)
  pairs_with = record { decided = with_decided; one = λ h k. with_one h k; within = λ h. with_within h }

-- **a lattice has a lattice after a declaration**
pub declared_exists : {L : Lattice} → IsRows L.edition L.rows → Compatible L → (row : Row)
    → IsRow L.edition (length L.rows) row
    → (M : Lattice) × IsDeclared L row M
declared_exists {L} R C row new = of_place new.characteristic
  where
    of_place : Contains L.edition.primes row.field.characteristic
        → (M : Lattice) × IsDeclared L row M
    of_place (q, h, e) = (
      record { edition = L.edition; rows = L.rows ++ row ∷ []; maps = pairs_map pairs },
      record {
        edition = refl;
        rows = refl;
        prime = q;
        is_prime = h;
        same_characteristic = ap (λ r. r.field.characteristic) (prime_row_at L.edition.primes L.rows R.prime_fields q h)
            ∙ sym (get_or_default_zero L.edition.primes q row.field.characteristic h) ∙ e;
        maps = (λ s. (pairs_map_has pairs).0 s.found, λ s. record { found = (pairs_map_has pairs).1 s });
      },
    )
      where
        pairs : Pairs (suc (length L.rows)) (IsStoredWith L q row)
        pairs = pairs_with R C row q (let a = primes_within L.edition.primes L.rows R.prime_fields in omega arith)
