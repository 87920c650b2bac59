-- A lattice of finite fields is compatible exactly if it is as a lattice of the theory.
use Rattle.std.proofs.Common.{◌≡◌, ◌⊎◌, ℕ, ◌<◌, ◌≤◌, List, length, take, map, get_or, slice_index_or, refl, sym, ap, ◌∙◌, inl, inr, ⊎_elim, arith, Option, Some, None, length-take, get_or-take}
use Rattle.std.proofs.lemmas.Bool.{cases_order}
use Rattle.std.proofs.lemmas.List.{get_or-map, length-map}
use Rattle.std.specs.FinMap.{get}
use Rattle.alg_model.specs.Maps.{Field, IsFiniteField, degree_of}
use Rattle.alg_model.specs.Lattices.{Lattice, Compatible, Stored, field_at, IsRows, no_row, Row, prime_row}
use Rattle.alg_lattices.specs.Lattices as Theory
use Rattle.alg_compatible.proofs.FiniteFields.{Embedded, finite_fields}

-- a lattice of finite fields in the theory
abbrev pub lattice_of : Lattice → Theory.Lattice Field (List (List ℕ))
lattice_of L = record { count = length L.rows; row = field_at L.rows; Has = Stored L }

-- it can be told whether a pair has a map
pub lattice_decided : (L : Lattice) → Theory.IsDecided (lattice_of L)
lattice_decided L i j = found (get L.maps (i, j)) refl
  where
    found : (r : Option (List (List ℕ))) → get L.maps (i, j) ≡ r
        → Theory.IsStoredPair (lattice_of L) i j ⊎ ¬ Theory.IsStoredPair (lattice_of L) i j
    found (Some m) e = inl (m, record { found = e })
    found None e = inr (λ (m, s). let f : get L.maps (i, j) ≡ Some m = s.found in cc)

-- a pair has at most one map
pub stored_one : {L : Lattice} {i j : ℕ} {m n : List (List ℕ)} → Stored L i j m → Stored L i j n
    → m ≡ n
stored_one {L} {i} {j} {m} {n} h k =
    let e : get L.maps (i, j) ≡ Some m = h.found in
    let f : get L.maps (i, j) ≡ Some n = k.found in
    cc

module _ (primes : List ℕ) (rows : List Row)
    (first : take (length primes) rows ≡ map prime_row primes) where
  pub primes_within : length primes ≤ length rows
  primes_within = omega (arith, length-take (length primes) rows, length-map primes prime_row, ap length first)

  -- the first rows are those of the prime fields
  pub prime_row_at : (i : ℕ) → i < length primes
      → slice_index_or rows i no_row ≡ prime_row (get_or primes i 0)
  prime_row_at i h =
      sym (get_or-take (length primes) rows i no_row h)
      ∙ ap (λ rs. get_or rs i no_row) first
      ∙ get_or-map prime_row primes i 0 no_row h

module _ (L : Lattice) (R : IsRows L.edition L.rows) where
  -- prime fields of one characteristic are one
  pub one_prime : {i j : ℕ} → i < length L.edition.primes → j < length L.edition.primes
      → (field_at L.rows i).characteristic ≡ (field_at L.rows j).characteristic → i ≡ j
  one_prime {i} {j} h k e = ⊎_elim (λ p. p)
      (λ c. ⊎_elim (λ l. absurd (R.of_edition.primes_differ i j 0 l k same)) (λ l. absurd (R.of_edition.primes_differ j i 0 l h (sym same))) c)
      (cases_order i j)
    where
      same : get_or L.edition.primes i 0 ≡ get_or L.edition.primes j 0
      same =
          sym (ap (λ r. r.field.characteristic) (prime_row_at L.edition.primes L.rows R.prime_fields i h))
          ∙ e
          ∙ ap (λ r. r.field.characteristic) (prime_row_at L.edition.primes L.rows R.prime_fields j k)

  -- so two prime fields have no embedding
  pub primes_apart : {i j : ℕ} {m : List (List ℕ)} → i < length L.edition.primes
      → j < length L.edition.primes
      → Embedded (field_at L.rows i) (field_at L.rows j) m → i ≡ j
  primes_apart h k e = one_prime h k e.embedding.same_characteristic

  -- each row is a finite field
  pub field_finite : (i : ℕ) → i < length L.rows → IsFiniteField (field_at L.rows i)
  field_finite i h = (R.row i h).field

  -- **a compatible lattice is compatible in the theory**
  pub to_theory : Compatible L
      → Theory.Compatible finite_fields (length L.edition.primes) (lattice_of L)
  to_theory C = record {
    within = λ h. C.within h;
    embedding = λ h. record { source = field_finite _ (C.within h).0; target = field_finite _ (C.within h).1; embedding = C.embedding h };
    one = λ h k. stored_one h k;
    identity = C.identity;
    prime_fields = primes_within L.edition.primes L.rows R.prime_fields;
    degree_one = λ i h. ap (λ r. degree_of r.field) (prime_row_at L.edition.primes L.rows R.prime_fields i h);
    only_degree_one = C.only_degree_one;
    primes_apart = λ {m = m} h k e. primes_apart {m = m} h k e;
    prime_subfield = C.prime_subfield;
    inverse = λ h e. C.inverse h e;
    transitive = λ h k. C.transitive h k;
    meet = λ h k. C.meet h k;
  }

-- **and the other way round**
pub from_theory : {L : Lattice}
    → Theory.Compatible finite_fields (length L.edition.primes) (lattice_of L) → Compatible L
from_theory C = record {
  within = λ h. C.within h;
  embedding = λ h. (C.embedding h).embedding;
  identity = C.identity;
  only_degree_one = C.only_degree_one;
  prime_subfield = C.prime_subfield;
  inverse = λ h e. C.inverse h e;
  transitive = λ h k. C.transitive h k;
  meet = λ h k. C.meet h k;
}
