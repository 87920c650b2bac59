-- The rows of a content whose polynomials are irreducible are those of a lattice of the first
-- edition.
use Rattle.std.proofs.Common.{◌≡◌, ◌≢◌, ℕ, ◌^◌, ◌<◌, ◌≤◌, List, [], ◌∷◌, length, get_or, take, map, decimal, sym, ap, ◌∙◌, subst, inl, inr, ⊎_elim, arith, get_or-take}
use Rattle.std.specs.Prelude.{◌⊎◌, All, slice_index, slice_index_or}
use Rattle.std.proofs.lemmas.Fmt.{decimal_injective}
use Rattle.std.proofs.lemmas.List.{ext_get_or, get_or_default, get_or-map, length-map, length-take-le}
use Rattle.alg_model.specs.Maps.{IsFiniteField, degree_of}
use Rattle.alg_model.specs.Lattices.{first_edition, Row, IsRows, IsEdition, prime_row, made_name, no_row, field_at}
use Rattle.alg_compatible.proofs.Beginnings.{opening_exists}
use Rattle.alg_compatible.proofs.Editions.{first_is_edition, opening_rows}
use Rattle.lat_core.specs.Names.{IsDeclaredName, IsFieldName}
use Rattle.lat_audit.specs.Readings.{Content, IsNewName}
use Rattle.lat_audit.specs.PrivateContents.{IsContent}
use Rattle.lat_audit.proofs.ReadRows.{prime_declared, characteristic_small}
use Rattle.lat_audit.proofs.ContentFields.{next_row, are_polys}
use Rattle.lat_audit.proofs.SomeReading.{poly_at}

-- ---- names
letter_first : (name : List ℕ) → IsDeclaredName name → slice_index name 0 ≢ 95
letter_first [] h e = absurd h
letter_first (b ∷ bs) (inl r, h, k) e = omega (arith, r, e)
letter_first (b ∷ bs) (inr r, h, k) e = omega (arith, r, e)

made_once : (m n : ℕ) → m < 2 ^ 64 → n < 2 ^ 64 → made_name m ≡ made_name n → m ≡ n
made_once m n l k e = decimal_injective m n l k (tails e) where
  tails : made_name m ≡ made_name n → decimal m ≡ decimal n
  tails e = cc

-- ---- prime fields
prime_rows : IsRows first_edition (map prime_row first_edition.primes)
prime_rows =
    let (L, first, opening) = opening_exists first_edition in
    let rows : IsRows L.edition L.rows = opening_rows (subst IsEdition (sym first) first_is_edition) opening in
    subst (λ e. IsRows e (map prime_row e.primes)) first (subst (IsRows L.edition) opening.rows rows)

prime_at : (i : ℕ) → i < length first_edition.primes
    → get_or (map prime_row first_edition.primes) i no_row ≡ prime_row (slice_index first_edition.primes i)
prime_at i l = get_or-map prime_row first_edition.primes i 0 no_row l

primes_counted : length (map prime_row first_edition.primes) ≡ length first_edition.primes
primes_counted = length-map first_edition.primes prime_row

-- ---- the rows of a content
module _ (c : Content) (is : IsContent c) where
  abbrev row : ℕ → Row
  row i = slice_index_or c.rows i no_row

  before : (i : ℕ) → i < length c.rows → length (take i c.rows) ≡ i
  before i l = length-take-le i c.rows (omega (arith, l))

  -- a prime field at the first places, and behind them another one
  record IsNew (i : ℕ) : Type 0 where
    behind : length first_edition.primes ≤ i
    name : IsNewName (take i c.rows) (row i).name
    degree : 2 ≤ degree_of (row i).field

  IsAt : ℕ → Type 0
  IsAt i = ((i < length first_edition.primes) × (row i ≡ prime_row (slice_index first_edition.primes i))) ⊎ IsNew i

  which : (i : ℕ) → i < length c.rows → IsAt i
  unfolding IsAt
  which i l = ⊎_elim
      (λ (few, e).
      let at : length (take i c.rows) ≡ i = before i l in
      inl (omega (arith, at, few), e ∙ ap (λ k. prime_row (slice_index first_edition.primes k)) at))
      (λ (many, new).
      let at : length (take i c.rows) ≡ i = before i l in
      inr (record { behind = omega (arith, at, many); name = new.0; degree = new.1.in_range.0 }))
      (next_row c is i l)

  -- the name of an added field is its own
  own_name : (i : ℕ) → i < length c.rows
      → ((slice_index (row i).name 0 ≢ 95) ⊎ ((row i).name ≡ made_name i))
  unfolding IsAt
  own_name i l = ⊎_elim
      (λ (few, e). inl (λ f.
      let same : ◌≡◌ {A = ℕ} 95 70 = sym f ∙ ap (λ (r : Row). slice_index r.name 0) e in omega (arith, same)))
      (λ new. ⊎_elim
      (λ (declared, free). inl (letter_first (row i).name declared))
      (λ made. inr (made ∙ ap made_name (before i l)))
      new.name)
      (which i l)

  -- behind the prime fields no field has degree one
  pub primes_alone : (i : ℕ) → i < length c.rows → degree_of (field_at c.rows i) ≡ 1
      → i < length first_edition.primes
  unfolding IsAt
  primes_alone i l one = ⊎_elim
      (λ (few, e). few)
      (λ new. let high = new.degree in absurd (omega (arith, high, one)))
      (which i l)

  -- **names are those of fields**
  pub are_names : All (λ (r : Row). IsFieldName r.name) c.rows
  unfolding IsAt
  are_names k d l = subst (λ (r : Row). IsFieldName r.name) (get_or_default c.rows k no_row d l) (⊎_elim
      (λ (few, e).
      let p = slice_index first_edition.primes k in
      let small : p < 32 = subst (λ (r : Row). r.field.characteristic < 32) e
      (characteristic_small (field_at c.rows k).characteristic (poly_at c.rows (are_polys c is) k l).characteristic) in
      subst (λ (r : Row). IsFieldName r.name) (sym e)
      (inl (prime_declared p (first_is_edition.are_prime k 0 few).above_one (omega (arith, small)))))
      (λ new. ⊎_elim
      (λ (declared, free). inl declared)
      (λ made.
      let at : length (take k c.rows) ≡ k = before k l in
      let room : length c.rows ≤ 200 = is.few in
      inr (k, omega (arith, l, room), made ∙ ap made_name at))
      new.name)
      (which k l))

  -- **and differ**
  differ : (i j : ℕ) → i < j → j < length c.rows → (row i).name ≢ (row j).name
  unfolding IsAt
  differ i j l m same = ⊎_elim
      (λ (few, e). among_primes few e)
      (λ new. ⊎_elim
      (λ (declared, free).
      free i no_row (let at = before j m in omega (arith, at, l))
      (ap (λ (r : Row). r.name) (get_or-take j c.rows i no_row l) ∙ same))
      (λ made. from_made (made ∙ ap made_name (before j m)))
      new.name)
      (which j m)
    where
      inside : i < length c.rows
      inside = omega (arith, l, m)

      from_made : (row j).name ≡ made_name j → ⊥
      from_made made = ⊎_elim
          (λ first. first (ap (λ t. slice_index t 0) (same ∙ made)))
          (λ own.
          let room : length c.rows ≤ 200 = is.few in
          let once : i ≡ j
          = made_once i j (omega (arith, inside, room)) (omega (arith, m, room)) (sym own ∙ same ∙ made) in
          omega (arith, once, l))
          (own_name i inside)

      among_primes : j < length first_edition.primes
          → row j ≡ prime_row (slice_index first_edition.primes j) → ⊥
      among_primes few e = ⊎_elim
          (λ (low, f). prime_rows.names_differ i j no_row l (let k = primes_counted in omega (arith, k, few))
          (ap (λ (r : Row). r.name) (prime_at i low ∙ sym f) ∙ same
          ∙ ap (λ (r : Row). r.name) (e ∙ sym (prime_at j few))))
          (λ new. let behind = new.behind in omega (arith, behind, l, few))
          (which i inside)

  -- the prime fields stand first
  primes_first : take (length first_edition.primes) c.rows ≡ map prime_row first_edition.primes
  unfolding IsAt
  primes_first = ext_get_or no_row (take (length first_edition.primes) c.rows) (map prime_row first_edition.primes)
      (length-take-le (length first_edition.primes) c.rows is.enough ∙ sym primes_counted)
      (λ i l.
      let count : length (take (length first_edition.primes) c.rows) ≡ length first_edition.primes
      = length-take-le (length first_edition.primes) c.rows is.enough in
      let few : i < length first_edition.primes = omega (arith, count, l) in
      let enough = is.enough in
      let inside : i < length c.rows = omega (arith, few, enough) in
      get_or-take (length first_edition.primes) c.rows i no_row few ∙ ⊎_elim
      (λ (low, e). e ∙ sym (prime_at i few))
      (λ new. let behind = new.behind in absurd (omega (arith, behind, few)))
      (which i inside))

  -- **rows of the first edition, where they are finite fields**
  pub first_rows : ((i : ℕ) → i < length c.rows → IsFiniteField (field_at c.rows i))
      → IsRows first_edition c.rows
  first_rows finite = record {
    of_edition = first_is_edition;
    prime_fields = primes_first;
    row = λ i l.
        let poly = poly_at c.rows (are_polys c is) i l in
        record {
          field = finite i l;
          characteristic = poly.characteristic;
          degree = poly.degree.1;
          name = own_name i l;
        };
    names_differ = λ i j d l m same. differ i j l m
        (ap (λ (r : Row). r.name) (get_or_default c.rows i no_row d (omega (arith, l, m)))
        ∙ same ∙ ap (λ (r : Row). r.name) (get_or_default c.rows j d no_row m));
    room = is.few;
  }
