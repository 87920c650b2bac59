-- The rows of a lattice of the first edition: each may stand behind those before it in a dump.
use Rattle.std.proofs.Common.{◌≡◌, ◌≢◌, ℕ, ◌<◌, ◌≤◌, List, ◌∷◌, ◌++◌, length, get_or, take, sym, ap, ◌∙◌, subst, inl, inr, ⊎_elim, arith, get_or-take, length-take}
use Rattle.std.specs.Prelude.{◌⊎◌, All, slice_index, slice_index_or}
use Rattle.std.proofs.lemmas.List.{get_or-map}
use Rattle.std.proofs.lemmas.Bool.{cases_lt, cases_eq}
use Rattle.alg_model.specs.Maps.{degree_of}
use Rattle.alg_model.specs.Lattices.{first_edition, Row, Lattice, IsRow, IsRows, prime_row, made_name, no_row, field_at}
use Rattle.lat_core.specs.Names.{IsFieldName}
use Rattle.lat_audit.specs.Readings.{IsNewName, IsNewRow, IsNextRow}
use Rattle.lat_audit.specs.Verdicts.{IsDumped}
use Rattle.lat_audit.proofs.SplitLists.{split_within, split_at, split_pairs}

-- ---- names
-- a name of a field that isn't that of an earlier one
new_name : (rows : List Row) (name : List ℕ) → IsFieldName name
    → (slice_index name 0 ≢ 95) ⊎ (name ≡ made_name (length rows))
    → All (λ (r : Row). r.name ≢ name) rows → IsNewName rows name
new_name rows name (inl declared) own other = inl (declared, other)
new_name rows name (inr made) (inr own) other = inr own
new_name rows name (inr (n, l, e)) (inl first) other = absurd (first (ap (λ t. slice_index t 0) e))

-- ---- rows
pub rows_of_first : (L : Lattice) → IsDumped L → IsRows first_edition L.rows
rows_of_first L D = subst (λ e. IsRows e L.rows) D.edition D.compatible.rows

-- the prime fields are there
pub enough_rows : (L : Lattice) → IsDumped L → length first_edition.primes ≤ length L.rows
enough_rows L D =
    let all : length (take 11 L.rows) ≡ 11 = ap length (rows_of_first L D).prime_fields in
    omega (arith, all, length-take 11 L.rows)

module _ (L : Lattice) (D : IsDumped L) (before behind : List Row) (row : Row)
    (is : L.rows ≡ before ++ row ∷ behind) where
  R : IsRows first_edition L.rows
  R = rows_of_first L D

  -- the row by its number
  at : slice_index_or L.rows (length before) no_row ≡ row
  at = split_at L.rows before behind row is no_row

  within : length before < length L.rows
  within = split_within L.rows before behind row is

  own : IsRow first_edition (length before) row
  own = subst (IsRow first_edition (length before)) at (R.row (length before) within)

  named : IsFieldName row.name
  named = subst (λ (r : Row). IsFieldName r.name) at (D.names (length before) no_row within)

  prime : length before < length first_edition.primes
      → row ≡ prime_row (slice_index first_edition.primes (length before))
  prime few = sym at ∙ sym (get_or-take (length first_edition.primes) L.rows (length before) no_row few)
      ∙ ap (λ rs. get_or rs (length before) no_row) R.prime_fields
      ∙ get_or-map prime_row first_edition.primes (length before) 0 no_row few

  -- behind the prime fields no field has degree one
  above_one : length first_edition.primes ≤ length before → 2 ≤ degree_of row.field
  above_one many =
      let more : 1 < length row.field.polynomial = own.field.irreducible.not_constant in
      ⊎_elim
      (λ one. let same : degree_of (field_at L.rows (length before)) ≡ 1
      = ap (λ (r : Row). degree_of r.field) at ∙ one in
      let few : length before < length L.edition.primes
      = D.compatible.compatible.only_degree_one (length before) within same in
      let primes : length L.edition.primes ≡ length first_edition.primes = ap (λ e. length e.primes) D.edition in
      absurd (omega (arith, few, primes, many)))
      (λ other. omega (arith, more, other))
      (cases_eq (degree_of row.field) 1)

  new_row : length first_edition.primes ≤ length before → IsNewRow before row
  new_row many = (
    new_name before row.name named own.name
        (split_pairs L.rows before behind row is (λ r s. r.name ≢ s.name) R.names_differ),
    record {
      characteristic = own.characteristic;
      in_range = (above_one many, own.degree);
      coefficients = own.field.irreducible.polynomial.0;
      monic = own.field.monic;
    },
  )

  pub dumped_row : IsNextRow before row
  dumped_row = ⊎_elim
      (λ few. inl (few, prime few))
      (λ many. inr (many, new_row many))
      (cases_lt (length before) (length first_edition.primes))
