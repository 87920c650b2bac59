-- The lattice of the prime fields, and a lattice with one field more.
--     IsOpening L               the prime fields of the edition, and their identities
--     prime_map K               the map of the prime field of K's characteristic into K
--     IsStoredWith L q row i j m     m is stored for i and j once `row` is declared, whose prime
--                                    field is q
--     IsDeclared L row M        M is L with this row, its identity and its prime field's map
use Rattle.std.specs.Prelude.{◌≡◌, ◌↔◌, ℕ, ◌<◌, List, [], ◌∷◌, ◌++◌, length, map}
use Rattle.alg_model.specs.Maps.{Field, field_values, identity_map}
use Rattle.alg_model.specs.Lattices.{Lattice, Row, prime_row, field_at, Stored}

-- the prime fields of the edition, and their identities
pub record IsOpening (L : Lattice) : Type 0 where
  pub rows : L.rows ≡ map prime_row L.edition.primes
  pub maps : {i j : ℕ} {m : List (List ℕ)}
      → Stored L i j m ↔ ((i ≡ j) × (j < length L.rows) × (m ≡ identity_map (field_at L.rows j)))

-- the image of one is one
abbrev pub prime_map : Field → List (List ℕ)
prime_map K = (field_values K).ops.one ∷ []

-- the maps stored before, the new field's identity, and its prime field's map
pub data IsStoredWith (L : Lattice) (q : ℕ) (row : Row) (i j : ℕ) (m : List (List ℕ)) : Type 0 where
  kept : Stored L i j m → IsStoredWith L q row i j m
  itself : i ≡ length L.rows → j ≡ length L.rows → m ≡ identity_map row.field
      → IsStoredWith L q row i j m
  of_prime : i ≡ q → j ≡ length L.rows → m ≡ prime_map row.field → IsStoredWith L q row i j m

-- M is L with one row more
pub record IsDeclared (L : Lattice) (row : Row) (M : Lattice) : Type 0 where
  pub edition : M.edition ≡ L.edition
  pub rows : M.rows ≡ L.rows ++ row ∷ []
  -- the prime field
  pub prime : ℕ
  pub is_prime : prime < length L.edition.primes
  pub same_characteristic : (field_at L.rows prime).characteristic ≡ row.field.characteristic
  pub maps : {i j : ℕ} {m : List (List ℕ)} → Stored M i j m ↔ IsStoredWith L prime row i j m
