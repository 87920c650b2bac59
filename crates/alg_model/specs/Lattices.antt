-- Lattices of finite fields: named fields by number, and maps between them.
--     Edition                    the characteristics in their order, the greatest degree, the
--                                greatest number of fields
--     first_edition, second_edition     the two editions
--     Row                        a field and its name
--     Lattice                    an edition, the rows, and maps by pairs of numbers
--     field_at rows i            field i
--     Stored L i j m             m is the map from field i to field j
--     Grows L M                  M has the rows of L first, and its maps
--     prime_row p, made_name n   the row of a prime field; the name of an added field
--     IsEdition, IsRow, IsRows   what an edition is, and what rows a lattice of it may have
--     Compatible L               the maps are embeddings that agree, with all inverses,
--                                compositions and intersections
--     IsCompatible L             L is compatible, and its rows are rows of its edition
use Rattle.std.specs.Prelude.{◌≡◌, ◌≢◌, ◌⊎◌, ℕ, ◌<◌, ◌≤◌, ◌^◌, List, [], ◌∷◌, ◌++◌, length, map, take, All, AllPairs, Contains, Some, codes, decimal, slice_index, slice_index_or}
use Rattle.std.specs.FinMap.{FinMap, get}
use Rattle.std.specs.Ordering.{nat_cmp, ordering_then}
use Rattle.std.specs.declared.cmp.Ordering.{Ordering}
use Rattle.alg_model.specs.Coefficients.{primes, IsPrime}
use Rattle.alg_model.specs.Maps.{Field, IsFiniteField, degree_of, comp, identity_map, IsEmbedding, IsMeet}

-- what a version of the lattice allows: its characteristics, in their order, the greatest degree,
-- and the greatest number of fields
pub record Edition : Type 0 where
  pub primes : List ℕ
  pub top : ℕ
  pub room : ℕ

-- the 11 characteristics to 31, and degrees to 24
abbrev pub first_edition : Edition
first_edition = record { primes = take 11 primes; top = 24; room = 200 }

-- all 18 characteristics, and degrees to 48
abbrev pub second_edition : Edition
second_edition = record { primes = primes; top = 48; room = 200 }

-- a named field
pub record Row : Type 0 where
  pub name : List ℕ
  pub field : Field

-- pairs in the order of their first numbers, then of their second
abbrev pub pair_cmp : ℕ × ℕ → ℕ × ℕ → Ordering
pair_cmp a b = ordering_then (nat_cmp a.0 b.0) (nat_cmp a.1 b.1)

-- fields by number, and at most one map for each pair of numbers
pub record Lattice : Type 0 where
  pub edition : Edition
  pub rows : List Row
  pub maps : FinMap pair_cmp (List (List ℕ))

-- what stands past the last row
abbrev pub no_row : Row
no_row = record { name = []; field = record { characteristic = 0; polynomial = [] } }

-- the field of a number
abbrev pub field_at : List Row → ℕ → Field
field_at rows i = (slice_index_or rows i no_row).field

-- m is stored for i and j
pub record Stored (L : Lattice) (i j : ℕ) (m : List (List ℕ)) : Type 0 where
  pub found : get L.maps (i, j) ≡ Some m

-- M has the rows of L first, and all maps of L
pub record Grows (L M : Lattice) : Type 0 where
  pub edition : M.edition ≡ L.edition
  pub rows : take (length L.rows) M.rows ≡ L.rows
  pub maps : {i j : ℕ} {m : List (List ℕ)} → Stored L i j m → Stored M i j m

-- the field of p elements, whose polynomial is x
abbrev pub prime_row : ℕ → Row
prime_row p = record {
  name = codes "F" ++ decimal p;
  field = record { characteristic = p; polynomial = 0 ∷ 1 ∷ [] };
}

-- the name of an added field: `_` and its number
abbrev pub made_name : ℕ → List ℕ
made_name n = codes "_" ++ decimal n

-- a field of the edition, at number i; a name that begins with `_`, which is 95, is that of an
-- added field
pub record IsRow (edition : Edition) (i : ℕ) (row : Row) : Type 0 where
  pub field : IsFiniteField row.field
  pub characteristic : Contains edition.primes row.field.characteristic
  pub degree : degree_of row.field ≤ edition.top
  pub name : (slice_index row.name 0 ≢ 95) ⊎ (row.name ≡ made_name i)

-- the characteristics are different primes, of which each is a machine word; degree 1 is allowed;
-- there is room for the prime fields, and the number of fields is a machine word
pub record IsEdition (edition : Edition) : Type 0 where
  pub are_prime : All IsPrime edition.primes
  pub are_words : All (λ p. p < 2 ^ 64) edition.primes
  pub primes_differ : AllPairs (λ p q. p ≢ q) edition.primes
  pub top : 1 ≤ edition.top
  pub prime_fields : length edition.primes ≤ edition.room
  pub room : edition.room < 2 ^ 64

-- the prime fields come first, each row is one of the edition, and names differ
pub record IsRows (edition : Edition) (rows : List Row) : Type 0 where
  pub of_edition : IsEdition edition
  pub prime_fields : take (length edition.primes) rows ≡ map prime_row edition.primes
  pub row : (i : ℕ) → i < length rows → IsRow edition i (slice_index_or rows i no_row)
  pub names_differ : AllPairs (λ r s. r.name ≢ s.name) rows
  pub room : length rows ≤ edition.room

-- the stored maps are embeddings, and keep the rules
pub record Compatible (L : Lattice) : Type 0 where
  -- one map at most is found for a pair, and it is an embedding
  pub within : {i j : ℕ} {m : List (List ℕ)} → Stored L i j m
      → (i < length L.rows) × (j < length L.rows)
  pub embedding : {i j : ℕ} {m : List (List ℕ)} → Stored L i j m
      → IsEmbedding (field_at L.rows i) (field_at L.rows j) m
  pub identity : (i : ℕ) → i < length L.rows → Stored L i i (identity_map (field_at L.rows i))
  -- prime subfields: only the first fields have degree one, and each field has one of them
  pub only_degree_one : (i : ℕ) → i < length L.rows → degree_of (field_at L.rows i) ≡ 1
      → i < length L.edition.primes
  pub prime_subfield : (j : ℕ) → j < length L.rows
      → (q : ℕ) × (m : List (List ℕ)) × (q < length L.edition.primes) × Stored L q j m
  -- the inverse of an isomorphism
  pub inverse : {i j : ℕ} {m : List (List ℕ)} → Stored L i j m
      → degree_of (field_at L.rows i) ≡ degree_of (field_at L.rows j)
      → (n : List (List ℕ)) × Stored L j i n
      × (comp (field_at L.rows i) m n ≡ identity_map (field_at L.rows i))
      × (comp (field_at L.rows j) n m ≡ identity_map (field_at L.rows j))
  -- transitivity
  pub transitive : {i j k : ℕ} {m n : List (List ℕ)} → Stored L i j m → Stored L j k n
      → Stored L i k (comp (field_at L.rows k) m n)
  -- intersection
  pub meet : {i j k : ℕ} {a b : List (List ℕ)} → Stored L i k a → Stored L j k b
      → (l : ℕ) × (u : List (List ℕ)) × (v : List (List ℕ)) × Stored L l i u × Stored L l j v
      × IsMeet (field_at L.rows i) (field_at L.rows j) (field_at L.rows k) (field_at L.rows l)
      u v a b

-- a compatible lattice whose rows are rows of its edition
pub record IsCompatible (L : Lattice) : Type 0 where
  pub rows : IsRows L.edition L.rows
  pub compatible : Compatible L
