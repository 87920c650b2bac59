-- What a `Field` keeps beside its polynomial f, of degree n, over the residues modulo p. No public
-- clause cites this module.
--     first_place                   the places of 1: one and zeros
--     times_x_place p f r           the places of x * r less the multiple of f that r's place
--                                   n - 1 asks for, as numbers that aren't reduced
--     power_place p f i             the places of the remainder of x^i, not reduced
--     IsTable p n m place table     row i of the table has the residue of place i k at its place k,
--                                   for i < m and k < n
use Rattle.std.specs.Prelude.{◌≡◌, ℕ, zero, suc, ◌+◌, ◌-◌, ◌*◌, ◌%◌, ◌<◌, List, [], length, slice_index, slice_index_or, All}
use Rattle.alg_model.specs.Coefficients.{power}
use Rattle.alg_model.specs.Values.{degree}
use Rattle.ff_residues.specs.SumRows.{IsRowOf, sum_below}
use Rattle.alg_model.specs.Maps.{Field, field_values, generator, degree_of}
use Rattle.alg_model.specs.Conjugates.{trace}
use Rattle.ff_field.specs.SmallFields.{IsSmallField}
use Rattle.ff_poly.specs.declared.TheConstants.{MAX_DEGREE}

abbrev pub first_place : ℕ → ℕ
first_place zero = 1
first_place (suc k) = 0

abbrev pub place_before : (ℕ → ℕ) → ℕ → ℕ
place_before r zero = 0
place_before r (suc k) = r k

abbrev pub times_x_place : ℕ → List ℕ → (ℕ → ℕ) → ℕ → ℕ
times_x_place p f r k = place_before r k + (p - 1) * r (degree f - 1) * slice_index f k

abbrev pub power_place : ℕ → List ℕ → ℕ → ℕ → ℕ
power_place p f zero = first_place
power_place p f (suc i) = times_x_place p f (power_place p f i)

pub record IsTable (p n m : ℕ) (place : ℕ → ℕ → ℕ) (table : List (List ℕ)) : Type 0 where
  pub count : length table ≡ MAX_DEGREE
  pub rows : All (IsRowOf p MAX_DEGREE) table
  pub places : (i k : ℕ) → i < m → k < n
      → slice_index (slice_index_or table i []) k ≡ place i k % p

-- the rows that a field keeps: the remainders of x^n, x^(n + 1), .., x^(2 n - 2)
abbrev pub IsRowTable : ℕ → List ℕ → List (List ℕ) → Type 0
IsRowTable p f = IsTable p (degree f) (degree f - 1) (λ i. power_place p f (degree f + i))

pub record IsModulus (K : Field) (rows : List (List ℕ)) : Type 0 where
  pub small : IsSmallField K
  pub rows_are : IsRowTable K.characteristic K.polynomial rows

-- the images of 1, x, x^2, .. under Frobenius
abbrev pub IsFrobenius : Field → List (List ℕ) → Type 0
IsFrobenius K = IsTable K.characteristic (degree_of K) (degree_of K)
    (λ i. slice_index (power (field_values K).ops
    (power (field_values K).ops (generator K) K.characteristic) i))

-- the first n products of the numbers of two lists, added up
abbrev pub scalar_sum : ℕ → List ℕ → List ℕ → ℕ
scalar_sum n r a = sum_below n (λ i. slice_index r i * slice_index a i)

-- with the digits of a value the row gives the lowest digit of what `image` makes of the value
pub record GivesLowest (K : Field) (image : List ℕ → List ℕ) (row : List ℕ) : Type 0 where
  pub count : length row ≡ MAX_DEGREE
  pub residues : All (λ x. x < K.characteristic) row
  pub gives : (a : List ℕ) → (field_values K).Valid a
      → scalar_sum (degree_of K) row a % K.characteristic ≡ slice_index (image a) 0

-- the traces of 1, x, x^2, ..
abbrev pub IsTraceRow : Field → List ℕ → Type 0
IsTraceRow K = GivesLowest K (trace K)

pub record IsKept (K : Field) (frobenius : List (List ℕ)) (traces : List ℕ) : Type 0 where
  pub small : IsSmallField K
  pub frobenius_is : IsFrobenius K frobenius
  pub traces_are : IsTraceRow K traces
