-- What a contract sees of a `Field` and of the making of a `Value`.
--     IsSmallField K            a finite field, of a characteristic of the table and of degree at
--                               most MAX_DEGREE
--     IsFirstTooLarge p c k     the number at place k is the first of c that isn't below p
--     IsValueFault K c fault    why c are no digits of a value of K
use Rattle.std.specs.Prelude.{◌≡◌, ℕ, ◌<◌, ◌≤◌, List, length, slice_index}
use Rattle.alg_model.specs.Coefficients.{IsCharacteristic}
use Rattle.alg_model.specs.Maps.{Field, IsFiniteField, degree_of}
use Rattle.ff_poly.specs.declared.TheConstants.{MAX_DEGREE}
use Rattle.ff_field.specs.declared.values.ValueFault.{ValueFault}
use Rattle.ff_field.specs.declared.values.ValueFault.TheVariants.{TooMany, TooLarge}

-- a finite field, with its characteristic in the table and its degree within the limit
pub record IsSmallField (K : Field) : Type 0 where
  pub characteristic : IsCharacteristic K.characteristic
  pub finite : IsFiniteField K
  pub fits : degree_of K ≤ MAX_DEGREE

-- the number at this place is the first that isn't below p
pub record IsFirstTooLarge (p : ℕ) (c : List ℕ) (place : ℕ) : Type 0 where
  pub within : place < length c
  pub too_large : p ≤ slice_index c place
  pub first : (k : ℕ) → k < place → slice_index c k < p

-- more numbers than the degree, or else a number that isn't below the characteristic
abbrev pub IsValueFault : Field → List ℕ → ValueFault → Type 0
IsValueFault K c (TooMany n) = (n ≡ length c) × (degree_of K < length c)
IsValueFault K c (TooLarge place) = (length c ≤ degree_of K)
    × IsFirstTooLarge K.characteristic c place
