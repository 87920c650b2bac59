-- What the clauses of the search for the first dependent power speak of; no public clause cites
-- this module. The block is a list of d values of the field K, and a is a value.
--     product_place K block a q k     place k of block_i * a^j for q = j d + i
--     HasRelation K block a           some power a^r, with r d at most the degree of K, is a
--         combination of the block's products with the lower powers
--     IsRelation K block a digits     a^r and that combination of the products with the lower
--         powers are zero, and no lower power is such a combination
--     IsMonicOf K digits g            g is monic, and its other coefficients have these digits
use Rattle.std.specs.Prelude.{◌≡◌, ℕ, ◌+◌, ◌*◌, ◌/◌, ◌%◌, ◌<◌, ◌≤◌, List, [], length, All, slice_index, slice_index_or}
use Rattle.alg_model.specs.Coefficients.{power}
use Rattle.alg_model.specs.Maps.{Field, field_values, degree_of}
use Rattle.ff_minpoly.specs.PrivateSpans.{combined, InSpan}

abbrev pub product_place : Field → List (List ℕ) → List ℕ → ℕ → ℕ → ℕ
product_place K block a q k = slice_index ((field_values K).ops.mul
    (slice_index_or block (q % length block) [])
    (power (field_values K).ops a (q / length block))) k

-- the power a^t is a combination of the block's products with the lower powers
abbrev pub IsDependent : Field → List (List ℕ) → List ℕ → ℕ → Type 0
IsDependent K block a t = InSpan K.characteristic (degree_of K) (t * length block)
    (product_place K block a) (slice_index (power (field_values K).ops a t))

pub record HasRelation (K : Field) (block : List (List ℕ)) (a : List ℕ) : Type 0 where
  pub degree : ℕ
  pub fits : degree * length block ≤ degree_of K
  pub dependent : IsDependent K block a degree

pub record IsRelation (K : Field) (block : List (List ℕ)) (a digits : List ℕ) : Type 0 where
  pub degree : ℕ
  pub count : length digits ≡ degree * length block
  pub residues : All (λ x. x < K.characteristic) digits
  pub vanishes : (k : ℕ) → k < degree_of K
      → (slice_index (power (field_values K).ops a degree) k
      + combined (degree * length block) (slice_index digits) (product_place K block a) k)
      % K.characteristic ≡ 0
  pub least : (t : ℕ) → t < degree → IsDependent K block a t → ⊥

-- g is monic, and the coefficients below the leading one have these digits
pub record IsMonicOf (K : Field) (digits : List ℕ) (g : List (List ℕ)) : Type 0 where
  pub degree : ℕ
  pub count : length digits ≡ degree * degree_of K
  pub long : length g ≡ degree + 1
  pub valid : All (field_values K).Valid g
  pub top : slice_index_or g degree (field_values K).ops.zero ≡ (field_values K).ops.one
  pub digits_are : (j i : ℕ) → j < degree → i < degree_of K
      → slice_index digits (j * degree_of K + i)
      ≡ slice_index (slice_index_or g j (field_values K).ops.zero) i
