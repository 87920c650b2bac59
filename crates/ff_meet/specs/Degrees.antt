-- What a contract sees of a `DegreeSet`: a test for each number.
--     Holds s d         s holds the degree d
--     IsDegreeSet s     it tells for the numbers up to MAX_DEGREE, and doesn't hold 0
--     InClosure s d     d is a member or a greatest common divisor of two that are in the closure
use Rattle.std.specs.Prelude.{◌≡◌, ℕ, ◌+◌, List, Bool, false, length, slice_index_or, IsTrue}
use Rattle.std.specs.Int.{IsGcd}
use Rattle.ff_poly.specs.declared.TheConstants.{MAX_DEGREE}

abbrev pub Holds : List Bool → ℕ → Type 0
Holds s d = IsTrue (slice_index_or s d false)

pub record IsDegreeSet (s : List Bool) : Type 0 where
  pub count : length s ≡ MAX_DEGREE + 1
  pub above_zero : Holds s 0 → ⊥

pub data InClosure (s : List Bool) : ℕ → Type 0 where
  of_member : {d : ℕ} → Holds s d → InClosure s d
  of_gcd : {a b d : ℕ} → InClosure s a → InClosure s b → IsGcd a b d → InClosure s d
