-- Coefficient lists as a request gives them.
--     IsDigitCount n    1 to 64
--     AreDigits c       1 to 64 numbers from 0 to 255
use Rattle.std.specs.Prelude.{ℕ, ◌<◌, ◌≤◌, List, length, All}
use Rattle.lat_core.specs.declared.digits.TheConstants.{MAX_DIGITS}

-- how many numbers a coefficient list may have
abbrev pub IsDigitCount : ℕ → Type 0
IsDigitCount n = (0 < n) × (n ≤ MAX_DIGITS)

-- numbers from 0 to 255, as many as may be
pub record AreDigits (c : List ℕ) : Type 0 where
  pub count : IsDigitCount (length c)
  pub bytes : All (λ n. n < 256) c
