-- What a `Prime` keeps beside its number. No public clause cites this module.
--     shift_of p         the s with 2^s < p and p ≤ 2^(s + 1), for 1 < p ≤ 64
--     reciprocal_of p    2^(16 + s) / p and 1: what takes the place of a division by p
--     run_of p           how many products of residues and one residue more are together below 2^15
--     IsKept n r s k     these three for the characteristic n
use Rattle.std.specs.Prelude.{◌≡◌, ℕ, ◌+◌, ◌-◌, ◌*◌, ◌/◌, ◌^◌, if◌then◌else◌}
use Rattle.std.specs.Prelude.{nat_le}
use Rattle.alg_model.specs.Coefficients.{IsCharacteristic}

abbrev pub shift_of : ℕ → ℕ
shift_of p = if nat_le p 2 then 0 else if nat_le p 4 then 1 else if nat_le p 8 then 2
    else if nat_le p 16 then 3 else if nat_le p 32 then 4 else 5

abbrev pub reciprocal_of : ℕ → ℕ
reciprocal_of p = 2 ^ (16 + shift_of p) / p + 1

abbrev pub run_of : ℕ → ℕ
run_of p = (32768 - p) / ((p - 1) * (p - 1))

pub record IsKept (number reciprocal shift run : ℕ) : Type 0 where
  pub characteristic : IsCharacteristic number
  pub reciprocal_is : reciprocal ≡ reciprocal_of number
  pub shift_is : shift ≡ shift_of number
  pub run_is : run ≡ run_of number
