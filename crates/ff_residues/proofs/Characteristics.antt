-- The characteristics are small; the table holds them alone.
use Rattle.std.proofs.Common.{◌≡◌, ℕ, ◌<◌, ◌==◌, true, rules, arith}
use Rattle.std.specs.List.{IsAnyAnswer}
use Rattle.std.proofs.lemmas.Bool.Decides.{nat_tests}
use Rattle.alg_model.specs.Coefficients.{primes, IsCharacteristic}
use Rattle.alg_rings.proofs.Primes.{each_characteristic}

pub characteristic_small : (p : ℕ) → IsCharacteristic p → (1 < p) × (p < 64)
characteristic_small = each_characteristic (λ p. (1 < p) × (p < 64)) (search rules)

-- a number that is found in the table
pub characteristic_from_any : (n : ℕ) → IsAnyAnswer (λ y t. (y == n) ≡ t) primes true → IsCharacteristic n
characteristic_from_any n (k, within, found) = (k, within, grind (arith, nat_tests, found n))
