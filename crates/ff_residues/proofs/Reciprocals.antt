-- Quotients by a reciprocal.
use Rattle.std.proofs.Common.{◌≡◌, ℕ, ◌+◌, ◌-◌, ◌*◌, ◌/◌, ◌%◌, ◌^◌, ◌<◌, ◌≤◌, ap, ap₂, ◌∙◌, arith, rules}
use Rattle.std.proofs.Math.Nat.{div-add-mod, div-div-eq-div-mul, div-eq_of_lt-le, le_of_mul-le-mul_right, lt_of_mul-lt-mul_left, mul-le-mul_right, mul-le-mul_left, div-mul-le_self, lt-div-mul-add, mul_comm}
use Rattle.std.proofs.lemmas.Nat.{mod_below}
use Rattle.alg_model.specs.Coefficients.{IsCharacteristic}
use Rattle.alg_rings.proofs.Primes.{each_characteristic}
use Rattle.ff_residues.specs.PrivatePrimes.{IsKept, shift_of, reciprocal_of}

-- what the table says of each characteristic
pub shift_bounds : (p : ℕ) → IsCharacteristic p → (2 ^ shift_of p < p) × (p ≤ 2 * 2 ^ shift_of p)
shift_bounds = each_characteristic (λ p. (2 ^ shift_of p < p) × (p ≤ 2 * 2 ^ shift_of p)) (search rules)

-- with m * p = n + e, where x * e is below n, the quotient of x by p is that of x * m by n
quotient_from_below : (p n m x e q : ℕ) → 0 < p → m * p ≡ n + e → q * p ≤ x → q * n ≤ x * m
quotient_from_below p n m x e q positive is below =
    let a : q * p * n ≤ x * n = mul-le-mul_right n below in
    let b : x * (m * p) ≡ x * (n + e) = ap (λ w. x * w) is in
    let goal : q * n * p ≤ x * m * p = grind arith in
    le_of_mul-le-mul_right goal positive

quotient_from_above : (p n m x e q : ℕ) → 0 < p → m * p ≡ n + e → x * e < n → x + 1 ≤ (q + 1) * p → x * m < (q + 1) * n
quotient_from_above p n m x e q positive is small above =
    let a : (x + 1) * n ≤ (q + 1) * p * n = mul-le-mul_right n above in
    let b : x * (m * p) ≡ x * (n + e) = ap (λ w. x * w) is in
    let goal : p * (x * m) < p * ((q + 1) * n) = grind arith in
    lt_of_mul-lt-mul_left p goal

pub quotient_by_reciprocal : (p n m x e : ℕ) → 0 < p → m * p ≡ n + e → x * e < n → x * m / n ≡ x / p
quotient_by_reciprocal p n m x e positive is small =
    div-eq_of_lt-le n (quotient_from_below p n m x e (x / p) positive is (div-mul-le_self x p))
    (quotient_from_above p n m x e (x / p) positive is small (let h : x < x / p * p + p = lt-div-mul-add positive in grind arith))

small_product : (x e t : ℕ) → x < 32768 → e ≤ 2 * t → 0 < t → x * e < 65536 * t
small_product x e t lx le positive =
    let a : x * e ≤ x * (2 * t) = mul-le-mul_left x le in
    let b : (x + 1) * (2 * t) ≤ 32768 * (2 * t) = mul-le-mul_right (2 * t) (omega arith) in
    grind arith

rest_of_division : (n p : ℕ) → 0 < p → (n / p + 1) * p ≡ n + (p - n % p)
rest_of_division n p positive =
    let f : p * (n / p) + n % p ≡ n = div-add-mod n p in
    let l : n % p < p = mod_below n p positive in
    let g : (n / p + 1) * p ≡ p * (n / p) + p = grind arith in
    omega arith

power_positive : (p : ℕ) → IsCharacteristic p → 0 < 2 ^ shift_of p
power_positive = each_characteristic (λ p. 0 < 2 ^ shift_of p) (search rules)

power_scaled : (p : ℕ) → IsCharacteristic p → 2 ^ (16 + shift_of p) ≡ 65536 * 2 ^ shift_of p
power_scaled = each_characteristic (λ p. 2 ^ (16 + shift_of p) ≡ 65536 * 2 ^ shift_of p) (search rules)

pub above_zero : (p : ℕ) → IsCharacteristic p → 0 < p
above_zero = each_characteristic (λ p. 0 < p) (search rules)

-- **the quotient of a number below 2^15 by a characteristic**
pub exact_quotient : (p x : ℕ) → IsCharacteristic p → x < 32768 → x * reciprocal_of p / 65536 / 2 ^ shift_of p ≡ x / p
exact_quotient p x h l =
    let t = 2 ^ shift_of p in
    let n = 65536 * 2 ^ shift_of p in
    let positive = above_zero p h in
    let m : (65536 * 2 ^ shift_of p / p + 1) * p ≡ 65536 * 2 ^ shift_of p + (p - 65536 * 2 ^ shift_of p % p) = rest_of_division n p positive in
    let e : p - 65536 * 2 ^ shift_of p % p ≤ 2 * 2 ^ shift_of p = let b : p ≤ 2 * 2 ^ shift_of p = (shift_bounds p h).1 in omega arith in
    div-div-eq-div-mul (x * reciprocal_of p) 65536 (2 ^ shift_of p)
    ∙ ap (λ k. x * (k / p + 1) / n) (power_scaled p h)
    ∙ quotient_by_reciprocal p n (n / p + 1) x (p - n % p) positive m (small_product x (p - n % p) t l e (power_positive p h))

-- what is left of x
pub exact_rest : (x p q : ℕ) → 0 < p → q ≡ x / p → (q * p ≤ x) × (x - q * p ≡ x % p)
exact_rest x p q positive e =
    let f : p * (x / p) + x % p ≡ x = div-add-mod x p in
    let g : q * p ≡ p * (x / p) = ap (λ w. w * p) e ∙ mul_comm (x / p) p in
    (omega arith, omega arith)

-- what `Prime::reduced` works out
pub reduced_by : (x n m s r : ℕ) → IsKept n m s r → x < 32768
    → (x * m / 65536 / 2 ^ s * n ≤ x) × (x - x * m / 65536 / 2 ^ s * n ≡ x % n)
reduced_by x n m s r k l =
    exact_rest x n (x * m / 65536 / 2 ^ s) (above_zero n k.characteristic)
    (ap₂ (λ w t. x * w / 65536 / 2 ^ t) k.reciprocal_is k.shift_is ∙ exact_quotient n x k.characteristic l)
