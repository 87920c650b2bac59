-- Prime numbers: inverses modulo a prime, and that the characteristics are primes.
use Rattle.std.proofs.Common.{◌≡◌, ◌≢◌, ◌⊎◌, ⊎_elim, inl, inr, ℕ, zero, suc, ◌+◌, ◌-◌, ◌*◌, ◌/◌, ◌%◌, ◌<◌, ◌≤◌, ◌==◌, not, Bool, true, get_or, ap, sym, ◌∙◌, subst, rules, arith, refl, mul-one, mul-zero}
use Rattle.std.specs.List.{list_all, range_with_len, AllByRecursion}
use Rattle.std.proofs.lemmas.List.Elements.{All-from_recursion}
use Rattle.std.proofs.lemmas.List.Sums.{AllPass-from_list_all}
use Rattle.std.proofs.lemmas.List.FromFn.{get_or-range_with_len, length-range_with_len}
use Rattle.std.proofs.lemmas.Bool.{cases_eq, cases_lt}
use Rattle.std.proofs.lemmas.Bool.Decides.{nat_tests}
use Rattle.std.proofs.lemmas.Nat.{mul-mod_first, mul-mod_second, mod_below}
use Rattle.std.proofs.Math.Nat.{div-add-mod, mul_assoc, mul-add-mod_self_right, mod-eq_of_lt}
use Rattle.alg_model.specs.Coefficients.{primes, IsPrime, IsCharacteristic}

-- ---- divisors of a prime
product_below : (p a b : ℕ) → 1 < p → a * b ≡ p → p ≤ a → 1 < b → ⊥
product_below p a b h e l m = grind arith

multiple_leaves_zero : (p a b : ℕ) → a * b ≡ p → 0 < a → p % a ≡ 0
multiple_leaves_zero p a b e h = grind arith

one_from_product : (p a b : ℕ) → 1 < p → a * b ≡ p → p ≤ a → b ≡ 1
one_from_product p a zero h e l = absurd (omega (arith, mul-zero a))
one_from_product p a (suc zero) h e l = refl
one_from_product p a (suc (suc k)) h e l = absurd (product_below p a (suc (suc k)) h e l (omega arith))

pub prime_from_test : (p : ℕ) → 1 < p → ((a : ℕ) → 1 < a → a < p → p % a ≢ 0) → IsPrime p
prime_from_test p h test = record { above_one = h; no_factors = cases }
  where
    cases : (a b : ℕ) → a * b ≡ p → (a ≡ 1) ⊎ (b ≡ 1)
    cases zero b e = absurd (omega arith)
    cases (suc zero) b e = inl refl
    cases (suc (suc k)) b e = ⊎_elim
        (λ below. absurd (test (suc (suc k)) (omega arith) below (multiple_leaves_zero p (suc (suc k)) b e (omega arith))))
        (λ above. inr (one_from_product p (suc (suc k)) b h e above))
        (cases_lt (suc (suc k)) p)

-- no number above 1 and below a prime divides it
pub prime_not_divided : (p a : ℕ) → IsPrime p → 1 < a → a < p → p % a ≢ 0
prime_not_divided p a prime above below e = ⊎_elim
    (λ one. absurd (omega arith))
    (λ one. absurd (let f : a * (p / a) + p % a ≡ p = div-add-mod p a in let g : a * (p / a) ≡ a = ap (λ w. a * w) one ∙ mul-one a in omega arith))
    (prime.no_factors a (p / a) (let f : a * (p / a) + p % a ≡ p = div-add-mod p a in omega arith))

-- ---- inverses
-- with p = d + q = x * q + r, the product x * d is r beside a multiple of p
step_product : (s p q r d : ℕ) → d + q ≡ p → suc s * q + r ≡ p → suc s * d ≡ s * p + r
step_product s p q r d e f = grind arith

-- one step of the inversion: from a * i = x to a * (i * -(p / x)) = p % x
pub inversion_step : (p a i x : ℕ) → 0 < x → x < p → (a * i) % p ≡ x → (a * ((i * (p - p / x)) % p)) % p ≡ p % x
inversion_step p a i zero above below e = absurd (omega arith)
inversion_step p a i (suc s) above below e =
    let q = p / suc s in
    let r = p % suc s in
    let f : suc s * q + r ≡ p = div-add-mod p (suc s) in
    let less : r < suc s = mod_below p (suc s) above in
    let whole : p - q + q ≡ p = omega arith in
    mul-mod_second a (i * (p - q)) p
    ∙ ap (λ w. w % p) (sym (mul_assoc a i (p - q)))
    ∙ sym (mul-mod_first (a * i) (p - q) p)
    ∙ ap (λ w. (w * (p - q)) % p) e
    ∙ ap (λ w. w % p) (step_product s p q r (p - q) whole f)
    ∙ mul-add-mod_self_right s p r
    ∙ mod-eq_of_lt (omega arith)

inverse_from : (p a : ℕ) → IsPrime p → (n x i : ℕ) → x ≤ n → 0 < x → x < p → (a * i) % p ≡ x → (u : ℕ) × ((a * u) % p ≡ 1)
inverse_from p a prime zero x i fuel above below e = absurd (omega arith)
inverse_from p a prime (suc n) x i fuel above below e = ⊎_elim
    (λ one. (i, e ∙ one))
    (λ other. let not_zero : p % x ≢ 0 = prime_not_divided p x prime (omega arith) below in
    let less : p % x < x = mod_below p x above in
    inverse_from p a prime n (p % x) ((i * (p - p / x)) % p) (omega arith) (omega arith) (omega arith) (inversion_step p a i x above below e))
    (cases_eq x 1)

-- each number from 1 to p - 1 has an inverse modulo p
pub inverse_modulo : (p : ℕ) → IsPrime p → (a : ℕ) → 0 < a → a < p → (u : ℕ) × ((a * u) % p ≡ 1)
inverse_modulo p prime a above below = inverse_from p a prime a a 1 (omega arith) above below (ap (λ w. w % p) (mul-one a) ∙ mod-eq_of_lt below)

-- ---- the table
-- what holds of each number of the table holds of a characteristic
pub each_characteristic : (P : ℕ → Type 0) → AllByRecursion P primes → (p : ℕ) → IsCharacteristic p → P p
each_characteristic P all p (k, within, at) = subst P at (All-from_recursion P primes all k p within)

-- no number above 1 and below p divides p
abbrev no_divisor : ℕ → Bool
no_divisor p = list_all (λ k. not (p % k == 0)) (range_with_len 2 (p - 2))

each_without_divisor : (p : ℕ) → IsCharacteristic p → no_divisor p ≡ true
each_without_divisor = each_characteristic (λ p. no_divisor p ≡ true) (search rules)

not_divisor : (p a b : ℕ) → a ≡ b → not (p % a == 0) ≡ true → p % b ≢ 0
not_divisor p a b same h e = let f : p % a ≡ 0 = ap (λ k. p % k) same ∙ e in grind (arith, nat_tests)

above_one : (p : ℕ) → IsCharacteristic p → 1 < p
above_one = each_characteristic (λ p. 1 < p) (search rules)

-- **each characteristic is a prime number**
pub characteristic_is_prime : (p : ℕ) → IsCharacteristic p → IsPrime p
characteristic_is_prime p h = prime_from_test p (above_one p h) (λ a above below.
    let len = length-range_with_len 2 (p - 2) in
    let at : get_or (range_with_len 2 (p - 2)) (a - 2) 0 ≡ a = get_or-range_with_len 2 (p - 2) (a - 2) 0 (omega arith) ∙ omega arith in
    not_divisor p (get_or (range_with_len 2 (p - 2)) (a - 2) 0) a at
    (AllPass-from_list_all (λ k. not (p % k == 0)) (range_with_len 2 (p - 2)) (each_without_divisor p h) (a - 2) 0 (omega arith)))
