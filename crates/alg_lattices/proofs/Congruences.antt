-- Congruences between numbers, and Bézout's identity, without negative numbers.
--     Congruent n a b       a and b are the same modulo n
--     Bezout a n            the gcd of a and n, and a multiple of a that is the same modulo n
use Rattle.std.proofs.Common.{◌≡◌, ℕ, zero, suc, ◌+◌, ◌-◌, ◌*◌, ◌%◌, ◌/◌, ◌<◌, ◌≤◌, refl, sym, ap, ◌∙◌, subst, ⊎_elim, arith}
use Rattle.std.proofs.Math.Nat.{dvd-mul_right, dvd-add_iff_left, div-add-mod, add-mul-mod_self_left}
use Rattle.std.proofs.lemmas.Nat.Gcd.{IsGcd-from_zero, IsGcd-from_mod, dvd_refl, mod-eq-zero_of_dvd}
use Rattle.std.proofs.lemmas.Bool.{cases_lt}
use Rattle.std.specs.Int.{IsGcd}
use Prim.Native.Nat.{◌∣◌}

-- multiples of n added to both make them equal
pub record Congruent (n a b : ℕ) : Type 0 where
  pub left : ℕ
  pub right : ℕ
  pub equation : a + n * left ≡ b + n * right

-- a number is the same as itself
pub congruent_itself : (n a : ℕ) → Congruent n a a
congruent_itself n a = record { left = 0; right = 0; equation = refl }

-- and so are two numbers that are the same as a third
pub congruent_trans : {n a b c : ℕ} → Congruent n a b → Congruent n b c → Congruent n a c
congruent_trans {n} {a} {b} {c} h k = record {
  left = h.left + k.left;
  right = h.right + k.right;
  equation =
      let e : a + n * h.left ≡ b + n * h.right = h.equation in
      let f : b + n * k.left ≡ c + n * k.right = k.equation in
      grind arith;
}

-- both ways
pub congruent_back : {n a b : ℕ} → Congruent n a b → Congruent n b a
congruent_back h = record { left = h.right; right = h.left; equation = sym h.equation }

-- multiples of numbers that are the same
pub congruent_multiple : {n a b : ℕ} (c : ℕ) → Congruent n a b → Congruent n (a * c) (b * c)
congruent_multiple {n} {a} {b} c h = record {
  left = h.left * c;
  right = h.right * c;
  equation = let e : (a + n * h.left) * c ≡ (b + n * h.right) * c = ap (λ x. x * c) h.equation in grind arith;
}

-- sums with one number
pub congruent_sum : {n a b : ℕ} (c : ℕ) → Congruent n a b → Congruent n (c + a) (c + b)
congruent_sum {n} {a} {b} c h = record {
  left = h.left;
  right = h.right;
  equation = let e : a + n * h.left ≡ b + n * h.right = h.equation in grind arith;
}

-- the quotient of a number by a divisor
pub quotient : (d n : ℕ) → d ∣ n → n ≡ d * (n / d)
quotient d n h = let e : n % d ≡ 0 = mod-eq-zero_of_dvd d h in let f : d * (n / d) + n % d ≡ n = div-add-mod n d in omega arith

-- what is the same modulo n is the same modulo its divisors
pub congruent_divisor : {n a b : ℕ} (d : ℕ) → d ∣ n → Congruent n a b → Congruent d a b
congruent_divisor {n} {a} {b} d f h = record {
  left = (n / d) * h.left;
  right = (n / d) * h.right;
  equation =
      let e : a + n * h.left ≡ b + n * h.right = h.equation in
      let k : n * h.left ≡ d * (n / d) * h.left = ap (λ x. x * h.left) (quotient d n f) in
      let l : n * h.right ≡ d * (n / d) * h.right = ap (λ x. x * h.right) (quotient d n f) in
      grind arith;
}

-- numbers with one remainder are the same
pub congruent_from_mod : (n a b : ℕ) → a % n ≡ b % n → Congruent n a b
congruent_from_mod n a b e = record {
  left = b / n;
  right = a / n;
  equation = let f : n * (a / n) + a % n ≡ a = div-add-mod _ _ in let g : n * (b / n) + b % n ≡ b = div-add-mod _ _ in omega arith;
}

pub mod_from_congruent : {n a b : ℕ} → Congruent n a b → a % n ≡ b % n
mod_from_congruent {n} {a} {b} h =
    sym (add-mul-mod_self_left a n h.left) ∙ ap (λ x. x % n) h.equation ∙ add-mul-mod_self_left b n h.right

-- the distance of two numbers: the numbers are the same modulo its divisors
abbrev pub distance : ℕ → ℕ → ℕ
distance a b = (a - b) + (b - a)

-- n divides the distance of numbers that are the same modulo n
pub divides_distance : {n a b : ℕ} → Congruent n a b → n ∣ distance a b
divides_distance {n} {a} {b} h = ⊎_elim below above (cases_lt a b)
  where
    below : a < b → n ∣ distance a b
    below l =
        let e : a + n * h.left ≡ b + n * h.right = h.equation in
        let f : n * h.left ≡ distance a b + n * h.right = omega arith in
        (dvd-add_iff_left n (dvd-mul_right n h.right)).1 (subst (λ x. n ∣ x) f (dvd-mul_right n h.left))

    above : b ≤ a → n ∣ distance a b
    above l =
        let e : a + n * h.left ≡ b + n * h.right = h.equation in
        let f : n * h.right ≡ distance a b + n * h.left = omega arith in
        (dvd-add_iff_left n (dvd-mul_right n h.left)).1 (subst (λ x. n ∣ x) f (dvd-mul_right n h.right))

-- and numbers whose distance n divides are the same
pub congruent_from_distance : (n a b : ℕ) → n ∣ distance a b → Congruent n a b
congruent_from_distance n a b h = ⊎_elim below above (cases_lt a b)
  where
    e : distance a b ≡ n * (distance a b / n)
    e = quotient n (distance a b) h

    below : a < b → Congruent n a b
    below l = record { left = distance a b / n; right = 0; equation = let f : distance a b ≡ n * (distance a b / n) = e in omega arith }

    above : b ≤ a → Congruent n a b
    above l = record { left = 0; right = distance a b / n; equation = let f : distance a b ≡ n * (distance a b / n) = e in omega arith }

-- the gcd of a number and itself
pub gcd_itself : (n : ℕ) → IsGcd n n n
gcd_itself n = (dvd_refl n, dvd_refl n, λ d p q. p)

-- the gcd of a number and a divisor is the divisor
pub gcd_of_divisor : (d n : ℕ) → d ∣ n → IsGcd n d d
gcd_of_divisor d n h = (h, dvd_refl d, λ e p q. q)

-- a gcd of a and n, and a multiple of a that is the same modulo n
pub record Bezout (a n : ℕ) : Type 0 where
  pub gcd : ℕ
  pub is_gcd : IsGcd a n gcd
  pub factor : ℕ
  pub congruent : Congruent n (a * factor) gcd

-- one step of Euclid's algorithm
bezout_step : (c a : ℕ) → Bezout (suc c) (a % suc c) → Bezout a (suc c)
bezout_step c a rest = record {
  gcd = rest.gcd;
  is_gcd = IsGcd-from_mod a (suc c) rest.gcd rest.is_gcd;
  factor = rest.congruent.left + c * rest.congruent.right;
  congruent = record {
    left = rest.factor;
    right = (a / suc c) * (rest.congruent.left + c * rest.congruent.right) + (a % suc c) * rest.congruent.right;
    equation = step (suc c) (a / suc c) (a % suc c) rest.factor rest.congruent.left rest.congruent.right rest.gcd refl
        (div-add-mod a (suc c)) rest.congruent.equation;
  };
}
  where
    step : (b q r x u v g : ℕ) → b ≡ suc c → b * q + r ≡ a → b * x + r * u ≡ g + r * v
        → a * (u + c * v) + b * x ≡ g + b * (q * (u + c * v) + r * v)
    step b q r x u v g e f k =
        let one : (b * q + r) * (u + c * v) ≡ a * (u + c * v) = ap (λ z. z * (u + c * v)) f in
        let two : b * (r * v) ≡ suc c * (r * v) = ap (λ z. z * (r * v)) e in
        omega arith

bezout_below : (fuel a n : ℕ) → n < fuel → Bezout a n
bezout_below zero a n h = absurd (omega arith)
bezout_below (suc fuel) a zero h = record {
  gcd = a;
  is_gcd = IsGcd-from_zero a 0 refl;
  factor = 1;
  congruent = record { left = 0; right = 0; equation = omega arith };
}
bezout_below (suc fuel) a (suc c) h = bezout_step c a (bezout_below fuel (suc c) (a % suc c) (omega arith))

-- **Bézout's identity**
pub bezout : (a n : ℕ) → Bezout a n
bezout a n = bezout_below (suc n) a n (omega arith)
