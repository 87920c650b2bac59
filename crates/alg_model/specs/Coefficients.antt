-- Coefficients: what can be added and multiplied, the residues modulo a number among them.
--     Ops A                         operations on A, with no laws
--     times o n a, power o a n      n copies of a added; n copies of a multiplied
--     mod_ops p                     the operations of the residues modulo p, on numbers
--     Carrier A                     operations, and which of the a : A are elements
--     tested o test                 the carrier of the elements that pass a test
--     residues p                    the residues modulo p: the numbers below p
--     IsPrime p                     p is above 1 and a product of two numbers only where one of
--                                   them is 1
--     IsCharacteristic p            p is one of the characteristics, the 18 primes below 64
use Rattle.std.specs.Prelude.{◌≡◌, ◌⊎◌, ℕ, zero, suc, ◌+◌, ◌-◌, ◌*◌, ◌%◌, ◌<◌, ◌==◌, Bool, List, [], ◌∷◌, Contains, IsTrue}

pub record Ops (A : Type 0) : Type 0 where
  pub zero : A
  pub one : A
  pub add : A → A → A
  pub mul : A → A → A
  pub neg : A → A
  pub is_zero : A → Bool

-- a + .. + a, n times
abbrev pub times : {A : Type 0} → Ops A → ℕ → A → A
times o zero a = o.zero
times o (suc n) a = o.add a (times o n a)

-- a * .. * a, n times; one for n = 0
abbrev pub power : {A : Type 0} → Ops A → A → ℕ → A
power o a zero = o.one
power o a (suc n) = o.mul (power o a n) a

-- sums, products and negatives modulo p
abbrev pub mod_ops : ℕ → Ops ℕ
mod_ops p = record {
  zero = 0;
  one = 1;
  add = λ a b. (a + b) % p;
  mul = λ a b. (a * b) % p;
  neg = λ a. (p - a) % p;
  is_zero = λ a. a == 0;
}

pub record Carrier (A : Type 0) : Type 1 where
  pub ops : Ops A
  pub Valid : A → Type 0

-- operations, and a test that tells which of the a : A are elements
abbrev pub tested : {A : Type 0} → Ops A → (A → Bool) → Carrier A
tested o test = record { ops = o; Valid = λ a. IsTrue (test a) }

-- the residues modulo p
abbrev pub residues : ℕ → Carrier ℕ
residues p = record { ops = mod_ops p; Valid = λ a. a < p }

pub record IsPrime (p : ℕ) : Type 0 where
  pub above_one : 1 < p
  pub no_factors : (a b : ℕ) → a * b ≡ p → (a ≡ 1) ⊎ (b ≡ 1)

-- the characteristics, in their order
abbrev pub primes : List ℕ
primes = 2 ∷ 3 ∷ 5 ∷ 7 ∷ 11 ∷ 13 ∷ 17 ∷ 19 ∷ 23 ∷ 29 ∷ 31
    ∷ 37 ∷ 41 ∷ 43 ∷ 47 ∷ 53 ∷ 59 ∷ 61 ∷ []

abbrev pub IsCharacteristic : ℕ → Type 0
IsCharacteristic p = Contains primes p
