-- Finite fields of characteristic p with p^n members, and the powers of Frobenius on them.
--     FiniteField o p n       the laws of a field, the prime p, p times one is zero, p^n members,
-- a^(p^n) = a
--     frobenius o q i a       a^(q^i)
use Rattle.std.proofs.Common.{◌≡◌, ◌≢◌, ℕ, zero, suc, ◌+◌, ◌*◌, ◌/◌, ◌%◌, ◌^◌, ◌<◌, ◌≤◌, List, length, map, slice_index_or, AllPairs, All, ap, sym, ◌∙◌, arith, pow-suc, mul-zero, mul-suc}
use Rattle.std.proofs.Math.Nat.{pow-zero, mul_comm, div-add-mod, one-le-pow, pow-le-pow_right, mul-le-mul_left}
use Rattle.std.proofs.lemmas.Nat.{pow-add}
use Rattle.std.specs.List.{range_with_len}
use Rattle.std.proofs.lemmas.List.FromFn.{length-map-range_with_len, get_or-map-range_with_len}
use Rattle.alg_model.specs.Coefficients.{Ops, times, power}
use Rattle.alg_model.specs.Polynomials.{leading, evaluate}
use Rattle.alg_rings.specs.Laws.{RingLaws, FieldLaws}
use Rattle.alg_rings.proofs.Division.{zero_from_product}
use Rattle.alg_rings.proofs.Homomorphisms.{Homomorphism}
use Rattle.alg_fields.proofs.OverResidues.{first_power}
use Rattle.alg_rings.proofs.Powers
use Rattle.alg_fields.proofs.Roots
use Rattle.alg_fields.proofs.Frobenius
use Rattle.alg_model.specs.Coefficients.{IsPrime}
use Rattle.alg_finite.proofs.Enumerations.{Enumeration, Distinct}
use Rattle.alg_finite.proofs.FieldMaps.{field_homomorphism, injective}

pub record FiniteField {A : Type 0} (o : Ops A) (p n : ℕ) : Type 0 where
  pub field : FieldLaws o
  pub prime : IsPrime p
  pub characteristic : times o p o.one ≡ o.zero
  pub positive : 0 < n
  pub members : Enumeration A (p ^ n)
  pub fixed : (a : A) → power o a (p ^ n) ≡ a

-- the power q^i
abbrev pub frobenius : {A : Type 0} → Ops A → ℕ → ℕ → A → A
frobenius o q i a = power o a (q ^ i)

-- p^1 = p
pub pow_one : (p : ℕ) → p ^ 1 ≡ p
pow_one p = sym (first_power p)

-- powers of what is above 1 are positive
pub pow_positive : (p i : ℕ) → 1 < p → 0 < p ^ i
pow_positive p i l = one-le-pow i p (omega arith)

-- and rise
pub pow_strict : (p i j : ℕ) → 1 < p → i < j → p ^ i < p ^ j
pow_strict p i j l h =
    let a : p ^ suc i ≤ p ^ j = pow-le-pow_right (omega arith) h in
    let b : p ^ i * 2 ≤ p ^ i * p = mul-le-mul_left (p ^ i) l in
    omega (arith, pow-suc p i, pow_positive p i l)

-- a finite field has more than one member
pub above_one : {A : Type 0} {o : Ops A} {p n : ℕ} → FiniteField o p n → 1 < p ^ n
above_one {A} {o} {p} {n} K =
    let l : 1 < p = K.prime.above_one in
    let a : p ^ 1 ≤ p ^ n = pow-le-pow_right (omega arith) K.positive in
    omega (arith, pow_one p)

-- powers of a power
pub pow_mul : (p m i : ℕ) → (p ^ m) ^ i ≡ p ^ (m * i)
pow_mul p m zero = pow-zero (p ^ m) ∙ sym (ap (λ j. p ^ j) (mul-zero m) ∙ pow-zero p)
pow_mul p m (suc i) =
    pow-suc (p ^ m) i ∙ ap (λ t. t * p ^ m) (pow_mul p m i) ∙ sym (pow-add p (m * i) m)
    ∙ ap (λ j. p ^ j) (sym (mul-suc m i))

module _ {A : Type 0} {o : Ops A} (R : RingLaws o) where
  -- ---- powers of a -> a^q
  pub frobenius_none : (q : ℕ) (a : A) → frobenius o q 0 a ≡ a
  frobenius_none q a = ap (power o a) (pow-zero q) ∙ Powers.power_one R a

  -- i + j powers of Frobenius are j and then i
  pub frobenius_add : (q i j : ℕ) (a : A)
      → frobenius o q (i + j) a ≡ frobenius o q i (frobenius o q j a)
  frobenius_add q i j a =
      ap (power o a) (pow-add q i j ∙ mul_comm (q ^ i) (q ^ j))
      ∙ sym (Powers.power_power R a (q ^ j) (q ^ i))

  -- one more power of Frobenius, taken first
  pub frobenius_next : (q i : ℕ) (a : A) → frobenius o q (suc i) a ≡ frobenius o q i (power o a q)
  frobenius_next q i a =
      ap (power o a) (pow-suc q i ∙ mul_comm (q ^ i) q) ∙ sym (Powers.power_power R a q (q ^ i))

  -- one more power of Frobenius, taken last
  pub frobenius_last : (q i : ℕ) (a : A) → frobenius o q (suc i) a ≡ power o (frobenius o q i a) q
  frobenius_last q i a = ap (power o a) (pow-suc q i) ∙ sym (Powers.power_power R a (q ^ i) q)

  -- i powers of a -> a^(p^m) are m * i of a -> a^p
  pub frobenius_of_power : (p m i : ℕ) (a : A) → frobenius o (p ^ m) i a ≡ frobenius o p (m * i) a
  frobenius_of_power p m i a = ap (power o a) (pow_mul p m i)

  -- what comes back after n comes back after each multiple of n
  pub frobenius_multiple : (q n : ℕ) (a : A) → frobenius o q n a ≡ a → (k : ℕ)
      → frobenius o q (n * k) a ≡ a
  frobenius_multiple q n a e zero = ap (λ i. frobenius o q i a) (mul-zero n) ∙ frobenius_none q a
  frobenius_multiple q n a e (suc k) =
      ap (λ i. frobenius o q i a) (mul-suc n k) ∙ frobenius_add q (n * k) n a
      ∙ ap (frobenius o q (n * k)) e ∙ frobenius_multiple q n a e k

  -- so only the remainder counts
  pub frobenius_remainder : (q n : ℕ) (a : A) → frobenius o q n a ≡ a → (i : ℕ)
      → frobenius o q i a ≡ frobenius o q (i % n) a
  frobenius_remainder q n a e i =
      ap (λ j. frobenius o q j a) (sym (div-add-mod i n) ∙ omega arith)
      ∙ frobenius_add q (i % n) (n * (i / n)) a
      ∙ ap (frobenius o q (i % n)) (frobenius_multiple q n a e (i / n))

-- a polynomial has fewer roots than coefficients, for roots by number
pub root_bound_at : {A : Type 0} {o : Ops A} → FieldLaws o → (f : List A) → leading o f ≢ o.zero
    → (at : ℕ → A) (n : ℕ) → Distinct at n
    → ((i : ℕ) → i < n → evaluate o f (at i) ≡ o.zero) → n < length f
root_bound_at {A} {o} F f l at n d z =
    omega (
      arith,
      Roots.root_bound F.ring (λ x y e m. zero_from_product F x y e m) f l
          (map at (range_with_len 0 n)) distinct zeros,
      long,
    )
  where
    long : length (map at (range_with_len 0 n)) ≡ n
    long = length-map-range_with_len at 0 n

    here : (i : ℕ) (e : A) → i < n → slice_index_or (map at (range_with_len 0 n)) i e ≡ at i
    here i e h = get_or-map-range_with_len at 0 n i i e h (omega arith)

    distinct : AllPairs (λ a b. a ≢ b) (map at (range_with_len 0 n))
    distinct i j e h k s = d i j h (omega (arith, long))
        (sym (here i e (omega (arith, long))) ∙ s ∙ here j e (omega (arith, long)))

    zeros : All (λ a. evaluate o f a ≡ o.zero) (map at (range_with_len 0 n))
    zeros i e h = ap (evaluate o f) (here i e (omega (arith, long))) ∙ z i (omega (arith, long))

module _ {A : Type 0} {o : Ops A} (F : FieldLaws o) {p : ℕ} (prime : IsPrime p)
    (characteristic : times o p o.one ≡ o.zero) where
  -- **each power of Frobenius keeps the operations**
  pub frobenius_homomorphism : (i : ℕ) → Homomorphism o o (frobenius o p i)
  frobenius_homomorphism i = field_homomorphism F F
      (Powers.power_of_one F.ring (p ^ i))
      (Frobenius.power_of_sum_iterated F.ring p prime characteristic i)
      (λ x y. Powers.power_product F.ring x y (p ^ i))

  -- a power of Frobenius is injective
  pub frobenius_injective : (i : ℕ) (x y : A) → frobenius o p i x ≡ frobenius o p i y → x ≡ y
  frobenius_injective i = injective F.ring F.ring (frobenius_homomorphism i)

  -- and so is one of a -> a^q
  pub frobenius_cancel : (m i : ℕ) (x y : A) → frobenius o (p ^ m) i x ≡ frobenius o (p ^ m) i y
      → x ≡ y
  frobenius_cancel m i x y e = frobenius_injective (m * i) x y
      (sym (frobenius_of_power F.ring p m i x) ∙ e ∙ frobenius_of_power F.ring p m i y)
