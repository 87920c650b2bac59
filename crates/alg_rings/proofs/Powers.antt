-- Powers and multiples in a commutative ring.
use Rattle.std.proofs.Common.{◌≡◌, ℕ, zero, suc, ◌+◌, ◌*◌, refl, ap, sym, ◌∙◌, add-zero, add-suc, mul-zero, mul-suc}
use Rattle.alg_model.specs.Coefficients.{Ops, times, power}
use Rattle.alg_rings.specs.Laws.{RingLaws}
use Rattle.alg_rings.proofs.Rings
use Rattle.alg_rings.proofs.Rings.{sorted}

module _ {A : Type 0} {o : Ops A} (R : RingLaws o) where
  open o use {zero as O, one as I, add as ◌⊕◌, mul as ◌⊗◌, neg}

  infixl 60 ◌⊕◌
  infixl 70 ◌⊗◌
  pub power_add : (a : A) (m n : ℕ) → power o a (m + n) ≡ power o a m ⊗ power o a n
  power_add a m zero = ap (power o a) (add-zero m) ∙ sym (Rings.mul_one R (power o a m))
  power_add a m (suc n) = ap (power o a) (add-suc m n) ∙ ap (λ t. t ⊗ a) (power_add a m n) ∙ R.mul_assoc _ _ _

  pub power_product : (a b : A) (n : ℕ) → power o (a ⊗ b) n ≡ power o a n ⊗ power o b n
  power_product a b zero = sym (R.one_mul I)
  power_product a b (suc n) = ap (λ t. t ⊗ (a ⊗ b)) (power_product a b n) ∙ simp (sorted, R)

  pub power_power : (a : A) (m n : ℕ) → power o (power o a m) n ≡ power o a (m * n)
  power_power a m zero = ap (power o a) (sym (mul-zero m))
  power_power a m (suc n) =
      ap (λ t. t ⊗ power o a m) (power_power a m n) ∙ sym (power_add a (m * n) m) ∙ ap (power o a) (sym (mul-suc m n))

  pub power_of_one : (n : ℕ) → power o I n ≡ I
  power_of_one zero = refl
  power_of_one (suc n) = ap (λ t. t ⊗ I) (power_of_one n) ∙ R.one_mul I

  pub power_of_zero : (n : ℕ) → power o O (suc n) ≡ O
  power_of_zero n = Rings.mul_zero R (power o O n)

  pub power_one : (a : A) → power o a 1 ≡ a
  power_one a = R.one_mul a

  pub times_zero : (n : ℕ) → times o n O ≡ O
  times_zero zero = refl
  times_zero (suc n) = R.zero_add (times o n O) ∙ times_zero n

  pub times_add : (m n : ℕ) (a : A) → times o (m + n) a ≡ times o m a ⊕ times o n a
  times_add m zero a = ap (λ k. times o k a) (add-zero m) ∙ sym (Rings.add_zero R (times o m a))
  times_add m (suc n) a = ap (λ k. times o k a) (add-suc m n) ∙ ap (λ t. a ⊕ t) (times_add m n a) ∙ simp (sorted, R)

  pub times_sum : (n : ℕ) (a b : A) → times o n (a ⊕ b) ≡ times o n a ⊕ times o n b
  times_sum zero a b = sym (R.zero_add O)
  times_sum (suc n) a b = ap (λ t. a ⊕ b ⊕ t) (times_sum n a b) ∙ simp (sorted, R)

  pub times_mul : (n : ℕ) (a b : A) → times o n (a ⊗ b) ≡ times o n a ⊗ b
  times_mul zero a b = sym (Rings.zero_mul R b)
  times_mul (suc n) a b = ap (λ t. a ⊗ b ⊕ t) (times_mul n a b) ∙ sym (Rings.add_mul R a (times o n a) b)

  pub mul_times : (n : ℕ) (a b : A) → times o n (a ⊗ b) ≡ a ⊗ times o n b
  mul_times n a b = ap (times o n) (R.mul_comm a b) ∙ times_mul n b a ∙ R.mul_comm (times o n b) a

  pub times_times : (m n : ℕ) (a : A) → times o (m * n) a ≡ times o m (times o n a)
  times_times m zero a = ap (λ k. times o k a) (mul-zero m) ∙ sym (times_zero m)
  times_times m (suc n) a =
      ap (λ k. times o k a) (mul-suc m n) ∙ times_add (m * n) m a ∙ ap (λ t. t ⊕ times o m a) (times_times m n a)
      ∙ R.add_comm _ _ ∙ sym (times_sum m a (times o n a))

  pub times_one : (n : ℕ) (a : A) → times o n a ≡ times o n I ⊗ a
  times_one n a = ap (times o n) (sym (R.one_mul a)) ∙ times_mul n I a
