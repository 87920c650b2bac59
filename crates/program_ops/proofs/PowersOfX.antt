-- Values of x^n and of polynomials of two terms, in a commutative ring.
use Rattle.std.proofs.Common.{◌≡◌, ℕ, zero, suc, [], ◌∷◌, ◌++◌, replicate, ap, ap₂, ◌∙◌}
use Rattle.alg_model.specs.Coefficients.{Ops, power}
use Rattle.alg_model.specs.Polynomials.{evaluate}
use Rattle.alg_rings.specs.Laws.{RingLaws}
use Rattle.alg_rings.proofs.Rings
use Rattle.alg_rings.proofs.Evaluation.{value_of_constant}

module _ {A : Type 0} {o : Ops A} (R : RingLaws o) where
  open o use {zero as O, one as I, add as ◌⊕◌, mul as ◌⊗◌, neg}

  infixl 60 ◌⊕◌
  infixl 70 ◌⊗◌
  -- n zeros and a one are the coefficients of x^n
  pub value_of_power_of_x : (n : ℕ) (a : A)
      → evaluate o (replicate n O ++ (I ∷ [])) a ≡ power o a n
  value_of_power_of_x zero a = value_of_constant R I a
  value_of_power_of_x (suc n) a = R.zero_add _ ∙ ap (λ w. a ⊗ w) (value_of_power_of_x n a)
      ∙ R.mul_comm a (power o a n)

  pub value_of_square : (a : A) → evaluate o (O ∷ O ∷ I ∷ []) a ≡ a ⊗ a
  value_of_square a = value_of_power_of_x 2 a ∙ ap (λ w. w ⊗ a) (R.one_mul a)

  -- x^(n + 2) - x
  pub value_of_power_less_x : (n : ℕ) (a : A)
      → evaluate o (O ∷ neg I ∷ (replicate n O ++ (I ∷ []))) a ≡ power o a (suc (suc n)) ⊕ neg a
  value_of_power_less_x n a = R.zero_add _
      ∙ ap (λ w. a ⊗ (neg I ⊕ a ⊗ w)) (value_of_power_of_x n a)
      ∙ R.mul_add a (neg I) (a ⊗ power o a n)
      ∙ ap₂ ◌⊕◌ (Rings.mul_neg R a I ∙ ap neg (Rings.mul_one R a))
      (R.mul_comm a (a ⊗ power o a n) ∙ ap (λ w. w ⊗ a) (R.mul_comm a (power o a n)))
      ∙ R.add_comm (neg a) (power o a n ⊗ a ⊗ a)

  pub value_of_successor : (a : A) → evaluate o (I ∷ I ∷ []) a ≡ a ⊕ I
  value_of_successor a = ap (λ w. I ⊕ a ⊗ w) (value_of_constant R I a)
      ∙ ap (λ w. I ⊕ w) (Rings.mul_one R a) ∙ R.add_comm I a
