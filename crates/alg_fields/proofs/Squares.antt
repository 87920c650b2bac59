-- Square factors, by a derivation: a map that keeps the product rule.
use Rattle.std.proofs.Common.{◌≡◌, ℕ, ap, ap₂, sym, ◌∙◌, zero, suc, ◌<◌, arith}
use Rattle.alg_model.specs.Coefficients.{Ops, times, power}
use Rattle.alg_rings.specs.Laws.{RingLaws}
use Rattle.alg_rings.proofs.Rings
use Rattle.alg_rings.proofs.Rings.{sorted, expanded}
use Rattle.alg_rings.proofs.Divisibility.{Divides, divides_same, divides_sum, divides_multiple, divides_multiple_right, divides_product_left, divides_itself, divides_trans}
use Rattle.alg_divisors.proofs.Euclidean.{EuclideanLaws}
use Rattle.alg_rings.proofs.Powers
use Rattle.alg_divisors.proofs.Gcd.{Coprime, coprime_unit}

abbrev pub ProductRule : {P : Type 0} → Ops P → (P → P) → Type 0
ProductRule {P} o D = (a b : P) → D (o.mul a b) ≡ o.add (o.mul (D a) b) (o.mul a (D b))

module _ {P : Type 0} {o : Ops P} (L : RingLaws o) {D : P → P} (rule : ProductRule o D) where
  open o use {zero as O, one as I, add as ◌⊕◌, mul as ◌⊗◌, neg}

  infixl 60 ◌⊕◌
  infixl 70 ◌⊗◌
  -- where g * g divides f, g divides the derivative of f
  pub square_divides_derivative : {f g : P} → Divides o (g ⊗ g) f → Divides o g (D f)
  square_divides_derivative {f} {g} h =
      divides_same L (sym (rule h.quotient (g ⊗ g)) ∙ ap D h.identity)
      (divides_sum L (divides_multiple L (D h.quotient) (divides_product_left L g g))
      (divides_multiple L h.quotient (divides_same L (sym (rule g g))
      (divides_sum L (divides_multiple L (D g) (divides_itself L g)) (divides_multiple_right L (D g) (divides_itself L g))))))

  -- an element coprime to its derivative is a product of coprime elements alone
  pub coprime_factors : {f : P} (g h : P) → Coprime o f (D f) → g ⊗ h ≡ f → Coprime o g h
  coprime_factors {f} g h c e = record {
    first = c.first ⊗ h ⊕ c.second ⊗ D h;
    second = c.second ⊗ D g;
    identity = together g h c.first c.second (D g) (D h)
        ∙ ap₂ (λ s t. c.first ⊗ s ⊕ c.second ⊗ t) e (sym (rule g h) ∙ ap D e) ∙ c.identity;
  }
    where
      together : (g h u w s t : P) → (u ⊗ h ⊕ w ⊗ t) ⊗ g ⊕ w ⊗ s ⊗ h ≡ u ⊗ (g ⊗ h) ⊕ w ⊗ (s ⊗ h ⊕ g ⊗ t)
      together g h u w s t = simp (expanded, L)

  pub derivative_of_power : (a : P) (n : ℕ) → D (power o a (suc n)) ≡ times o (suc n) (power o a n ⊗ D a)
  derivative_of_power a zero = ap D (L.one_mul a) ∙ sym (Rings.add_zero L (I ⊗ D a) ∙ L.one_mul (D a))
  derivative_of_power a (suc n) =
      rule (power o a (suc n)) a
      ∙ ap (λ t. t ⊗ a ⊕ power o a (suc n) ⊗ D a) (derivative_of_power a n)
      ∙ ap (λ t. t ⊕ power o a (suc n) ⊗ D a)
      (sym (Powers.times_mul L (suc n) (power o a n ⊗ D a) a) ∙ ap (times o (suc n)) (turn (power o a n) (D a) a))
      ∙ L.add_comm (times o (suc n) (power o a (suc n) ⊗ D a)) (power o a (suc n) ⊗ D a)
    where
      turn : (x y z : P) → x ⊗ y ⊗ z ≡ x ⊗ z ⊗ y
      turn x y z = simp (sorted, L)

  -- in characteristic p a power p has derivative zero
  pub derivative_of_power_characteristic : (p : ℕ) → 0 < p → ((a : P) → times o p a ≡ O) → (a : P) → D (power o a p) ≡ O
  derivative_of_power_characteristic zero l h a = absurd (omega arith)
  derivative_of_power_characteristic (suc n) l h a = derivative_of_power a n ∙ h (power o a n ⊗ D a)

module _ {P : Type 0} {o : Ops P} {size : P → ℕ} {Monic : P → Type 0} (E : EuclideanLaws o size Monic) {D : P → P} (rule : ProductRule o D) where
  -- an element coprime to its derivative has no square factor
  pub square_free : {f g : P} → Coprime o f (D f) → Divides o (o.mul g g) f → size g ≡ 1
  square_free {f} {g} c h =
      coprime_unit E c (divides_trans E.ring (divides_product_left E.ring g g) h) (square_divides_derivative E.ring rule h)
