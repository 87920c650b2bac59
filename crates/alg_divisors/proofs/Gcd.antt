-- Greatest common divisors as combinations (Bezout), and coprime elements.
--     Combination o a b g       u * a + w * b = g
--     Gcd o a b g               g divides both and is a combination of them, so each common divisor divides it
--     Coprime o a b             one is a combination
use Rattle.std.proofs.Common.{◌≡◌, ◌⊎◌, ⊎_elim, inl, inr, ℕ, zero, suc, ◌<◌, sym, ap, ap₂, ◌∙◌, arith}
use Rattle.alg_model.specs.Coefficients.{Ops}
use Rattle.alg_rings.specs.Laws.{RingLaws}
use Rattle.alg_rings.proofs.Rings.{zero_or_not, mul_zero, zero_mul, mul_one, add_mul, neg_mul, add_zero, neg_unique, expanded}
use Rattle.alg_rings.proofs.Divisibility.{Divides, divides_itself, divides_zero, divides_trans, divides_multiple, divides_multiple_right, divides_product, divides_sum, divides_negative, divides_same}
use Rattle.alg_divisors.proofs.Euclidean.{EuclideanLaws, normal, monic_unique, inverse_of_unit, unit_from_divisor}

pub record Combination {R : Type 0} (o : Ops R) (a b g : R) : Type 0 where
  pub first : R
  pub second : R
  pub identity : o.add (o.mul first a) (o.mul second b) ≡ g

pub record Gcd {R : Type 0} (o : Ops R) (a b g : R) : Type 0 where
  pub divides_first : Divides o g a
  pub divides_second : Divides o g b
  pub combination : Combination o a b g

abbrev pub Coprime : {R : Type 0} → Ops R → R → R → Type 0
Coprime o a b = Combination o a b o.one

module _ {R : Type 0} {o : Ops R} (L : RingLaws o) where
  open o use {zero as O, one as I, add as ◌⊕◌, mul as ◌⊗◌, neg}

  infixl 60 ◌⊕◌
  infixl 70 ◌⊗◌
  pub divides_combination : {a b g h : R} → Combination o a b g → Divides o h a → Divides o h b → Divides o h g
  divides_combination {a} {b} {g} {h} c p q = divides_same L c.identity
      (divides_sum L (divides_multiple L c.first p) (divides_multiple L c.second q))

  pub gcd_greatest : {a b g h : R} → Gcd o a b g → Divides o h a → Divides o h b → Divides o h g
  gcd_greatest c = divides_combination c.combination

  pub combination_swap : {a b g : R} → Combination o a b g → Combination o b a g
  combination_swap {a} {b} {g} c = record {
    first = c.second;
    second = c.first;
    identity = L.add_comm (c.second ⊗ b) (c.first ⊗ a) ∙ c.identity;
  }

  -- a multiple of a combination is one
  pub combination_multiple : {a b g h : R} → Combination o a b g → Divides o g h → Combination o a b h
  combination_multiple {a} {b} {g} {h} c d = record {
    first = d.quotient ⊗ c.first;
    second = d.quotient ⊗ c.second;
    identity = ap₂ ◌⊕◌ (L.mul_assoc d.quotient c.first a) (L.mul_assoc d.quotient c.second b)
        ∙ sym (L.mul_add d.quotient (c.first ⊗ a) (c.second ⊗ b)) ∙ ap (λ t. d.quotient ⊗ t) c.identity ∙ d.identity;
  }

  step_identity : (q b r u w g : R) → u ⊗ b ⊕ w ⊗ r ≡ g → w ⊗ (q ⊗ b ⊕ r) ⊕ (u ⊕ neg (w ⊗ q)) ⊗ b ≡ g
  step_identity q b r u w g e =
      ap₂ ◌⊕◌ (L.mul_add w (q ⊗ b) r) (add_mul L u (neg (w ⊗ q)) b)
      ∙ ap (λ t. w ⊗ (q ⊗ b) ⊕ w ⊗ r ⊕ (u ⊗ b ⊕ t)) (neg_mul L (w ⊗ q) b ∙ ap neg (L.mul_assoc w q b))
      ∙ tidy (w ⊗ (q ⊗ b)) (w ⊗ r) (u ⊗ b)
      ∙ e
    where
      tidy : (x y z : R) → x ⊕ y ⊕ (z ⊕ neg x) ≡ z ⊕ y
      tidy x y z = ap (λ t. x ⊕ y ⊕ t) (L.add_comm z (neg x)) ∙ ap (λ t. t ⊕ (neg x ⊕ z)) (L.add_comm x y)
          ∙ L.add_assoc y x (neg x ⊕ z) ∙ ap (λ t. y ⊕ t) (sym (L.add_assoc x (neg x) z) ∙ ap (λ t. t ⊕ z) (L.add_neg x) ∙ L.zero_add z)
          ∙ L.add_comm y z

  -- Euclid's step: what is a gcd of b and the remainder is one of a and b
  pub gcd_step : {b r g : R} (a q : R) → a ≡ q ⊗ b ⊕ r → Gcd o b r g → Gcd o a b g
  gcd_step {b} {r} {g} a q e c = record {
    divides_first = divides_same L (sym e) (divides_sum L (divides_multiple L q c.divides_first) c.divides_second);
    divides_second = c.divides_first;
    combination = record {
      first = c.combination.second;
      second = c.combination.first ⊕ neg (c.combination.second ⊗ q);
      identity = ap (λ t. c.combination.second ⊗ t ⊕ (c.combination.first ⊕ neg (c.combination.second ⊗ q)) ⊗ b) e
          ∙ step_identity q b r c.combination.first c.combination.second g c.combination.identity;
    };
  }

  pub gcd_with_zero : (a b : R) → b ≡ O → Gcd o a b a
  gcd_with_zero a b e = record {
    divides_first = divides_itself L a;
    divides_second = divides_same L (sym e) (divides_zero L a);
    combination = record {
      first = I;
      second = O;
      identity = ap₂ ◌⊕◌ (L.one_mul a) (zero_mul L b) ∙ add_zero L a;
    };
  }

  -- of coprime elements one that divides a product with the other divides the rest
  pub coprime_cancel : {a b c : R} → Coprime o a b → Divides o a (b ⊗ c) → Divides o a c
  coprime_cancel {a} {b} {c} k h = divides_same L whole
      (divides_sum L (divides_multiple_right L c (divides_product L a k.first)) (divides_multiple L k.second h))
    where
      whole : k.first ⊗ a ⊗ c ⊕ k.second ⊗ (b ⊗ c) ≡ c
      whole = ap (λ t. k.first ⊗ a ⊗ c ⊕ t) (sym (L.mul_assoc k.second b c))
          ∙ sym (add_mul L (k.first ⊗ a) (k.second ⊗ b) c) ∙ ap (λ t. t ⊗ c) k.identity ∙ L.one_mul c

  -- coprime divisors divide by their product
  pub coprime_product_divides : {a b f : R} → Coprime o a b → Divides o a f → Divides o b f → Divides o (a ⊗ b) f
  coprime_product_divides {a} {b} {f} k h j = record { quotient = m.quotient; identity = same }
    where
      m : Divides o a j.quotient
      m = coprime_cancel k (divides_same L (sym j.identity ∙ L.mul_comm j.quotient b) h)

      same : m.quotient ⊗ (a ⊗ b) ≡ f
      same = sym (L.mul_assoc m.quotient a b) ∙ ap (λ t. t ⊗ b) m.identity ∙ j.identity

  -- v that is 0 modulo a and 1 modulo b
  pub chinese : {a b : R} → Coprime o a b → (v : R) × Divides o a v × Divides o b (v ⊕ neg I)
  chinese {a} {b} k = (
    k.first ⊗ a,
    divides_product L a k.first,
    divides_same L rest (divides_negative L (divides_product L b k.second)),
  )
    where
      rest : neg (k.second ⊗ b) ≡ k.first ⊗ a ⊕ neg I
      rest = sym (neg_unique L (k.second ⊗ b) (k.first ⊗ a ⊕ neg I)
          (sym (L.add_assoc (k.second ⊗ b) (k.first ⊗ a) (neg I))
          ∙ ap (λ t. t ⊕ neg I) (L.add_comm (k.second ⊗ b) (k.first ⊗ a) ∙ k.identity) ∙ L.add_neg I))

  -- an element coprime to two is coprime to their product
  pub coprime_product : {a b c : R} → Coprime o a b → Coprime o a c → Coprime o a (b ⊗ c)
  coprime_product {a} {b} {c} h k = record {
    first = h.first ⊕ h.second ⊗ b ⊗ k.first;
    second = h.second ⊗ k.second;
    identity = expand a b c h.first h.second k.first k.second
        ∙ ap (λ t. h.first ⊗ a ⊕ h.second ⊗ b ⊗ t) k.identity
        ∙ ap (λ t. h.first ⊗ a ⊕ t) (mul_one L (h.second ⊗ b)) ∙ h.identity;
  }
    where
      expand : (a b c u w x y : R)
          → (u ⊕ w ⊗ b ⊗ x) ⊗ a ⊕ w ⊗ y ⊗ (b ⊗ c) ≡ u ⊗ a ⊕ w ⊗ b ⊗ (x ⊗ a ⊕ y ⊗ c)
      expand a b c u w x y = simp (expanded, L)

module _ {R : Type 0} {o : Ops R} {size : R → ℕ} {Monic : R → Type 0} (E : EuclideanLaws o size Monic) where
  open o use {zero as O, one as I, add as ◌⊕◌, mul as ◌⊗◌, neg}

  infixl 60 ◌⊕◌
  infixl 70 ◌⊗◌
  gcd_below : (n : ℕ) (a b : R) → size b < n → (g : R) × Gcd o a b g
  gcd_below zero a b h = absurd (omega arith)
  gcd_below (suc n) a b h = ⊎_elim
      (λ e. (a, gcd_with_zero E.ring a b e))
      (λ m. step n a b h (E.divide a b m) (λ r l. gcd_below n b r l)) (zero_or_not o E.ring.zero_test b)
    where
      step : (n : ℕ) (a b : R) → size b < suc n → (q : R) × (r : R) × (a ≡ q ⊗ b ⊕ r) × (size r < size b)
          → ((r : R) → size r < n → (g : R) × Gcd o b r g) → (g : R) × Gcd o a b g
      step n a b h d rec = let c : (g : R) × Gcd o b d.1 g = rec d.1 (let l : size d.1 < size b = d.3 in omega arith) in
          (c.0, gcd_step E.ring a d.0 d.2 c.1)

  pub gcd_exists : (a b : R) → (g : R) × Gcd o a b g
  gcd_exists a b = gcd_below (suc (size b)) a b (omega arith)

  -- a monic gcd, or zero where both are zero
  pub monic_gcd : (a b : R) → (g : R) × (Monic g ⊎ (g ≡ O)) × Gcd o a b g
  monic_gcd a b = ⊎_elim (λ e. (c.0, inr e, c.1)) (λ n. scaled (normal E c.0 n)) (zero_or_not o E.ring.zero_test c.0)
    where
      c : (g : R) × Gcd o a b g
      c = gcd_exists a b

      scaled : (m : R) × Monic m × Divides o c.0 m × Divides o m c.0 → (g : R) × (Monic g ⊎ (g ≡ O)) × Gcd o a b g
      scaled m = (
        m.0,
        inl m.1,
        record {
          divides_first = divides_trans E.ring m.3 c.1.divides_first;
          divides_second = divides_trans E.ring m.3 c.1.divides_second;
          combination = combination_multiple E.ring c.1.combination m.2;
        },
      )

  -- of what divide one another, monic or zero, there is one
  pub monic_or_zero_unique : {g h : R} → Monic g ⊎ (g ≡ O) → Monic h ⊎ (h ≡ O) → Divides o g h → Divides o h g → g ≡ h
  monic_or_zero_unique {g} {h} mg mh p q = ⊎_elim
      (λ m. ⊎_elim (λ n. monic_unique E p q m n) (λ e. from_zero g h e q ∙ sym e) mh)
      (λ e. e ∙ sym (from_zero h g e p)) mg
    where
      from_zero : (x y : R) → y ≡ O → Divides o y x → x ≡ O
      from_zero x y e d = sym d.identity ∙ ap (λ t. d.quotient ⊗ t) e ∙ mul_zero E.ring d.quotient

  -- coprime elements have no common divisor but the units
  pub coprime_unit : {a b d : R} → Coprime o a b → Divides o d a → Divides o d b → size d ≡ 1
  coprime_unit {a} {b} {d} k h j = unit_from_divisor E d (divides_combination E.ring k h j)

  pub coprime_from_gcd : {a b g : R} → Gcd o a b g → size g ≡ 1 → Coprime o a b
  coprime_from_gcd {a} {b} {g} c e = combination_multiple E.ring c.combination (inverse_of_unit E g e)
