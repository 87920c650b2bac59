-- What follows from the laws of a commutative ring, on its elements.
use Rattle.std.proofs.Common.{◌≡◌, ◌≢◌, ◌⊎◌, ◌↔◌, true, false, IsTrue, refl, ap, ap₂, sym, ◌∙◌, inl, inr, ⊎_elim}
use Rattle.std.proofs.lemmas.Bool.{false≢true, false_from_ne_true, cases_Bool}
use Rattle.alg_model.specs.Coefficients.{Ops}
use Rattle.alg_rings.specs.Laws.{RingLaws}

-- what needs no law but that the test for zero tells zero
module _ {A : Type 0} (o : Ops A) (Z : (x : A) → IsTrue (o.is_zero x) ↔ (x ≡ o.zero)) where
  pub is_zero_of_zero : o.is_zero o.zero ≡ true
  is_zero_of_zero = (Z o.zero).1 refl

  pub is_zero_of_not_zero : (x : A) → x ≢ o.zero → o.is_zero x ≡ false
  is_zero_of_not_zero x h = false_from_ne_true (o.is_zero x) (λ e. h ((Z x).0 e))

  -- an element is zero or not
  pub zero_or_not : (x : A) → (x ≡ o.zero) ⊎ (x ≢ o.zero)
  zero_or_not x = ⊎_elim (λ e. inl ((Z x).0 e)) (λ e. inr (λ z. false≢true (sym e ∙ (Z x).1 z))) (cases_Bool (o.is_zero x))

module _ {A : Type 0} {o : Ops A} (R : RingLaws o) where
  open o use {zero as O, one as I, add as ◌⊕◌, mul as ◌⊗◌, neg}

  infixl 60 ◌⊕◌
  infixl 70 ◌⊗◌
  pub add_comm : (x y : A) → x ⊕ y ≡ y ⊕ x
  add_comm x y = R.add_comm x y

  pub add_assoc : (x y z : A) → x ⊕ y ⊕ z ≡ x ⊕ (y ⊕ z)
  add_assoc x y z = R.add_assoc x y z

  pub add_left_comm : (x y z : A) → x ⊕ (y ⊕ z) ≡ y ⊕ (x ⊕ z)
  add_left_comm x y z = sym (R.add_assoc x y z) ∙ ap (λ w. w ⊕ z) (R.add_comm x y) ∙ R.add_assoc y x z

  pub mul_comm : (x y : A) → x ⊗ y ≡ y ⊗ x
  mul_comm x y = R.mul_comm x y

  pub mul_assoc : (x y z : A) → x ⊗ y ⊗ z ≡ x ⊗ (y ⊗ z)
  mul_assoc x y z = R.mul_assoc x y z

  pub mul_left_comm : (x y z : A) → x ⊗ (y ⊗ z) ≡ y ⊗ (x ⊗ z)
  mul_left_comm x y z = sym (R.mul_assoc x y z) ∙ ap (λ w. w ⊗ z) (R.mul_comm x y) ∙ R.mul_assoc y x z

  pub zero_add : (x : A) → O ⊕ x ≡ x
  zero_add x = R.zero_add x

  pub add_zero : (x : A) → x ⊕ O ≡ x
  add_zero x = R.add_comm x O ∙ R.zero_add x

  pub one_mul : (x : A) → I ⊗ x ≡ x
  one_mul x = R.one_mul x

  pub mul_one : (x : A) → x ⊗ I ≡ x
  mul_one x = R.mul_comm x I ∙ R.one_mul x

  pub mul_add : (x y z : A) → x ⊗ (y ⊕ z) ≡ x ⊗ y ⊕ x ⊗ z
  mul_add x y z = R.mul_add x y z

  pub add_mul : (x y z : A) → (x ⊕ y) ⊗ z ≡ x ⊗ z ⊕ y ⊗ z
  add_mul x y z = R.mul_comm (x ⊕ y) z ∙ R.mul_add z x y ∙ ap₂ ◌⊕◌ (R.mul_comm z x) (R.mul_comm z y)

  pub add_neg : (x : A) → x ⊕ neg x ≡ O
  add_neg x = R.add_neg x

  pub neg_add : (x : A) → neg x ⊕ x ≡ O
  neg_add x = R.add_comm (neg x) x ∙ R.add_neg x

  -- Sums and products in one order, so that `simp` closes what differs by it
  pub ruleset sorted_sums = (add_assoc, add_comm, add_left_comm, add_zero, zero_add)

  pub ruleset sorted = (sorted_sums, mul_assoc, mul_comm, mul_left_comm, mul_one, one_mul)

  pub ruleset expanded = (mul_add, add_mul, sorted)

  pub add_swap : (a b c d : A) → (a ⊕ b) ⊕ (c ⊕ d) ≡ (a ⊕ c) ⊕ (b ⊕ d)
  add_swap a b c d = simp (sorted_sums)

  pub add_cancel : (x y z : A) → x ⊕ y ≡ x ⊕ z → y ≡ z
  add_cancel x y z e = sym (back y) ∙ ap (λ w. neg x ⊕ w) e ∙ back z
    where
      back : (w : A) → neg x ⊕ (x ⊕ w) ≡ w
      back w = sym (R.add_assoc (neg x) x w) ∙ ap (λ v. v ⊕ w) (neg_add x) ∙ R.zero_add w

  pub add_cancel_right : (x y z : A) → y ⊕ x ≡ z ⊕ x → y ≡ z
  add_cancel_right x y z e = add_cancel x y z (R.add_comm x y ∙ e ∙ R.add_comm z x)

  -- what is added to x to make zero is the negative of x
  pub neg_unique : (x y : A) → x ⊕ y ≡ O → y ≡ neg x
  neg_unique x y e = add_cancel x y (neg x) (e ∙ sym (R.add_neg x))

  pub neg_neg : (x : A) → neg (neg x) ≡ x
  neg_neg x = sym (neg_unique (neg x) x (neg_add x))

  pub neg_zero : neg O ≡ O
  neg_zero = sym (neg_unique O O (R.zero_add O))

  pub neg_sum : (x y : A) → neg (x ⊕ y) ≡ neg x ⊕ neg y
  neg_sum x y = sym (neg_unique (x ⊕ y) (neg x ⊕ neg y) (add_swap x y (neg x) (neg y) ∙ ap₂ ◌⊕◌ (R.add_neg x) (R.add_neg y) ∙ R.zero_add O))

  pub mul_zero : (x : A) → x ⊗ O ≡ O
  mul_zero x = add_cancel (x ⊗ O) (x ⊗ O) O
      (sym (R.mul_add x O O) ∙ ap (λ w. x ⊗ w) (R.zero_add O) ∙ sym (add_zero (x ⊗ O)))

  pub zero_mul : (x : A) → O ⊗ x ≡ O
  zero_mul x = R.mul_comm O x ∙ mul_zero x

  pub mul_neg : (x y : A) → x ⊗ neg y ≡ neg (x ⊗ y)
  mul_neg x y = neg_unique (x ⊗ y) (x ⊗ neg y) (sym (R.mul_add x y (neg y)) ∙ ap (λ w. x ⊗ w) (R.add_neg y) ∙ mul_zero x)

  pub neg_mul : (x y : A) → neg x ⊗ y ≡ neg (x ⊗ y)
  neg_mul x y = R.mul_comm (neg x) y ∙ mul_neg y x ∙ ap neg (R.mul_comm y x)

  pub neg_one_mul : (x : A) → neg I ⊗ x ≡ neg x
  neg_one_mul x = neg_mul I x ∙ ap neg (R.one_mul x)

  pub neg_mul_neg : (x y : A) → neg x ⊗ neg y ≡ x ⊗ y
  neg_mul_neg x y = neg_mul x (neg y) ∙ ap neg (mul_neg x y) ∙ neg_neg (x ⊗ y)

  -- x + y = z exactly where x = z - y
  pub sum_to_difference : (x y z : A) → x ⊕ y ≡ z → x ≡ z ⊕ neg y
  sum_to_difference x y z e = add_cancel_right y x (z ⊕ neg y) (e ∙ sym (R.add_assoc z (neg y) y ∙ ap (λ w. z ⊕ w) (neg_add y) ∙ add_zero z))

  pub difference_to_sum : (x y z : A) → x ≡ z ⊕ neg y → x ⊕ y ≡ z
  difference_to_sum x y z e = ap (λ w. w ⊕ y) e ∙ R.add_assoc z (neg y) y ∙ ap (λ w. z ⊕ w) (neg_add y) ∙ add_zero z

  pub same_from_difference : (x y : A) → x ⊕ neg y ≡ O → x ≡ y
  same_from_difference x y e = sum_to_difference x (neg y) O e ∙ R.zero_add (neg (neg y)) ∙ neg_neg y

  -- two elements are equal or not
  pub equal_or_not : (x y : A) → (x ≡ y) ⊎ (x ≢ y)
  equal_or_not x y = ⊎_elim
      (λ e. inl (same_from_difference x y e))
      (λ n. inr (λ e. n (ap (λ t. t ⊕ neg y) e ∙ R.add_neg y)))
      (zero_or_not o R.zero_test (x ⊕ neg y))

  pub add_difference : (x y : A) → x ⊕ (y ⊕ neg x) ≡ y
  add_difference x y = add_left_comm x y (neg x) ∙ ap (λ w. y ⊕ w) (R.add_neg x) ∙ add_zero y

  -- q * d + r = q' * d + r' makes (q - q') * d = r' - r
  pub difference_of_multiples : (q q' d r r' : A) → q ⊗ d ⊕ r ≡ q' ⊗ d ⊕ r' → (q ⊕ neg q') ⊗ d ≡ r' ⊕ neg r
  difference_of_multiples q q' d r r' e =
      let turned : r' ⊕ neg r ⊕ q' ⊗ d ≡ q' ⊗ d ⊕ r' ⊕ neg r = simp sorted_sums in
      add_mul q (neg q') d ∙ ap (λ w. q ⊗ d ⊕ w) (neg_mul q' d)
      ∙ sym (sum_to_difference (r' ⊕ neg r) (q' ⊗ d) (q ⊗ d) (turned ∙ sym (sum_to_difference (q ⊗ d) r (q' ⊗ d ⊕ r') e)))
