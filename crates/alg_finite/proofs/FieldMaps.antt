-- Maps between fields that keep one, sums and products keep every operation, and are injective.
use Rattle.std.proofs.Common.{◌≡◌, ◌≢◌, ⊎_elim, ap, ap₂, sym, ◌∙◌}
use Rattle.alg_model.specs.Coefficients.{Ops}
use Rattle.alg_rings.specs.Laws.{RingLaws, FieldLaws}
use Rattle.alg_rings.proofs.Rings
use Rattle.alg_rings.proofs.Homomorphisms.{Homomorphism}

module _ {A B : Type 0} {o : Ops A} {o' : Ops B} {h : A → B} where
  -- a map that keeps the operations of rings and tells zero is injective
  pub injective : RingLaws o → RingLaws o' → Homomorphism o o' h → (x y : A) → h x ≡ h y → x ≡ y
  injective R R' H x y e = Rings.same_from_difference R x y
      ((R.zero_test (o.add x (o.neg y))).0
      (H.is_zero (o.add x (o.neg y)) ∙ (R'.zero_test (h (o.add x (o.neg y)))).1
      (H.add x (o.neg y) ∙ ap₂ o'.add e (H.neg y) ∙ R'.add_neg (h y))))

  module _ (F : FieldLaws o) (F' : FieldLaws o') (one : h o.one ≡ o'.one)
      (add : (x y : A) → h (o.add x y) ≡ o'.add (h x) (h y))
      (mul : (x y : A) → h (o.mul x y) ≡ o'.mul (h x) (h y)) where
    kept_zero : h o.zero ≡ o'.zero
    kept_zero = Rings.add_cancel F'.ring (h o.zero) (h o.zero) o'.zero
        (sym (add o.zero o.zero) ∙ ap h (F.ring.zero_add o.zero)
        ∙ sym (Rings.add_zero F'.ring (h o.zero)))

    kept_not_zero : (x : A) → x ≢ o.zero → h x ≢ o'.zero
    kept_not_zero x n e = let i : (y : A) × (o.mul x y ≡ o.one) = F.inverse x n in
        F'.one_not_zero (sym (sym (mul x i.0) ∙ ap h i.1 ∙ one) ∙ ap (λ t. o'.mul t (h i.0)) e
        ∙ Rings.zero_mul F'.ring (h i.0))

    -- **between fields it is enough to keep one, sums and products**
    pub field_homomorphism : Homomorphism o o' h
    field_homomorphism = record {
      zero = kept_zero;
      one = one;
      add = add;
      mul = mul;
      neg = λ x. Rings.neg_unique F'.ring (h x) (h (o.neg x))
          (sym (add x (o.neg x)) ∙ ap h (F.ring.add_neg x) ∙ kept_zero);
      is_zero = λ x. ⊎_elim
          (λ z. (F.ring.zero_test x).1 z ∙ sym ((F'.ring.zero_test (h x)).1 (ap h z ∙ kept_zero)))
          (λ n. Rings.is_zero_of_not_zero o F.ring.zero_test x n
          ∙ sym (Rings.is_zero_of_not_zero o' F'.ring.zero_test (h x) (kept_not_zero x n)))
          (Rings.zero_or_not o F.ring.zero_test x);
    }
