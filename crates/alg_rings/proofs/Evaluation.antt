-- The value of a polynomial at a point, for lists with zeros at the end kept.
use Rattle.std.proofs.Common.{◌≡◌, true, false, List, [], ◌∷◌, map, refl, ap, ap₂, sym, ◌∙◌, ⊎_elim}
use Rattle.std.proofs.lemmas.Bool.{cases_Bool}
use Rattle.alg_model.specs.Coefficients.{Ops}
use Rattle.alg_model.specs.Polynomials.{sum, scale, shift, product, cons_trimmed, trim, evaluate}
use Rattle.alg_rings.specs.Laws.{RingLaws}
use Rattle.alg_rings.proofs.Rings
use Rattle.alg_rings.proofs.Rings.{sorted, expanded}

module _ {A : Type 0} {o : Ops A} (R : RingLaws o) where
  open o use {zero as O, one as I, add as ◌⊕◌, mul as ◌⊗◌, neg}

  infixl 60 ◌⊕◌
  infixl 70 ◌⊗◌
  pub value_of_constant : (c a : A) → evaluate o (c ∷ []) a ≡ c
  value_of_constant c a = ap (λ w. c ⊕ w) (Rings.mul_zero R a) ∙ Rings.add_zero R c

  pub value_of_sum : (f g : List A) (a : A) → evaluate o (sum o f g) a ≡ evaluate o f a ⊕ evaluate o g a
  value_of_sum [] g a = sym (R.zero_add (evaluate o g a))
  value_of_sum (x ∷ xs) [] a = sym (Rings.add_zero R (evaluate o (x ∷ xs) a))
  value_of_sum (x ∷ xs) (y ∷ ys) a = ap (λ w. x ⊕ y ⊕ a ⊗ w) (value_of_sum xs ys a) ∙ simp (expanded, R)

  pub value_of_scale : (c : A) (f : List A) (a : A) → evaluate o (scale o c f) a ≡ c ⊗ evaluate o f a
  value_of_scale c [] a = sym (Rings.mul_zero R c)
  value_of_scale c (x ∷ xs) a = ap (λ w. c ⊗ x ⊕ a ⊗ w) (value_of_scale c xs a) ∙ simp (expanded, R)

  pub value_of_negatives : (f : List A) (a : A) → evaluate o (map neg f) a ≡ neg (evaluate o f a)
  value_of_negatives [] a = sym (Rings.neg_zero R)
  value_of_negatives (x ∷ xs) a =
      ap (λ w. neg x ⊕ a ⊗ w) (value_of_negatives xs a) ∙ ap (λ w. neg x ⊕ w) (Rings.mul_neg R a (evaluate o xs a))
      ∙ sym (Rings.neg_sum R x (a ⊗ evaluate o xs a))

  pub value_of_shift : (f : List A) (a : A) → evaluate o (shift o f) a ≡ a ⊗ evaluate o f a
  value_of_shift [] a = sym (Rings.mul_zero R a)
  value_of_shift (x ∷ xs) a = R.zero_add (a ⊗ evaluate o (x ∷ xs) a)

  pub value_of_product : (f g : List A) (a : A) → evaluate o (product o f g) a ≡ evaluate o f a ⊗ evaluate o g a
  value_of_product [] g a = sym (Rings.zero_mul R (evaluate o g a))
  value_of_product (x ∷ xs) g a =
      value_of_sum (scale o x g) (shift o (product o xs g)) a
      ∙ ap₂ ◌⊕◌ (value_of_scale x g a) (value_of_shift (product o xs g) a ∙ ap (λ w. a ⊗ w) (value_of_product xs g a))
      ∙ together x a (evaluate o xs a) (evaluate o g a)
    where
      together : (u v w z : A) → u ⊗ z ⊕ v ⊗ (w ⊗ z) ≡ (u ⊕ v ⊗ w) ⊗ z
      together u v w z = simp (expanded, R)

  value_of_cons_trimmed : (x : A) (f : List A) (a : A) → evaluate o (cons_trimmed o x f) a ≡ x ⊕ a ⊗ evaluate o f a
  value_of_cons_trimmed x (y ∷ ys) a = refl
  value_of_cons_trimmed x [] a = ⊎_elim dropped kept (cases_Bool (o.is_zero x))
    where
      dropped : o.is_zero x ≡ true → evaluate o (cons_trimmed o x []) a ≡ x ⊕ a ⊗ O
      dropped e = rw e (rw ((R.zero_test x).0 e) (sym (value_of_constant O a)))

      kept : o.is_zero x ≡ false → evaluate o (cons_trimmed o x []) a ≡ x ⊕ a ⊗ O
      kept e = rw e

  pub value_of_trim : (f : List A) (a : A) → evaluate o (trim o f) a ≡ evaluate o f a
  value_of_trim [] a = refl
  value_of_trim (x ∷ xs) a = value_of_cons_trimmed x (trim o xs) a ∙ ap (λ w. x ⊕ a ⊗ w) (value_of_trim xs a)
