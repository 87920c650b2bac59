-- Sums and products of polynomials, zeros at the end dropped, over a commutative ring: the laws of a commutative ring as
-- equations between lists.
use Rattle.std.proofs.Common.{◌≡◌, ◌↔◌, IsTrue, List, [], ◌∷◌, map, slice_index_or, refl, ap, sym, ◌∙◌}
use Rattle.alg_model.specs.Coefficients.{Ops}
use Rattle.alg_model.specs.Polynomials.{sum, scale, product, trim, poly_sum, poly_negative, poly_product, leading}
use Rattle.alg_rings.specs.Laws.{RingLaws}
use Rattle.alg_rings.proofs.Rings
use Rattle.alg_rings.proofs.Lists
use Rattle.alg_rings.proofs.Trims.{trim_at, trim_zeros, trim_trim, trim_is, trimmed_from_leading, leading_of_trimmed, trim_sum_same, trim_sum_first, trim_sum_second, trim_product_first, trim_product_second}

module _ {A : Type 0} {o : Ops A} (R : RingLaws o) where
  open o use {zero as O, one as I, add as ◌⊕◌, mul as ◌⊗◌, neg}

  infixl 60 ◌⊕◌
  infixl 70 ◌⊗◌
  Z : (x : A) → IsTrue (o.is_zero x) ↔ (x ≡ O)
  Z = R.zero_test

  -- ---- sums
  pub poly_sum_comm : (f g : List A) → poly_sum o f g ≡ poly_sum o g f
  poly_sum_comm f g = ap (trim o) (Lists.sum_comm R f g)

  pub poly_sum_assoc : (f g h : List A) → poly_sum o (poly_sum o f g) h ≡ poly_sum o f (poly_sum o g h)
  poly_sum_assoc f g h =
      trim_sum_first R (sum o f g) h ∙ ap (trim o) (Lists.sum_assoc R f g h) ∙ sym (trim_sum_second R f (sum o g h))

  pub poly_sum_nil : (f : List A) → trim o f ≡ f → poly_sum o f [] ≡ f
  poly_sum_nil f e = ap (trim o) (Lists.sum_nil o f) ∙ e

  pub nil_poly_sum : (f : List A) → trim o f ≡ f → poly_sum o [] f ≡ f
  nil_poly_sum f e = e

  -- ---- negatives
  leading_negatives : (f : List A) → leading o (map neg f) ≡ neg (leading o f)
  leading_negatives [] = sym (Rings.neg_zero R)
  leading_negatives (x ∷ []) = refl
  leading_negatives (x ∷ y ∷ ys) = leading_negatives (y ∷ ys)

  pub trimmed_negative : (f : List A) → trim o f ≡ f → trim o (poly_negative o f) ≡ poly_negative o f
  trimmed_negative [] e = refl
  trimmed_negative (x ∷ xs) e = trimmed_from_leading o Z (map neg (x ∷ xs))
      (λ z. leading_of_trimmed o Z x xs e
      (sym (Rings.neg_neg R (leading o (x ∷ xs))) ∙ ap neg (sym (leading_negatives (x ∷ xs)) ∙ z) ∙ Rings.neg_zero R))

  pub trim_negative : (f : List A) → trim o (poly_negative o f) ≡ poly_negative o (trim o f)
  trim_negative f = trim_is o Z (map neg f) (map neg (trim o f)) (trimmed_negative (trim o f) (trim_trim o Z f))
      (λ k. Lists.negatives_at R f k ∙ ap neg (sym (trim_at o Z f k)) ∙ sym (Lists.negatives_at R (trim o f) k))

  pub poly_sum_negative : (f : List A) → poly_sum o f (poly_negative o f) ≡ []
  poly_sum_negative f = trim_zeros o Z (sum o f (map neg f))
      (λ k. Lists.sum_at R f (map neg f) k ∙ ap (λ w. slice_index_or f k O ⊕ w) (Lists.negatives_at R f k)
      ∙ R.add_neg (slice_index_or f k O))

  -- ---- products
  pub poly_product_comm : (f g : List A) → poly_product o f g ≡ poly_product o g f
  poly_product_comm f g = ap (trim o) (Lists.product_comm R f g)

  pub poly_product_assoc : (f g h : List A) → poly_product o (poly_product o f g) h ≡ poly_product o f (poly_product o g h)
  poly_product_assoc f g h =
      trim_product_first R (product o f g) h ∙ ap (trim o) (Lists.product_assoc R f g h)
      ∙ sym (trim_product_second R f (product o g h))

  pub poly_product_sum : (f g h : List A)
      → poly_product o f (poly_sum o g h) ≡ poly_sum o (poly_product o f g) (poly_product o f h)
  poly_product_sum f g h =
      trim_product_second R f (sum o g h) ∙ ap (trim o) (Lists.product_sum R f g h)
      ∙ sym (trim_sum_same R (poly_product o f g) (product o f g) (poly_product o f h) (product o f h)
      (trim_trim o Z (product o f g)) (trim_trim o Z (product o f h)))

  pub poly_product_nil : (f : List A) → poly_product o f [] ≡ []
  poly_product_nil f = ap (trim o) (Lists.product_nil o f)

  pub nil_poly_product : (f : List A) → poly_product o [] f ≡ []
  nil_poly_product f = refl

  pub one_poly_product : (f : List A) → trim o f ≡ f → poly_product o (trim o (I ∷ [])) f ≡ f
  one_poly_product f e = trim_product_first R (I ∷ []) f ∙ ap (trim o) (Lists.one_product R f) ∙ e

  pub constant_poly_product : (c : A) (f : List A) → poly_product o (c ∷ []) f ≡ trim o (scale o c f)
  constant_poly_product c f = ap (trim o) (Lists.constant_product R c f)
