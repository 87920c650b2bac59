-- Over a carrier that is a ring the operations on valid elements and lists give valid ones.
use Rattle.std.proofs.Common.{◌≡◌, ℕ, List, map, slice_index_or, subst, All}
use Rattle.alg_model.specs.Coefficients.{Ops, Carrier, times, power}
use Rattle.alg_model.specs.Polynomials.{sum, scale, shift, product, trim, poly_negative, leading, multiples_from, evaluate, convolution}
use Rattle.alg_model.specs.Fields.{IsRing}
use Rattle.alg_rings.proofs.Homomorphisms
use Rattle.alg_rings.proofs.Elements.{Element, underlying, element_ops, underlying_homomorphism, on_valid, on_valid₂, underlying_valid}

valid_image : {A : Type 0} (c : Carrier A) (F : List (Element c)) (f : List A) → map (underlying c) F ≡ f → All c.Valid f
valid_image c F f e = subst (All c.Valid) e (underlying_valid c F)

module _ {A : Type 0} {c : Carrier A} (R : IsRing c) where
  abbrev H : Homomorphisms.Homomorphism (element_ops R) c.ops (underlying c)
  H = underlying_homomorphism R

  abbrev E : Ops (Element c)
  E = element_ops R

  pub times_valid : (n : ℕ) (a : A) → c.Valid a → c.Valid (times c.ops n a)
  times_valid n a v = subst c.Valid (Homomorphisms.times-map H n (a, v)) (times E n (a, v)).1

  pub power_valid : (a : A) (n : ℕ) → c.Valid a → c.Valid (power c.ops a n)
  power_valid a n v = subst c.Valid (Homomorphisms.power-map H (a, v) n) (power E (a, v) n).1

  pub sum_valid : (f g : List A) → All c.Valid f → All c.Valid g → All c.Valid (sum c.ops f g)
  sum_valid f g vf vg = on_valid₂ c (λ f g. All c.Valid (sum c.ops f g))
      (λ F G. valid_image c (sum E F G) _ (Homomorphisms.sum-map H F G)) f g vf vg

  pub scale_valid : (a : A) (f : List A) → c.Valid a → All c.Valid f → All c.Valid (scale c.ops a f)
  scale_valid a f v vf = on_valid c (λ f. All c.Valid (scale c.ops a f))
      (λ F. valid_image c (scale E (a, v) F) _ (Homomorphisms.scale-map H (a, v) F)) f vf

  pub shift_valid : (f : List A) → All c.Valid f → All c.Valid (shift c.ops f)
  shift_valid f vf = on_valid c (λ f. All c.Valid (shift c.ops f))
      (λ F. valid_image c (shift E F) _ (Homomorphisms.shift-map H F)) f vf

  pub product_valid : (f g : List A) → All c.Valid f → All c.Valid g → All c.Valid (product c.ops f g)
  product_valid f g vf vg = on_valid₂ c (λ f g. All c.Valid (product c.ops f g))
      (λ F G. valid_image c (product E F G) _ (Homomorphisms.product-map H F G)) f g vf vg

  pub trim_valid : (f : List A) → All c.Valid f → All c.Valid (trim c.ops f)
  trim_valid f vf = on_valid c (λ f. All c.Valid (trim c.ops f))
      (λ F. valid_image c (trim E F) _ (Homomorphisms.trim-map H F)) f vf

  pub negatives_valid : (f : List A) → All c.Valid f → All c.Valid (poly_negative c.ops f)
  negatives_valid f vf = on_valid c (λ f. All c.Valid (poly_negative c.ops f))
      (λ F. valid_image c (poly_negative E F) _ (Homomorphisms.negatives-map H F)) f vf

  pub place_valid : (f : List A) (k : ℕ) → All c.Valid f → c.Valid (slice_index_or f k c.ops.zero)
  place_valid f k vf = on_valid c (λ f. c.Valid (slice_index_or f k c.ops.zero))
      (λ F. subst c.Valid (Homomorphisms.place-map H F k) (slice_index_or F k E.zero).1) f vf

  pub leading_valid : (f : List A) → All c.Valid f → c.Valid (leading c.ops f)
  leading_valid f vf = on_valid c (λ f. c.Valid (leading c.ops f))
      (λ F. subst c.Valid (Homomorphisms.leading-map H F) (leading E F).1) f vf

  pub convolution_valid : (f g : List A) (k : ℕ) → All c.Valid f → All c.Valid g → c.Valid (convolution c.ops f g k)
  convolution_valid f g k vf vg = on_valid₂ c (λ f g. c.Valid (convolution c.ops f g k))
      (λ F G. subst c.Valid (Homomorphisms.convolution-map H F G k) (convolution E F G k).1) f g vf vg

  pub value_at_valid : (f : List A) (a : A) → All c.Valid f → c.Valid a → c.Valid (evaluate c.ops f a)
  value_at_valid f a vf v = on_valid c (λ f. c.Valid (evaluate c.ops f a))
      (λ F. subst c.Valid (Homomorphisms.evaluate-map H F (a, v)) (evaluate E F (a, v)).1) f vf

  pub multiples_from_valid : (n : ℕ) (f : List A) → All c.Valid f → All c.Valid (multiples_from c.ops n f)
  multiples_from_valid n f vf = on_valid c (λ f. All c.Valid (multiples_from c.ops n f))
      (λ F. valid_image c (multiples_from E n F) _ (Homomorphisms.multiples_from-map H n F)) f vf
