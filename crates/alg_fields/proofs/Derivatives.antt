-- Derivatives. `raw_derivative` keeps zeros at the end.
use Rattle.std.proofs.Common.{◌≡◌, ℕ, zero, suc, List, [], ◌∷◌, refl, ap, ap₂, sym, ◌∙◌, slice_index_or, ◌+◌, ◌<◌, length, arith, add-zero}
use Rattle.alg_model.specs.Coefficients.{Ops, times}
use Rattle.alg_model.specs.Polynomials.{sum, scale, shift, product, trim, poly_sum, poly_product, multiples_from, derivative}
use Rattle.alg_rings.specs.Laws.{RingLaws}
use Rattle.alg_rings.proofs.Rings
use Rattle.alg_rings.proofs.Lists
use Rattle.alg_rings.proofs.Trims
use Rattle.alg_rings.proofs.Powers

abbrev pub raw_derivative : {A : Type 0} → Ops A → List A → List A
raw_derivative o [] = []
raw_derivative o (x ∷ xs) = multiples_from o 1 xs

module _ {A : Type 0} {o : Ops A} (R : RingLaws o) where
  open o use {zero as O, one as I, add as ◌⊕◌, mul as ◌⊗◌, neg}

  infixl 60 ◌⊕◌
  infixl 70 ◌⊗◌
  pub derivative_is_trimmed : (f : List A) → derivative o f ≡ trim o (raw_derivative o f)
  derivative_is_trimmed [] = refl
  derivative_is_trimmed (x ∷ xs) = refl

  multiples_from_suc : (n : ℕ) (f : List A) → multiples_from o (suc n) f ≡ sum o f (multiples_from o n f)
  multiples_from_suc n [] = refl
  multiples_from_suc n (x ∷ xs) = ap (λ w. times o (suc n) x ∷ w) (multiples_from_suc (suc n) xs)

  -- (c + x * f)' = f + x * f'
  pub raw_derivative_cons : (c : A) (f : List A) → raw_derivative o (c ∷ f) ≡ sum o f (shift o (raw_derivative o f))
  raw_derivative_cons c [] = refl
  raw_derivative_cons c (x ∷ xs) =
      ap₂ ◌∷◌ (Rings.add_zero R x) (multiples_from_suc 1 xs) ∙ sym (Lists.sum_cons_shift R x xs (multiples_from o 1 xs))

  multiples_from_sum : (n : ℕ) (f g : List A) → multiples_from o n (sum o f g) ≡ sum o (multiples_from o n f) (multiples_from o n g)
  multiples_from_sum n [] g = refl
  multiples_from_sum n (x ∷ xs) [] = refl
  multiples_from_sum n (x ∷ xs) (y ∷ ys) = ap₂ ◌∷◌ (Powers.times_sum R n x y) (multiples_from_sum (suc n) xs ys)

  pub raw_derivative_sum : (f g : List A) → raw_derivative o (sum o f g) ≡ sum o (raw_derivative o f) (raw_derivative o g)
  raw_derivative_sum [] g = refl
  raw_derivative_sum (x ∷ xs) [] = sym (Lists.sum_nil o (multiples_from o 1 xs))
  raw_derivative_sum (x ∷ xs) (y ∷ ys) = multiples_from_sum 1 xs ys

  multiples_from_scale : (n : ℕ) (c : A) (f : List A) → multiples_from o n (scale o c f) ≡ scale o c (multiples_from o n f)
  multiples_from_scale n c [] = refl
  multiples_from_scale n c (x ∷ xs) = ap₂ ◌∷◌ (Powers.mul_times R n c x) (multiples_from_scale (suc n) c xs)

  pub raw_derivative_scale : (c : A) (f : List A) → raw_derivative o (scale o c f) ≡ scale o c (raw_derivative o f)
  raw_derivative_scale c [] = refl
  raw_derivative_scale c (x ∷ xs) = multiples_from_scale 1 c xs

  -- (x * f)' = f + x * f'
  pub raw_derivative_shift : (f : List A) → raw_derivative o (shift o f) ≡ sum o f (shift o (raw_derivative o f))
  raw_derivative_shift [] = refl
  raw_derivative_shift (x ∷ xs) = raw_derivative_cons O (x ∷ xs)

  pub raw_derivative_product : (f g : List A)
      → raw_derivative o (product o f g) ≡ sum o (product o (raw_derivative o f) g) (product o f (raw_derivative o g))
  raw_derivative_product [] g = refl
  raw_derivative_product (x ∷ xs) g =
      raw_derivative_sum (scale o x g) (shift o (product o xs g))
      ∙ ap₂ (sum o) (raw_derivative_scale x g) (raw_derivative_shift (product o xs g)
      ∙ ap (λ w. sum o (product o xs g) (shift o w)) (raw_derivative_product xs g)
      ∙ ap (sum o (product o xs g)) (Lists.shift_sum R (product o (raw_derivative o xs) g) (product o xs (raw_derivative o g))))
      ∙ reorder (scale o x (raw_derivative o g)) (product o xs g) (shift o (product o (raw_derivative o xs) g)) (shift o (product o xs (raw_derivative o g)))
      ∙ ap (λ w. sum o w (product o (x ∷ xs) (raw_derivative o g))) (sym (
      ap (λ w. product o w g) (raw_derivative_cons x xs)
      ∙ Lists.sum_product R xs (shift o (raw_derivative o xs)) g
      ∙ ap (sum o (product o xs g)) (Lists.shift_product R (raw_derivative o xs) g)))
    where
      reorder : (a b c d : List A) → sum o a (sum o b (sum o c d)) ≡ sum o (sum o b c) (sum o a d)
      reorder a b c d =
          ap (sum o a) (sym (Lists.sum_assoc R b c d)) ∙ Lists.sum_left_comm R a (sum o b c) d

  pub multiples_from_at : (n : ℕ) (f : List A) (k : ℕ) → slice_index_or (multiples_from o n f) k O ≡ times o (n + k) (slice_index_or f k O)
  multiples_from_at n [] k = sym (Powers.times_zero R (n + k))
  multiples_from_at n (x ∷ xs) zero = ap (λ k. times o k x) (sym (add-zero n))
  multiples_from_at n (x ∷ xs) (suc k) =
      multiples_from_at (suc n) xs k ∙ ap (λ j. times o j (slice_index_or xs k O)) (omega arith)

  pub raw_derivative_at : (f : List A) (k : ℕ) → slice_index_or (raw_derivative o f) k O ≡ times o (suc k) (slice_index_or f (suc k) O)
  raw_derivative_at [] k = sym (Powers.times_zero R (suc k))
  raw_derivative_at (x ∷ xs) k =
      let e : 1 + k ≡ suc k = omega arith in multiples_from_at 1 xs k ∙ ap (λ j. times o j (slice_index_or xs k O)) e

  -- ---- derivatives of polynomials
  raw_derivative_trim : (f : List A) → trim o (raw_derivative o (trim o f)) ≡ trim o (raw_derivative o f)
  raw_derivative_trim f = Trims.trim_same o R.zero_test (raw_derivative o (trim o f)) (raw_derivative o f)
      (λ k. raw_derivative_at (trim o f) k ∙ ap (times o (suc k)) (Trims.trim_at o R.zero_test f (suc k)) ∙ sym (raw_derivative_at f k))

  pub derivative_of_sum : (f g : List A) → derivative o (poly_sum o f g) ≡ poly_sum o (derivative o f) (derivative o g)
  derivative_of_sum f g =
      derivative_is_trimmed (poly_sum o f g) ∙ raw_derivative_trim (sum o f g) ∙ ap (trim o) (raw_derivative_sum f g)
      ∙ sym (Trims.trim_sum_same R (derivative o f) (raw_derivative o f) (derivative o g) (raw_derivative o g) (same f) (same g))
    where
      same : (f : List A) → trim o (derivative o f) ≡ trim o (raw_derivative o f)
      same f = ap (trim o) (derivative_is_trimmed f) ∙ Trims.trim_trim o R.zero_test (raw_derivative o f)

  pub derivative_of_product : (f g : List A)
      → derivative o (poly_product o f g) ≡ poly_sum o (poly_product o (derivative o f) g) (poly_product o f (derivative o g))
  derivative_of_product f g =
      derivative_is_trimmed (poly_product o f g) ∙ raw_derivative_trim (product o f g) ∙ ap (trim o) (raw_derivative_product f g)
      ∙ sym (Trims.trim_sum_same R (poly_product o (derivative o f) g) (product o (raw_derivative o f) g)
      (poly_product o f (derivative o g)) (product o f (raw_derivative o g)) first second)
    where
      first : trim o (poly_product o (derivative o f) g) ≡ trim o (product o (raw_derivative o f) g)
      first = Trims.trim_trim o R.zero_test (product o (derivative o f) g) ∙ ap (λ d. trim o (product o d g)) (derivative_is_trimmed f)
          ∙ Trims.trim_product_first R (raw_derivative o f) g

      second : trim o (poly_product o f (derivative o g)) ≡ trim o (product o f (raw_derivative o g))
      second = Trims.trim_trim o R.zero_test (product o f (derivative o g)) ∙ ap (λ d. trim o (product o f d)) (derivative_is_trimmed g)
          ∙ Trims.trim_product_second R f (raw_derivative o g)

module _ {A : Type 0} (o : Ops A) where
  length_multiples_from : (n : ℕ) (f : List A) → length (multiples_from o n f) ≡ length f
  length_multiples_from n [] = refl
  length_multiples_from n (x ∷ xs) = ap suc (length_multiples_from (suc n) xs)

  pub length_derivative : (f : List A) → 0 < length f → length (derivative o f) < length f
  length_derivative [] l = absurd (omega arith)
  length_derivative (x ∷ xs) l = omega (arith, Trims.length_trim o (multiples_from o 1 xs), length_multiples_from 1 xs)
