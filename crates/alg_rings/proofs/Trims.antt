-- Coefficient lists without zeros at their end: `trim` keeps each place, and its result is told by the places alone.
use Rattle.std.proofs.Common.{max, true, false, cond, Bool, ◌≡◌, ◌≢◌, ◌↔◌, IsTrue, ℕ, zero, suc, ◌-◌, ◌≤◌, ◌<◌, cond, List, [], ◌∷◌, map, length, slice_index_or, refl, ap, ap₂, sym, ◌∙◌, arith, ⊎_elim}
use Rattle.std.proofs.lemmas.Bool.{cases_lt}
use Rattle.std.proofs.lemmas.List.{length-map, get_or_past}
use Rattle.alg_model.specs.Coefficients.{Ops}
use Rattle.alg_model.specs.Polynomials.{poly_sum, poly_difference, sum, scale, shift, product, cons_trimmed, trim, leading}
use Rattle.alg_rings.specs.Laws.{RingLaws}
use Rattle.alg_rings.proofs.Rings
use Rattle.alg_rings.proofs.Lists.{length_sum, sum_at, scale_at, negatives_at, shift_at_zero, shift_at, product_at, suc_minus_one, convolution_to_same}

-- ---- what needs no law
module _ {A : Type 0} (o : Ops A) where
  length_cond : (b : Bool) (x : A) → length (cond b [] (x ∷ [])) ≤ 1
  length_cond true x = omega arith
  length_cond false x = omega arith

  length_cons_trimmed : (x : A) (f : List A) → length (cons_trimmed o x f) ≤ suc (length f)
  length_cons_trimmed x [] = length_cond (o.is_zero x) x
  length_cons_trimmed x (y ∷ ys) = omega arith

  pub length_trim : (f : List A) → length (trim o f) ≤ length f
  length_trim [] = omega arith
  length_trim (x ∷ xs) = omega (arith, length_cons_trimmed x (trim o xs), length_trim xs)

  pub length_poly_sum : (f g : List A) → length (poly_sum o f g) ≤ max (length f) (length g)
  length_poly_sum f g = omega (arith, length_trim (sum o f g), length_sum o f g)

  pub length_poly_difference : (f g : List A) → length (poly_difference o f g) ≤ max (length f) (length g)
  length_poly_difference f g = omega (arith, length_poly_sum f (map o.neg g), length-map g o.neg)

  pub leading_cons : (x : A) (f : List A) → 0 < length f → leading o (x ∷ f) ≡ leading o f
  leading_cons x [] l = absurd (omega arith)
  leading_cons x (y ∷ ys) l = refl

  pub leading_shift : (f : List A) → leading o (shift o f) ≡ leading o f
  leading_shift [] = refl
  leading_shift (x ∷ xs) = refl

  pub leading_at : (f : List A) → leading o f ≡ slice_index_or f (length f - 1) o.zero
  leading_at [] = refl
  leading_at (x ∷ []) = refl
  leading_at (x ∷ y ∷ ys) =
      leading_at (y ∷ ys)
      ∙ ap (λ i. slice_index_or (y ∷ ys) i o.zero) (suc_minus_one (length ys))
      ∙ sym (ap (λ i. slice_index_or (x ∷ y ∷ ys) i o.zero) (suc_minus_one (suc (length ys))))

  -- a shorter list doesn't change the last coefficient
  pub leading_sum_longer : (f g : List A) → length f < length g → leading o (sum o f g) ≡ leading o g
  leading_sum_longer [] g l = refl
  leading_sum_longer (x ∷ xs) [] l = absurd (omega arith)
  leading_sum_longer (x ∷ xs) (y ∷ ys) l =
      leading_cons (o.add x y) (sum o xs ys) (omega (arith, length_sum o xs ys))
      ∙ leading_sum_longer xs ys (omega arith)
      ∙ sym (leading_cons y ys (omega arith))

module _ {A : Type 0} (o : Ops A) (Z : (x : A) → IsTrue (o.is_zero x) ↔ (x ≡ o.zero)) where
  open o use {zero as O}

  -- ---- one coefficient below a trimmed list
  pub cons_trimmed_zero : (c : A) → c ≡ O → cons_trimmed o c [] ≡ []
  cons_trimmed_zero c e = ap (λ b. cond b [] (c ∷ [])) ((Z c).1 e)

  pub cons_trimmed_not_zero : (c : A) → c ≢ O → cons_trimmed o c [] ≡ c ∷ []
  cons_trimmed_not_zero c h = ap (λ b. cond b [] (c ∷ [])) (Rings.is_zero_of_not_zero o Z c h)

  pub cons_trimmed_at_zero : (c : A) (f : List A) → slice_index_or (cons_trimmed o c f) 0 O ≡ c
  cons_trimmed_at_zero c [] =
      ⊎_elim (λ e. ap (λ w. slice_index_or w 0 O) (cons_trimmed_zero c e) ∙ sym e)
      (λ h. ap (λ w. slice_index_or w 0 O) (cons_trimmed_not_zero c h)) (Rings.zero_or_not o Z c)
  cons_trimmed_at_zero c (x ∷ xs) = refl

  pub cons_trimmed_at : (c : A) (f : List A) (k : ℕ) → slice_index_or (cons_trimmed o c f) (suc k) O ≡ slice_index_or f k O
  cons_trimmed_at c [] k =
      ⊎_elim (λ e. ap (λ w. slice_index_or w (suc k) O) (cons_trimmed_zero c e))
      (λ h. ap (λ w. slice_index_or w (suc k) O) (cons_trimmed_not_zero c h)) (Rings.zero_or_not o Z c)
  cons_trimmed_at c (x ∷ xs) k = refl

  -- ---- trim keeps each place, and the places tell it
  pub trim_at : (f : List A) (k : ℕ) → slice_index_or (trim o f) k O ≡ slice_index_or f k O
  trim_at [] k = refl
  trim_at (x ∷ xs) zero = cons_trimmed_at_zero x (trim o xs)
  trim_at (x ∷ xs) (suc k) = cons_trimmed_at x (trim o xs) k ∙ trim_at xs k

  pub trim_zeros : (f : List A) → ((k : ℕ) → slice_index_or f k O ≡ O) → trim o f ≡ []
  trim_zeros [] h = refl
  trim_zeros (x ∷ xs) h = ap (cons_trimmed o x) (trim_zeros xs (λ k. h (suc k))) ∙ cons_trimmed_zero x (h 0)

  pub trim_same : (f g : List A) → ((k : ℕ) → slice_index_or f k O ≡ slice_index_or g k O) → trim o f ≡ trim o g
  trim_same [] g h = sym (trim_zeros g (λ k. sym (h k)))
  trim_same (x ∷ xs) [] h = trim_zeros (x ∷ xs) h
  trim_same (x ∷ xs) (y ∷ ys) h = ap₂ (cons_trimmed o) (h 0) (trim_same xs ys (λ k. h (suc k)))

  pub places_of_trim : (f g : List A) → trim o f ≡ trim o g → (k : ℕ) → slice_index_or f k O ≡ slice_index_or g k O
  places_of_trim f g e k = sym (trim_at f k) ∙ ap (λ w. slice_index_or w k O) e ∙ trim_at g k

  -- trimmed lists that agree at each place are equal
  pub same_from_places : (f g : List A) → trim o f ≡ f → trim o g ≡ g
      → ((k : ℕ) → slice_index_or f k O ≡ slice_index_or g k O) → f ≡ g
  same_from_places f g ef eg h = sym ef ∙ trim_same f g h ∙ eg

  -- a trimmed list that agrees with f at each place is the trim of f
  pub trim_is : (f g : List A) → trim o g ≡ g → ((k : ℕ) → slice_index_or f k O ≡ slice_index_or g k O) → trim o f ≡ g
  trim_is f g eg h = trim_same f g h ∙ eg

  pub trim_trim : (f : List A) → trim o (trim o f) ≡ trim o f
  trim_trim f = trim_same (trim o f) f (trim_at f)

  -- ---- the last coefficient
  pub trimmed_from_leading : (f : List A) → leading o f ≢ O → trim o f ≡ f
  trimmed_from_leading [] h = refl
  trimmed_from_leading (x ∷ []) h = cons_trimmed_not_zero x h
  trimmed_from_leading (x ∷ y ∷ ys) h = ap (cons_trimmed o x) (trimmed_from_leading (y ∷ ys) h)

  cons_trimmed_tail : (x : A) (t xs : List A) → cons_trimmed o x t ≡ x ∷ xs → t ≡ xs
  cons_trimmed_tail x [] xs e =
      ⊎_elim (λ z. let t = cons_trimmed_zero x z in cc) (λ h. let t = cons_trimmed_not_zero x h in cc) (Rings.zero_or_not o Z x)
  cons_trimmed_tail x (y ∷ ys) xs e = cc

  pub trimmed_tail : (x : A) (xs : List A) → trim o (x ∷ xs) ≡ x ∷ xs → trim o xs ≡ xs
  trimmed_tail x xs e = cons_trimmed_tail x (trim o xs) xs e

  -- what is cons of a trimmed list that isn't empty is trimmed
  pub trimmed_cons : (x y : A) (ys : List A) → trim o (y ∷ ys) ≡ y ∷ ys → trim o (x ∷ y ∷ ys) ≡ x ∷ y ∷ ys
  trimmed_cons x y ys e = ap (cons_trimmed o x) e

  pub leading_of_trimmed : (x : A) (xs : List A) → trim o (x ∷ xs) ≡ x ∷ xs → leading o (x ∷ xs) ≢ O
  leading_of_trimmed x [] e z = let t = cons_trimmed_zero x z in cc
  leading_of_trimmed x (y ∷ ys) e z = leading_of_trimmed y ys (trimmed_tail x (y ∷ ys) e) z

  -- a trimmed list is empty exactly if its last coefficient is zero
  pub nil_from_leading : (f : List A) → trim o f ≡ f → leading o f ≡ O → f ≡ []
  nil_from_leading [] e z = refl
  nil_from_leading (x ∷ xs) e z = absurd (leading_of_trimmed x xs e z)

  pub leading_from_not_nil : (f : List A) → trim o f ≡ f → f ≢ [] → leading o f ≢ O
  leading_from_not_nil f e h z = h (nil_from_leading f e z)

  -- ---- lengths
  pub last_not_zero : (f : List A) → trim o f ≡ f → 0 < length f → slice_index_or f (length f - 1) O ≢ O
  last_not_zero [] e l z = absurd (omega arith)
  last_not_zero (x ∷ xs) e l z = leading_of_trimmed x xs e (leading_at o (x ∷ xs) ∙ z)

  -- zeros from n on leave at most n coefficients
  pub length_trim_below : (f : List A) (n : ℕ) → ((k : ℕ) → n ≤ k → slice_index_or f k O ≡ O) → length (trim o f) ≤ n
  length_trim_below f n h =
      ⊎_elim (λ l. absurd (last_not_zero (trim o f) (trim_trim f) (omega arith)
      (trim_at f (length (trim o f) - 1) ∙ h (length (trim o f) - 1) (omega arith))))
      (λ l. l) (cases_lt n (length (trim o f)))

  -- a place that isn't zero is kept
  pub length_trim_above : (f : List A) (k : ℕ) → slice_index_or f k O ≢ O → k < length (trim o f)
  length_trim_above f k h =
      ⊎_elim (λ l. l) (λ l. absurd (h (sym (trim_at f k) ∙ get_or_past (trim o f) k O l))) (cases_lt k (length (trim o f)))

module _ {A : Type 0} {o : Ops A} (R : RingLaws o) where
  open o use {zero as O, add as ◌⊕◌, mul as ◌⊗◌, neg}

  infixl 60 ◌⊕◌
  infixl 70 ◌⊗◌
  -- ---- what depends on the places alone: trimming a part first changes nothing
  pub trim_sum_same : (f f' g g' : List A) → trim o f ≡ trim o f' → trim o g ≡ trim o g' → trim o (sum o f g) ≡ trim o (sum o f' g')
  trim_sum_same f f' g g' e e' = trim_same o R.zero_test (sum o f g) (sum o f' g')
      (λ k. sum_at R f g k ∙ ap₂ ◌⊕◌ (places_of_trim o R.zero_test f f' e k) (places_of_trim o R.zero_test g g' e' k) ∙ sym (sum_at R f' g' k))

  pub trim_sum_first : (f g : List A) → trim o (sum o (trim o f) g) ≡ trim o (sum o f g)
  trim_sum_first f g = trim_sum_same (trim o f) f g g (trim_trim o R.zero_test f) refl

  pub trim_sum_second : (f g : List A) → trim o (sum o f (trim o g)) ≡ trim o (sum o f g)
  trim_sum_second f g = trim_sum_same f f (trim o g) g refl (trim_trim o R.zero_test g)

  pub trim_scale : (c : A) (f : List A) → trim o (scale o c (trim o f)) ≡ trim o (scale o c f)
  trim_scale c f = trim_same o R.zero_test (scale o c (trim o f)) (scale o c f)
      (λ k. scale_at R c (trim o f) k ∙ ap (λ w. c ⊗ w) (trim_at o R.zero_test f k) ∙ sym (scale_at R c f k))

  pub trim_negatives : (f : List A) → trim o (map neg (trim o f)) ≡ trim o (map neg f)
  trim_negatives f = trim_same o R.zero_test (map neg (trim o f)) (map neg f)
      (λ k. negatives_at R (trim o f) k ∙ ap neg (trim_at o R.zero_test f k) ∙ sym (negatives_at R f k))

  pub trim_shift : (f : List A) → trim o (shift o (trim o f)) ≡ trim o (shift o f)
  trim_shift f = trim_same o R.zero_test (shift o (trim o f)) (shift o f) same
    where
      same : (k : ℕ) → slice_index_or (shift o (trim o f)) k O ≡ slice_index_or (shift o f) k O
      same zero = shift_at_zero o (trim o f) ∙ sym (shift_at_zero o f)
      same (suc k) = shift_at o (trim o f) k ∙ trim_at o R.zero_test f k ∙ sym (shift_at o f k)

  pub trim_product_same : (f f' g g' : List A) → trim o f ≡ trim o f' → trim o g ≡ trim o g'
      → trim o (product o f g) ≡ trim o (product o f' g')
  trim_product_same f f' g g' e e' = trim_same o R.zero_test (product o f g) (product o f' g')
      (λ k. product_at R f g k ∙ convolution_to_same o k f f' g g' k (places_of_trim o R.zero_test f f' e) (places_of_trim o R.zero_test g g' e')
      ∙ sym (product_at R f' g' k))

  pub trim_product_first : (f g : List A) → trim o (product o (trim o f) g) ≡ trim o (product o f g)
  trim_product_first f g = trim_product_same (trim o f) f g g (trim_trim o R.zero_test f) refl

  pub trim_product_second : (f g : List A) → trim o (product o f (trim o g)) ≡ trim o (product o f g)
  trim_product_second f g = trim_product_same f f (trim o g) g refl (trim_trim o R.zero_test g)
