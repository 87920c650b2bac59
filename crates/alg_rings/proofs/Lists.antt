-- Sums, multiples, shifts and products of coefficient lists over a commutative ring, with zeros at the end kept: they form a
-- commutative semiring.
use Rattle.std.proofs.Common.{inl, inr, ◌⊎◌, ◌≢◌, ◌≡◌, ℕ, zero, suc, ◌+◌, ◌-◌, ◌≤◌, ◌<◌, max, List, [], ◌∷◌, map, length, slice_index_or, refl, ap, ap₂, sym, ◌∙◌, arith}
use Rattle.alg_model.specs.Coefficients.{Ops}
use Rattle.alg_model.specs.Polynomials.{sum, scale, shift, product, convolution_to, convolution}
use Rattle.alg_rings.specs.Laws.{RingLaws}
use Rattle.alg_rings.proofs.Rings

suc_minus : (k n : ℕ) → suc k - suc n ≡ k - n
suc_minus k n = omega arith

pub suc_minus_one : (k : ℕ) → suc k - 1 ≡ k
suc_minus_one k = omega arith

-- ---- what needs no law
pub nil_or_not : {A : Type 0} (f : List A) → (f ≡ []) ⊎ (f ≢ [])
nil_or_not [] = inl refl
nil_or_not (x ∷ xs) = inr (λ e. cc)

pub length_not_nil : {A : Type 0} (f : List A) → f ≢ [] → 0 < length f
length_not_nil [] h = absurd (h refl)
length_not_nil (x ∷ xs) h = omega arith

pub not_nil_from_length : {A : Type 0} (f : List A) → 0 < length f → f ≢ []
not_nil_from_length f l e = let z : length f ≡ 0 = ap length e in absurd (omega arith)

module _ {A : Type 0} (o : Ops A) where
  open o use {zero as O, add as ◌⊕◌, mul as ◌⊗◌}

  infixl 60 ◌⊕◌
  infixl 70 ◌⊗◌
  pub sum_nil : (f : List A) → sum o f [] ≡ f
  sum_nil [] = refl
  sum_nil (x ∷ xs) = refl

  pub length_sum : (f g : List A) → length (sum o f g) ≡ max (length f) (length g)
  length_sum [] g = omega arith
  length_sum (x ∷ xs) [] = omega arith
  length_sum (x ∷ xs) (y ∷ ys) = let e = length_sum xs ys in omega arith

  pub length_scale : (c : A) (f : List A) → length (scale o c f) ≡ length f
  length_scale c [] = refl
  length_scale c (x ∷ xs) = ap suc (length_scale c xs)

  pub length_le_shift : (f : List A) → length f ≤ length (shift o f)
  length_le_shift [] = omega arith
  length_le_shift (x ∷ xs) = omega arith

  pub length_shift : (f : List A) → 0 < length f → length (shift o f) ≡ length f + 1
  length_shift [] l = absurd (omega arith)
  length_shift (x ∷ xs) l = omega arith

  pub product_nil : (f : List A) → product o f [] ≡ []
  product_nil [] = refl
  product_nil (x ∷ xs) = ap (shift o) (product_nil xs)

  pub length_product : (x : A) (xs : List A) (y : A) (ys : List A)
      → length (product o (x ∷ xs) (y ∷ ys)) ≡ length xs + length ys + 1
  length_product x [] y ys = omega (arith, length_scale x ys)
  length_product x (z ∷ zs) y ys =
      let P = product o (z ∷ zs) (y ∷ ys) in
      let l : length P ≡ length zs + length ys + 1 = length_product z zs y ys in
      length_sum (scale o x (y ∷ ys)) (shift o P) ∙ omega (arith, l, length_scale x (y ∷ ys), length_shift P (omega (arith, l)))

  pub shift_at_zero : (f : List A) → slice_index_or (shift o f) 0 O ≡ O
  shift_at_zero [] = refl
  shift_at_zero (x ∷ xs) = refl

  pub shift_at : (f : List A) (k : ℕ) → slice_index_or (shift o f) (suc k) O ≡ slice_index_or f k O
  shift_at [] k = refl
  shift_at (x ∷ xs) k = refl

  -- a convolution depends on the places alone
  pub convolution_to_same : (n : ℕ) (f f' g g' : List A) (k : ℕ) → ((i : ℕ) → slice_index_or f i O ≡ slice_index_or f' i O)
      → ((i : ℕ) → slice_index_or g i O ≡ slice_index_or g' i O) → convolution_to o n f g k ≡ convolution_to o n f' g' k
  convolution_to_same zero f f' g g' k e e' = ap₂ ◌⊗◌ (e 0) (e' k)
  convolution_to_same (suc n) f f' g g' k e e' =
      ap₂ ◌⊕◌ (convolution_to_same n f f' g g' k e e') (ap₂ ◌⊗◌ (e (suc n)) (e' (k - suc n)))

  pub convolution_to_cons : ((x y z : A) → x ⊕ y ⊕ z ≡ x ⊕ (y ⊕ z)) → (n : ℕ) (c : A) (f g : List A) (k : ℕ)
      → convolution_to o (suc n) (c ∷ f) g (suc k) ≡ c ⊗ slice_index_or g (suc k) O ⊕ convolution_to o n f g k
  convolution_to_cons assoc zero c f g k =
      ap (λ i. c ⊗ slice_index_or g (suc k) O ⊕ slice_index_or f 0 O ⊗ slice_index_or g i O) (suc_minus_one k)
  convolution_to_cons assoc (suc n) c f g k =
      ap₂ ◌⊕◌ (convolution_to_cons assoc n c f g k) (ap (λ i. slice_index_or f (suc n) O ⊗ slice_index_or g i O) (suc_minus k (suc n)))
      ∙ assoc (c ⊗ slice_index_or g (suc k) O) (convolution_to o n f g k) (slice_index_or f (suc n) O ⊗ slice_index_or g (k - suc n) O)

module _ {A : Type 0} {o : Ops A} (R : RingLaws o) where
  open o use {zero as O, one as I, add as ◌⊕◌, mul as ◌⊗◌, neg}

  infixl 60 ◌⊕◌
  infixl 70 ◌⊗◌
  -- ---- sums
  pub sum_comm : (f g : List A) → sum o f g ≡ sum o g f
  sum_comm [] g = sym (sum_nil o g)
  sum_comm (x ∷ xs) [] = refl
  sum_comm (x ∷ xs) (y ∷ ys) = ap₂ ◌∷◌ (R.add_comm x y) (sum_comm xs ys)

  pub sum_assoc : (f g h : List A) → sum o (sum o f g) h ≡ sum o f (sum o g h)
  sum_assoc [] g h = refl
  sum_assoc (x ∷ xs) [] h = refl
  sum_assoc (x ∷ xs) (y ∷ ys) [] = refl
  sum_assoc (x ∷ xs) (y ∷ ys) (z ∷ zs) = ap₂ ◌∷◌ (R.add_assoc x y z) (sum_assoc xs ys zs)

  pub sum_left_comm : (f g h : List A) → sum o f (sum o g h) ≡ sum o g (sum o f h)
  sum_left_comm f g h = sym (sum_assoc f g h) ∙ ap (λ w. sum o w h) (sum_comm f g) ∙ sum_assoc g f h

  pub sum_swap : (a b c d : List A) → sum o (sum o a b) (sum o c d) ≡ sum o (sum o a c) (sum o b d)
  sum_swap a b c d = sum_assoc a b (sum o c d) ∙ ap (sum o a) (sum_left_comm b c d) ∙ sym (sum_assoc a c (sum o b d))

  -- ---- multiples
  pub scale_sum : (c : A) (f g : List A) → scale o c (sum o f g) ≡ sum o (scale o c f) (scale o c g)
  scale_sum c [] g = refl
  scale_sum c (x ∷ xs) [] = refl
  scale_sum c (x ∷ xs) (y ∷ ys) = ap₂ ◌∷◌ (R.mul_add c x y) (scale_sum c xs ys)

  pub scale_add : (a b : A) (f : List A) → scale o (a ⊕ b) f ≡ sum o (scale o a f) (scale o b f)
  scale_add a b [] = refl
  scale_add a b (x ∷ xs) = ap₂ ◌∷◌ (Rings.add_mul R a b x) (scale_add a b xs)

  pub scale_scale : (a b : A) (f : List A) → scale o a (scale o b f) ≡ scale o (a ⊗ b) f
  scale_scale a b [] = refl
  scale_scale a b (x ∷ xs) = ap₂ ◌∷◌ (sym (R.mul_assoc a b x)) (scale_scale a b xs)

  pub scale_comm : (a b : A) (f : List A) → scale o a (scale o b f) ≡ scale o b (scale o a f)
  scale_comm a b f = scale_scale a b f ∙ ap (λ c. scale o c f) (R.mul_comm a b) ∙ sym (scale_scale b a f)

  pub scale_one : (f : List A) → scale o I f ≡ f
  scale_one [] = refl
  scale_one (x ∷ xs) = ap₂ ◌∷◌ (R.one_mul x) (scale_one xs)

  pub scale_neg_one : (f : List A) → scale o (neg I) f ≡ map neg f
  scale_neg_one [] = refl
  scale_neg_one (x ∷ xs) = ap₂ ◌∷◌ (Rings.neg_one_mul R x) (scale_neg_one xs)

  pub scale_neg : (c : A) (f : List A) → scale o (neg c) f ≡ map neg (scale o c f)
  scale_neg c [] = refl
  scale_neg c (x ∷ xs) = ap₂ ◌∷◌ (Rings.neg_mul R c x) (scale_neg c xs)

  pub scale_negatives : (c : A) (f : List A) → scale o c (map neg f) ≡ map neg (scale o c f)
  scale_negatives c [] = refl
  scale_negatives c (x ∷ xs) = ap₂ ◌∷◌ (Rings.mul_neg R c x) (scale_negatives c xs)

  pub negatives_sum : (f g : List A) → map neg (sum o f g) ≡ sum o (map neg f) (map neg g)
  negatives_sum [] g = refl
  negatives_sum (x ∷ xs) [] = refl
  negatives_sum (x ∷ xs) (y ∷ ys) = ap₂ ◌∷◌ (Rings.neg_sum R x y) (negatives_sum xs ys)

  pub negatives_negatives : (f : List A) → map neg (map neg f) ≡ f
  negatives_negatives [] = refl
  negatives_negatives (x ∷ xs) = ap₂ ◌∷◌ (Rings.neg_neg R x) (negatives_negatives xs)

  -- ---- shifts
  pub shift_sum : (f g : List A) → shift o (sum o f g) ≡ sum o (shift o f) (shift o g)
  shift_sum [] g = refl
  shift_sum (x ∷ xs) [] = refl
  shift_sum (x ∷ xs) (y ∷ ys) = ap (λ w. w ∷ (x ⊕ y) ∷ sum o xs ys) (sym (R.zero_add O))

  pub scale_shift : (c : A) (f : List A) → scale o c (shift o f) ≡ shift o (scale o c f)
  scale_shift c [] = refl
  scale_shift c (x ∷ xs) = ap (λ w. w ∷ (c ⊗ x) ∷ scale o c xs) (Rings.mul_zero R c)

  pub negatives_shift : (f : List A) → map neg (shift o f) ≡ shift o (map neg f)
  negatives_shift [] = refl
  negatives_shift (x ∷ xs) = ap (λ w. w ∷ neg x ∷ map neg xs) (Rings.neg_zero R)

  pub sum_cons_shift : (x : A) (xs f : List A) → sum o (x ∷ xs) (shift o f) ≡ x ∷ sum o xs f
  sum_cons_shift x xs [] = ap (λ w. x ∷ w) (sym (sum_nil o xs))
  sum_cons_shift x xs (y ∷ ys) = ap (λ w. w ∷ sum o xs (y ∷ ys)) (Rings.add_zero R x)

  -- zeros change no list that is at least as long
  pub sum_zeros : (f g : List A) → length f ≤ length g → sum o (scale o O f) g ≡ g
  sum_zeros [] g h = refl
  sum_zeros (x ∷ xs) [] h = absurd (omega arith)
  sum_zeros (x ∷ xs) (y ∷ ys) h =
      ap₂ ◌∷◌ (ap (λ w. w ⊕ y) (Rings.zero_mul R x) ∙ R.zero_add y) (sum_zeros xs ys (omega arith))

  -- ---- products
  pub product_cons : (f : List A) (c : A) (g : List A) → product o f (c ∷ g) ≡ sum o (scale o c f) (shift o (product o f g))
  product_cons [] c g = refl
  product_cons (x ∷ xs) c g =
      sum_cons_shift (x ⊗ c) (scale o x g) (product o xs (c ∷ g))
      ∙ ap₂ ◌∷◌ (R.mul_comm x c) (ap (sum o (scale o x g)) (product_cons xs c g) ∙ sum_left_comm (scale o x g) (scale o c xs) (shift o (product o xs g)))
      ∙ sym (sum_cons_shift (c ⊗ x) (scale o c xs) (sum o (scale o x g) (shift o (product o xs g))))

  pub product_comm : (f g : List A) → product o f g ≡ product o g f
  product_comm [] g = sym (product_nil o g)
  product_comm (x ∷ xs) g = ap (λ w. sum o (scale o x g) (shift o w)) (product_comm xs g) ∙ sym (product_cons g x xs)

  pub product_sum : (f g h : List A) → product o f (sum o g h) ≡ sum o (product o f g) (product o f h)
  product_sum [] g h = refl
  product_sum (x ∷ xs) g h =
      ap₂ (sum o) (scale_sum x g h) (ap (shift o) (product_sum xs g h) ∙ shift_sum (product o xs g) (product o xs h))
      ∙ sum_swap (scale o x g) (scale o x h) (shift o (product o xs g)) (shift o (product o xs h))

  pub sum_product : (f g h : List A) → product o (sum o f g) h ≡ sum o (product o f h) (product o g h)
  sum_product f g h = product_comm (sum o f g) h ∙ product_sum h f g ∙ ap₂ (sum o) (product_comm h f) (product_comm h g)

  pub scale_product : (c : A) (f g : List A) → product o (scale o c f) g ≡ scale o c (product o f g)
  scale_product c [] g = refl
  scale_product c (x ∷ xs) g =
      ap₂ (sum o) (sym (scale_scale c x g)) (ap (shift o) (scale_product c xs g) ∙ sym (scale_shift c (product o xs g)))
      ∙ sym (scale_sum c (scale o x g) (shift o (product o xs g)))

  pub product_scale : (c : A) (f g : List A) → product o f (scale o c g) ≡ scale o c (product o f g)
  product_scale c f g = product_comm f (scale o c g) ∙ scale_product c g f ∙ ap (scale o c) (product_comm g f)

  pub shift_product : (f g : List A) → product o (shift o f) g ≡ shift o (product o f g)
  shift_product [] g = refl
  shift_product (x ∷ xs) [] = refl
  shift_product (x ∷ xs) (y ∷ ys) =
      sum_zeros (y ∷ ys) (shift o (product o (x ∷ xs) (y ∷ ys)))
      (omega (arith, length_le_shift o (product o (x ∷ xs) (y ∷ ys)), length_product o x xs y ys))

  pub product_shift : (f g : List A) → product o f (shift o g) ≡ shift o (product o f g)
  product_shift f g = product_comm f (shift o g) ∙ shift_product g f ∙ ap (shift o) (product_comm g f)

  pub product_assoc : (f g h : List A) → product o (product o f g) h ≡ product o f (product o g h)
  product_assoc [] g h = refl
  product_assoc (x ∷ xs) g h =
      sum_product (scale o x g) (shift o (product o xs g)) h
      ∙ ap₂ (sum o) (scale_product x g h) (shift_product (product o xs g) h ∙ ap (shift o) (product_assoc xs g h))

  pub product_left_comm : (f g h : List A) → product o f (product o g h) ≡ product o g (product o f h)
  product_left_comm f g h = sym (product_assoc f g h) ∙ ap (λ w. product o w h) (product_comm f g) ∙ product_assoc g f h

  pub one_product : (f : List A) → product o (I ∷ []) f ≡ f
  one_product f = sum_nil o (scale o I f) ∙ scale_one f

  pub product_one : (f : List A) → product o f (I ∷ []) ≡ f
  product_one f = product_comm f (I ∷ []) ∙ one_product f

  -- a constant times a list
  pub constant_product : (c : A) (f : List A) → product o (c ∷ []) f ≡ scale o c f
  constant_product c f = sum_nil o (scale o c f)

  pub negatives_product : (f g : List A) → product o (map neg f) g ≡ map neg (product o f g)
  negatives_product f g =
      ap (λ w. product o w g) (sym (scale_neg_one f)) ∙ scale_product (neg I) f g ∙ scale_neg_one (product o f g)

  pub product_negatives : (f g : List A) → product o f (map neg g) ≡ map neg (product o f g)
  product_negatives f g = product_comm f (map neg g) ∙ negatives_product g f ∙ ap (map neg) (product_comm g f)

  -- ---- places, zero past the end
  pub sum_at : (f g : List A) (k : ℕ) → slice_index_or (sum o f g) k O ≡ slice_index_or f k O ⊕ slice_index_or g k O
  sum_at [] g k = sym (R.zero_add (slice_index_or g k O))
  sum_at (x ∷ xs) [] k = sym (Rings.add_zero R (slice_index_or (x ∷ xs) k O))
  sum_at (x ∷ xs) (y ∷ ys) zero = refl
  sum_at (x ∷ xs) (y ∷ ys) (suc k) = sum_at xs ys k

  pub scale_at : (c : A) (f : List A) (k : ℕ) → slice_index_or (scale o c f) k O ≡ c ⊗ slice_index_or f k O
  scale_at c [] k = sym (Rings.mul_zero R c)
  scale_at c (x ∷ xs) zero = refl
  scale_at c (x ∷ xs) (suc k) = scale_at c xs k

  pub negatives_at : (f : List A) (k : ℕ) → slice_index_or (map neg f) k O ≡ neg (slice_index_or f k O)
  negatives_at [] k = sym (Rings.neg_zero R)
  negatives_at (x ∷ xs) zero = refl
  negatives_at (x ∷ xs) (suc k) = negatives_at xs k

  -- ---- the convolution
  pub convolution_to_nil : (n : ℕ) (g : List A) (k : ℕ) → convolution_to o n [] g k ≡ O
  convolution_to_nil zero g k = Rings.zero_mul R (slice_index_or g k O)
  convolution_to_nil (suc n) g k =
      ap₂ ◌⊕◌ (convolution_to_nil n g k) (Rings.zero_mul R (slice_index_or g (k - suc n) O)) ∙ R.zero_add O

  pub product_at : (f g : List A) (k : ℕ) → slice_index_or (product o f g) k O ≡ convolution o f g k
  product_at [] g k = sym (convolution_to_nil k g k)
  product_at (x ∷ xs) g zero =
      sum_at (scale o x g) (shift o (product o xs g)) 0
      ∙ ap₂ ◌⊕◌ (scale_at x g 0) (shift_at_zero o (product o xs g)) ∙ Rings.add_zero R (x ⊗ slice_index_or g 0 O)
  product_at (x ∷ xs) g (suc k) =
      sum_at (scale o x g) (shift o (product o xs g)) (suc k)
      ∙ ap₂ ◌⊕◌ (scale_at x g (suc k)) (shift_at o (product o xs g) k ∙ product_at xs g k)
      ∙ sym (convolution_to_cons o R.add_assoc k x xs g k)
