-- Maps that keep the operations: applied to each coefficient they keep every operation on polynomials.
use Rattle.std.proofs.Common.{◌≡◌, ℕ, zero, suc, ◌-◌, Bool, cond, List, [], ◌∷◌, map, slice_index_or, refl, ap, ap₂, ◌∙◌}
use Rattle.alg_model.specs.Coefficients.{Ops, times, power}
use Rattle.alg_model.specs.Polynomials.{sum, scale, shift, product, cons_trimmed, trim, poly_sum, poly_negative, poly_difference, poly_product, leading, multiples_from, derivative, evaluate, poly_power, convolution_to, convolution}

pub record Homomorphism {A B : Type 0} (o : Ops A) (o' : Ops B) (h : A → B) : Type 0 where
  pub zero : h o.zero ≡ o'.zero
  pub one : h o.one ≡ o'.one
  pub add : (x y : A) → h (o.add x y) ≡ o'.add (h x) (h y)
  pub mul : (x y : A) → h (o.mul x y) ≡ o'.mul (h x) (h y)
  pub neg : (x : A) → h (o.neg x) ≡ o'.neg (h x)
  pub is_zero : (x : A) → o.is_zero x ≡ o'.is_zero (h x)

module _ {A B : Type 0} {o : Ops A} {o' : Ops B} {h : A → B} (H : Homomorphism o o' h) where
  pub times-map : (n : ℕ) (a : A) → h (times o n a) ≡ times o' n (h a)
  times-map zero a = H.zero
  times-map (suc n) a = H.add a (times o n a) ∙ ap (o'.add (h a)) (times-map n a)

  pub power-map : (a : A) (n : ℕ) → h (power o a n) ≡ power o' (h a) n
  power-map a zero = H.one
  power-map a (suc n) = H.mul (power o a n) a ∙ ap (λ w. o'.mul w (h a)) (power-map a n)

  pub sum-map : (f g : List A) → map h (sum o f g) ≡ sum o' (map h f) (map h g)
  sum-map [] g = refl
  sum-map (x ∷ xs) [] = refl
  sum-map (x ∷ xs) (y ∷ ys) = ap₂ ◌∷◌ (H.add x y) (sum-map xs ys)

  pub scale-map : (c : A) (f : List A) → map h (scale o c f) ≡ scale o' (h c) (map h f)
  scale-map c [] = refl
  scale-map c (x ∷ xs) = ap₂ ◌∷◌ (H.mul c x) (scale-map c xs)

  pub shift-map : (f : List A) → map h (shift o f) ≡ shift o' (map h f)
  shift-map [] = refl
  shift-map (x ∷ xs) = ap (λ w. w ∷ h x ∷ map h xs) H.zero

  pub negatives-map : (f : List A) → map h (poly_negative o f) ≡ poly_negative o' (map h f)
  negatives-map [] = refl
  negatives-map (x ∷ xs) = ap₂ ◌∷◌ (H.neg x) (negatives-map xs)

  pub product-map : (f g : List A) → map h (product o f g) ≡ product o' (map h f) (map h g)
  product-map [] g = refl
  product-map (x ∷ xs) g =
      sum-map (scale o x g) (shift o (product o xs g))
      ∙ ap₂ (sum o') (scale-map x g) (shift-map (product o xs g) ∙ ap (shift o') (product-map xs g))

  pub cons_trimmed-map : (c : A) (f : List A) → map h (cons_trimmed o c f) ≡ cons_trimmed o' (h c) (map h f)
  cons_trimmed-map c [] = cond-map (o.is_zero c) ∙ ap (λ b. cond b [] (h c ∷ [])) (H.is_zero c)
    where
      cond-map : (b : Bool) → map h (cond b [] (c ∷ [])) ≡ cond b [] (h c ∷ [])
      cond-map Bool.true = refl
      cond-map Bool.false = refl
  cons_trimmed-map c (x ∷ xs) = refl

  pub trim-map : (f : List A) → map h (trim o f) ≡ trim o' (map h f)
  trim-map [] = refl
  trim-map (x ∷ xs) = cons_trimmed-map x (trim o xs) ∙ ap (cons_trimmed o' (h x)) (trim-map xs)

  pub poly_sum-map : (f g : List A) → map h (poly_sum o f g) ≡ poly_sum o' (map h f) (map h g)
  poly_sum-map f g = trim-map (sum o f g) ∙ ap (trim o') (sum-map f g)

  pub poly_difference-map : (f g : List A) → map h (poly_difference o f g) ≡ poly_difference o' (map h f) (map h g)
  poly_difference-map f g = poly_sum-map f (poly_negative o g) ∙ ap (poly_sum o' (map h f)) (negatives-map g)

  pub poly_product-map : (f g : List A) → map h (poly_product o f g) ≡ poly_product o' (map h f) (map h g)
  poly_product-map f g = trim-map (product o f g) ∙ ap (trim o') (product-map f g)

  pub leading-map : (f : List A) → h (leading o f) ≡ leading o' (map h f)
  leading-map [] = H.zero
  leading-map (x ∷ []) = refl
  leading-map (x ∷ y ∷ ys) = leading-map (y ∷ ys)

  pub multiples_from-map : (n : ℕ) (f : List A) → map h (multiples_from o n f) ≡ multiples_from o' n (map h f)
  multiples_from-map n [] = refl
  multiples_from-map n (x ∷ xs) = ap₂ ◌∷◌ (times-map n x) (multiples_from-map (suc n) xs)

  pub derivative-map : (f : List A) → map h (derivative o f) ≡ derivative o' (map h f)
  derivative-map [] = refl
  derivative-map (x ∷ xs) = trim-map (multiples_from o 1 xs) ∙ ap (trim o') (multiples_from-map 1 xs)

  pub evaluate-map : (f : List A) (a : A) → h (evaluate o f a) ≡ evaluate o' (map h f) (h a)
  evaluate-map [] a = H.zero
  evaluate-map (x ∷ xs) a =
      H.add x (o.mul a (evaluate o xs a))
      ∙ ap (o'.add (h x)) (H.mul a (evaluate o xs a) ∙ ap (o'.mul (h a)) (evaluate-map xs a))

  pub poly_power-map : (f : List A) (n : ℕ) → map h (poly_power o f n) ≡ poly_power o' (map h f) n
  poly_power-map f zero = trim-map (o.one ∷ []) ∙ ap (λ w. trim o' (w ∷ [])) H.one
  poly_power-map f (suc n) =
      poly_product-map (poly_power o f n) f ∙ ap (λ w. poly_product o' w (map h f)) (poly_power-map f n)

  -- the place of a list, zero past its end
  pub place-map : (f : List A) (k : ℕ) → h (slice_index_or f k o.zero) ≡ slice_index_or (map h f) k o'.zero
  place-map [] k = H.zero
  place-map (x ∷ xs) zero = refl
  place-map (x ∷ xs) (suc k) = place-map xs k

  pub convolution_to-map : (n : ℕ) (f g : List A) (k : ℕ)
      → h (convolution_to o n f g k) ≡ convolution_to o' n (map h f) (map h g) k
  convolution_to-map zero f g k =
      H.mul (slice_index_or f 0 o.zero) (slice_index_or g k o.zero) ∙ ap₂ o'.mul (place-map f 0) (place-map g k)
  convolution_to-map (suc n) f g k =
      H.add (convolution_to o n f g k) (o.mul (slice_index_or f (suc n) o.zero) (slice_index_or g (k - suc n) o.zero))
      ∙ ap₂ o'.add (convolution_to-map n f g k)
      (H.mul (slice_index_or f (suc n) o.zero) (slice_index_or g (k - suc n) o.zero)
      ∙ ap₂ o'.mul (place-map f (suc n)) (place-map g (k - suc n)))

  pub convolution-map : (f g : List A) (k : ℕ) → h (convolution o f g k) ≡ convolution o' (map h f) (map h g) k
  convolution-map f g k = convolution_to-map k f g k

-- an injective map is injective on lists
pub map_injective : {A B : Type 0} (h : A → B) → ((x y : A) → h x ≡ h y → x ≡ y) → (f g : List A) → map h f ≡ map h g → f ≡ g
map_injective h i [] [] e = refl
map_injective h i [] (y ∷ ys) e = cc
map_injective h i (x ∷ xs) [] e = cc
map_injective h i (x ∷ xs) (y ∷ ys) e =
    let head : h x ≡ h y = cc in let tail : map h xs ≡ map h ys = cc in ap₂ ◌∷◌ (i x y head) (map_injective h i xs ys tail)
