-- Polynomials as lists of coefficients, lowest first, over any operations. A list may end in zeros;
-- `trim` drops them.
--     sum, scale, shift, product     a + b; c * a; a * x; a * b, with zeros at the end kept
--     trim f                         f without the zeros at its end
--     poly_sum, poly_negative, poly_difference, poly_product     the same, zeros at the end dropped
--     leading f                      the last coefficient; zero for the empty list
--     derivative f                   its k-th coefficient is k + 1 times that of f at k + 1
--     evaluate f a                   the sum of f's coefficients times the powers of a
--     poly_power f n                 f * .. * f, n times
--     convolution f g k              the sum of f_i * g_j over all i + j = k
use Rattle.std.specs.Prelude.{ℕ, zero, suc, ◌-◌, cond, List, [], ◌∷◌, map, slice_index_or}
use Rattle.alg_model.specs.Coefficients.{Ops, times}

module _ {A : Type 0} (o : Ops A) where
  abbrev pub sum : List A → List A → List A
  sum [] ys = ys
  sum (x ∷ xs) [] = x ∷ xs
  sum (x ∷ xs) (y ∷ ys) = o.add x y ∷ sum xs ys

  abbrev pub scale : A → List A → List A
  scale c [] = []
  scale c (x ∷ xs) = o.mul c x ∷ scale c xs

  -- times x
  abbrev pub shift : List A → List A
  shift [] = []
  shift (x ∷ xs) = o.zero ∷ x ∷ xs

  -- (c + x * f) * g = c * g + x * (f * g)
  abbrev pub product : List A → List A → List A
  product [] ys = []
  product (c ∷ xs) ys = sum (scale c ys) (shift (product xs ys))

  -- c below what is already without zeros at its end
  abbrev pub cons_trimmed : A → List A → List A
  cons_trimmed c [] = cond (o.is_zero c) [] (c ∷ [])
  cons_trimmed c (x ∷ xs) = c ∷ x ∷ xs

  abbrev pub trim : List A → List A
  trim [] = []
  trim (x ∷ xs) = cons_trimmed x (trim xs)

  abbrev pub poly_sum : List A → List A → List A
  poly_sum f g = trim (sum f g)

  abbrev pub poly_negative : List A → List A
  poly_negative f = map o.neg f

  abbrev pub poly_difference : List A → List A → List A
  poly_difference f g = poly_sum f (poly_negative g)

  abbrev pub poly_product : List A → List A → List A
  poly_product f g = trim (product f g)

  abbrev pub leading : List A → A
  leading [] = o.zero
  leading (x ∷ []) = x
  leading (x ∷ y ∷ ys) = leading (y ∷ ys)

  -- n times the first, n + 1 times the second, ..
  abbrev pub multiples_from : ℕ → List A → List A
  multiples_from n [] = []
  multiples_from n (x ∷ xs) = times o n x ∷ multiples_from (suc n) xs

  abbrev pub derivative : List A → List A
  derivative [] = []
  derivative (x ∷ xs) = trim (multiples_from 1 xs)

  abbrev pub evaluate : List A → A → A
  evaluate [] a = o.zero
  evaluate (x ∷ xs) a = o.add x (o.mul a (evaluate xs a))

  abbrev pub poly_power : List A → ℕ → List A
  poly_power f zero = trim (o.one ∷ [])
  poly_power f (suc n) = poly_product (poly_power f n) f

  -- f_0 * g_k + .. + f_n * g_(k - n)
  abbrev pub convolution_to : ℕ → List A → List A → ℕ → A
  convolution_to zero f g k = o.mul (slice_index_or f 0 o.zero) (slice_index_or g k o.zero)
  convolution_to (suc n) f g k =
      o.add (convolution_to n f g k)
      (o.mul (slice_index_or f (suc n) o.zero) (slice_index_or g (k - suc n) o.zero))

  abbrev pub convolution : List A → List A → ℕ → A
  convolution f g k = convolution_to k f g k
