-- The residues modulo p: they form a commutative ring, and sums of products of residues may be added up as plain numbers and
-- reduced once.
use Rattle.std.proofs.Common.{◌≡◌, ◌↔◌, IsTrue, ℕ, zero, suc, ◌+◌, ◌-◌, ◌*◌, ◌%◌, ◌<◌, ◌==◌, List, [], ◌∷◌, slice_index, refl, ap, ap₂, sym, ◌∙◌, arith, mod-lt, mod-eq_of_lt}
use Rattle.std.proofs.lemmas.Bool.{eqb-true, eq-eqb}
use Rattle.std.proofs.lemmas.Nat.{mul-mod_first, mul-mod_second}
use native.Mathlib.Nat.{mod-add-mod, add-mod-mod, mod-mod, mod_self, zero-mod, mul_assoc, mul_comm, mul-add, add_comm, add_assoc, one-mul, zero-add, add-zero, mul-zero, zero-mul}
use Rattle.alg_model.specs.Coefficients.{Ops, mod_ops, residues}
use Rattle.alg_model.specs.Polynomials.{sum, scale, shift, product, convolution_to, convolution, poly_product}
use Rattle.alg_model.specs.Fields.{IsRing}
use Rattle.alg_rings.proofs.Trims.{trim_at}
use Rattle.alg_rings.proofs.Lists.{shift_at, shift_at_zero, convolution_to_cons}

-- plain numbers with plain sums and products; there are no negatives
abbrev pub nat_ops : Ops ℕ
nat_ops = record {
  zero = 0;
  one = 1;
  add = λ a b. a + b;
  mul = λ a b. a * b;
  neg = λ a. a;
  is_zero = λ a. a == 0;
}

pub zero_test : (p x : ℕ) → IsTrue ((mod_ops p).is_zero x) ↔ (x ≡ 0)
zero_test p x = ((λ e. eqb-true x 0 e), (λ e. eq-eqb x 0 e))

pub add_mod_assoc : (p x y z : ℕ) → ((x + y) % p + z) % p ≡ (x + (y + z) % p) % p
add_mod_assoc p x y z = mod-add-mod (x + y) p z ∙ ap (λ w. w % p) (add_assoc x y z) ∙ sym (add-mod-mod x (y + z) p)

pub mul_mod_assoc : (p x y z : ℕ) → ((x * y) % p * z) % p ≡ (x * ((y * z) % p)) % p
mul_mod_assoc p x y z = mul-mod_first (x * y) z p ∙ ap (λ w. w % p) (mul_assoc x y z) ∙ sym (mul-mod_second x (y * z) p)

pub mul_mod_add : (p x y z : ℕ) → (x * ((y + z) % p)) % p ≡ ((x * y) % p + (x * z) % p) % p
mul_mod_add p x y z =
    mul-mod_second x (y + z) p ∙ ap (λ w. w % p) (mul-add x y z)
    ∙ sym (mod-add-mod (x * y) p ((x * z) % p) ∙ add-mod-mod (x * y) (x * z) p)

pub add_mod_neg : (p x : ℕ) → x < p → (x + (p - x) % p) % p ≡ 0
add_mod_neg p x h = let e : x + (p - x) ≡ p = omega arith in add-mod-mod x (p - x) p ∙ ap (λ w. w % p) e ∙ mod_self p

pub residues_ring : (p : ℕ) → 1 < p → IsRing (residues p)
residues_ring p h = record {
  zero_valid = omega arith;
  one_valid = h;
  add_valid = λ x y hx hy. mod-lt (x + y) (omega arith);
  mul_valid = λ x y hx hy. mod-lt (x * y) (omega arith);
  neg_valid = λ x hx. mod-lt (p - x) (omega arith);
  zero_test = λ x hx. zero_test p x;
  add_comm = λ x y hx hy. ap (λ w. w % p) (add_comm x y);
  add_assoc = λ x y z hx hy hz. add_mod_assoc p x y z;
  zero_add = λ x hx. ap (λ w. w % p) (zero-add x) ∙ mod-eq_of_lt hx;
  add_neg = λ x hx. add_mod_neg p x hx;
  mul_comm = λ x y hx hy. ap (λ w. w % p) (mul_comm x y);
  mul_assoc = λ x y z hx hy hz. mul_mod_assoc p x y z;
  one_mul = λ x hx. ap (λ w. w % p) (one-mul x) ∙ mod-eq_of_lt hx;
  mul_add = λ x y z hx hy hz. mul_mod_add p x y z;
}

-- ---- sums of products added up as plain numbers
pub convolution_to_mod : (p n : ℕ) (f g : List ℕ) (k : ℕ)
    → convolution_to (mod_ops p) n f g k ≡ convolution_to nat_ops n f g k % p
convolution_to_mod p zero f g k = refl
convolution_to_mod p (suc n) f g k =
    ap (λ w. (w + slice_index f (suc n) * slice_index g (k - suc n) % p) % p) (convolution_to_mod p n f g k)
    ∙ mod-add-mod (convolution_to nat_ops n f g k) p (slice_index f (suc n) * slice_index g (k - suc n) % p)
    ∙ add-mod-mod (convolution_to nat_ops n f g k) (slice_index f (suc n) * slice_index g (k - suc n)) p

pub convolution_mod : (p : ℕ) (f g : List ℕ) (k : ℕ) → convolution (mod_ops p) f g k ≡ convolution nat_ops f g k % p
convolution_mod p f g k = convolution_to_mod p k f g k

module _ (p : ℕ) where
  sum_mod : (f g : List ℕ) (k : ℕ) → slice_index (sum (mod_ops p) f g) k % p ≡ (slice_index f k + slice_index g k) % p
  sum_mod [] g k = ap (λ w. w % p) (sym (zero-add (slice_index g k)))
  sum_mod (x ∷ xs) [] k = ap (λ w. w % p) (sym (add-zero (slice_index (x ∷ xs) k)))
  sum_mod (x ∷ xs) (y ∷ ys) zero = mod-mod (x + y) p
  sum_mod (x ∷ xs) (y ∷ ys) (suc k) = sum_mod xs ys k

  scale_mod : (c : ℕ) (f : List ℕ) (k : ℕ) → slice_index (scale (mod_ops p) c f) k ≡ (c * slice_index f k) % p
  scale_mod c [] k = sym (ap (λ w. w % p) (mul-zero c) ∙ zero-mod p)
  scale_mod c (x ∷ xs) zero = refl
  scale_mod c (x ∷ xs) (suc k) = scale_mod c xs k

  -- each coefficient of a product is reduced, whatever the factors
  sum_reduced : (f g : List ℕ) → ((k : ℕ) → slice_index f k % p ≡ slice_index f k) → ((k : ℕ) → slice_index g k % p ≡ slice_index g k)
      → (k : ℕ) → slice_index (sum (mod_ops p) f g) k % p ≡ slice_index (sum (mod_ops p) f g) k
  sum_reduced [] g hf hg k = hg k
  sum_reduced (x ∷ xs) [] hf hg k = hf k
  sum_reduced (x ∷ xs) (y ∷ ys) hf hg zero = mod-mod (x + y) p
  sum_reduced (x ∷ xs) (y ∷ ys) hf hg (suc k) = sum_reduced xs ys (λ i. hf (suc i)) (λ i. hg (suc i)) k

  shift_reduced : (f : List ℕ) → ((k : ℕ) → slice_index f k % p ≡ slice_index f k)
      → (k : ℕ) → slice_index (shift (mod_ops p) f) k % p ≡ slice_index (shift (mod_ops p) f) k
  shift_reduced [] h k = zero-mod p
  shift_reduced (x ∷ xs) h zero = zero-mod p
  shift_reduced (x ∷ xs) h (suc k) = h k

  product_reduced : (f g : List ℕ) (k : ℕ) → slice_index (product (mod_ops p) f g) k % p ≡ slice_index (product (mod_ops p) f g) k
  product_reduced [] g k = zero-mod p
  product_reduced (x ∷ xs) g k =
      sum_reduced (scale (mod_ops p) x g) (shift (mod_ops p) (product (mod_ops p) xs g))
      (λ i. ap (λ w. w % p) (scale_mod x g i) ∙ mod-mod (x * slice_index g i) p ∙ sym (scale_mod x g i)) (shift_reduced (product (mod_ops p) xs g) (product_reduced xs g)) k

  convolution_to_nil : (n : ℕ) (g : List ℕ) (k : ℕ) → convolution_to nat_ops n [] g k ≡ 0
  convolution_to_nil zero g k = zero-mul (slice_index g k)
  convolution_to_nil (suc n) g k = ap₂ ◌+◌ (convolution_to_nil n g k) (zero-mul (slice_index g (k - suc n)))

  product_step : (x : ℕ) (xs g : List ℕ) (k : ℕ) → slice_index (product (mod_ops p) (x ∷ xs) g) k
      ≡ (x * slice_index g k + slice_index (shift (mod_ops p) (product (mod_ops p) xs g)) k) % p
  product_step x xs g k =
      sym (product_reduced (x ∷ xs) g k)
      ∙ sum_mod (scale (mod_ops p) x g) (shift (mod_ops p) (product (mod_ops p) xs g)) k
      ∙ ap (λ w. (w + slice_index (shift (mod_ops p) (product (mod_ops p) xs g)) k) % p) (scale_mod x g k)
      ∙ mod-add-mod (x * slice_index g k) p (slice_index (shift (mod_ops p) (product (mod_ops p) xs g)) k)

  -- each coefficient of a product modulo p is the convolution over the plain numbers, reduced once
  pub product_mod : (f g : List ℕ) (k : ℕ) → slice_index (product (mod_ops p) f g) k ≡ convolution nat_ops f g k % p
  product_mod [] g k = sym (ap (λ w. w % p) (convolution_to_nil k g k) ∙ zero-mod p)
  product_mod (x ∷ xs) g zero =
      product_step x xs g 0
      ∙ ap (λ w. (x * slice_index g 0 + w) % p) (shift_at_zero (mod_ops p) (product (mod_ops p) xs g))
      ∙ ap (λ w. w % p) (add-zero (x * slice_index g 0))
  product_mod (x ∷ xs) g (suc k) =
      product_step x xs g (suc k)
      ∙ ap (λ w. (x * slice_index g (suc k) + w) % p) (shift_at (mod_ops p) (product (mod_ops p) xs g) k ∙ product_mod xs g k)
      ∙ add-mod-mod (x * slice_index g (suc k)) (convolution nat_ops xs g k) p
      ∙ ap (λ w. w % p) (sym (convolution_to_cons nat_ops add_assoc k x xs g k))

  pub poly_product_mod : (f g : List ℕ) (k : ℕ)
      → slice_index (poly_product (mod_ops p) f g) k ≡ convolution nat_ops f g k % p
  poly_product_mod f g k = trim_at (mod_ops p) (zero_test p) (product (mod_ops p) f g) k ∙ product_mod f g k
