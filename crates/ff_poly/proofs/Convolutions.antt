-- Products of lists of plain numbers, row by row.
use Rattle.std.proofs.Common.{◌≡◌, ℕ, zero, suc, ◌+◌, ◌-◌, ◌*◌, ◌%◌, ◌<◌, ◌≤◌, List, length, slice_index, take, ap, ap₂, sym, ◌∙◌, subst, arith, ⊎_elim, get_or-take}
use Rattle.std.proofs.lemmas.Bool.{cases_lt}
use Rattle.std.proofs.lemmas.List.{get_or_past}
use native.Mathlib.Nat.{zero-mul, mul-zero, add-zero, zero-mod}
use Rattle.alg_model.specs.Coefficients.{mod_ops}
use Rattle.alg_model.specs.Polynomials.{product, convolution_to, convolution}
use Rattle.alg_rings.proofs.Residues.{nat_ops, product_mod}
use Rattle.ff_poly.proofs.ListPlaces.{take_past, cut_at}

take_before : (i j : ℕ) (f : List ℕ) → j < i → slice_index (take (i + 1) f) j ≡ slice_index (take i f) j
take_before i j f h =
    let g : j < i + 1 = omega arith in get_or-take (i + 1) f j 0 g ∙ sym (get_or-take i f j 0 h)

take_new : (i : ℕ) (f : List ℕ) → slice_index (take (i + 1) f) i ≡ slice_index f i
take_new i f = let g : i < i + 1 = omega arith in get_or-take (i + 1) f i 0 g

-- one row more leaves the places below it
row_below : (n i : ℕ) (f g : List ℕ) (k : ℕ) → n < i
    → convolution_to nat_ops n (take (i + 1) f) g k ≡ convolution_to nat_ops n (take i f) g k
row_below zero i f g k h = ap (λ w. w * slice_index g k) (take_before i 0 f h)
row_below (suc n) i f g k h =
    ap₂ (λ v w. v + w * slice_index g (k - suc n)) (row_below n i f g k (omega arith)) (take_before i (suc n) f h)

-- and adds its multiple from there on
row_sum : (a b x y c d : ℕ) → a ≡ b → x ≡ c → y ≡ 0 → a + x * d ≡ b + y * d + c * d
row_sum a b x y c d p q r =
    ap₂ (λ v w. v + w * d) p q ∙ ap (λ w. w + c * d) (sym (ap (λ w. b + w * d) r ∙ ap (λ w. b + w) (zero-mul d) ∙ add-zero b))

row_top : (n i : ℕ) (f g : List ℕ) (k a b : ℕ) → i ≡ n → a ≡ b
    → a + slice_index (take (i + 1) f) n * slice_index g (k - n) ≡ b + slice_index (take i f) n * slice_index g (k - n) + slice_index f i * slice_index g (k - i)
row_top n i f g k a b e h =
    subst (λ m. a + slice_index (take (i + 1) f) m * slice_index g (k - m) ≡ b + slice_index (take i f) m * slice_index g (k - m) + slice_index f i * slice_index g (k - i)) e
    (row_sum a b (slice_index (take (i + 1) f) i) (slice_index (take i f) i) (slice_index f i) (slice_index g (k - i)) h (take_new i f)
    (take_past i i f (omega arith)))

row_kept : (a b x y c d : ℕ) → a ≡ b + c → x ≡ 0 → y ≡ 0 → a + x * d ≡ b + y * d + c
row_kept a b x y c d h p q =
    let t : b + c + 0 * d ≡ b + 0 * d + c = omega arith in
    ap₂ (λ v w. v + w * d) h p ∙ t ∙ sym (ap (λ w. b + w * d + c) q)

row_from : (n i : ℕ) (f g : List ℕ) (k : ℕ) → i ≤ n
    → convolution_to nat_ops n (take (i + 1) f) g k ≡ convolution_to nat_ops n (take i f) g k + slice_index f i * slice_index g (k - i)
row_from zero zero f g k h =
    let e : k ≡ k - 0 = omega arith in
    let z : slice_index f 0 * slice_index g (k - 0) ≡ 0 * slice_index g k + slice_index f 0 * slice_index g (k - 0) = omega arith in
    ap₂ (λ v w. v * slice_index g w) (take_new 0 f) e ∙ z
row_from zero (suc i) f g k h = absurd (omega arith)
row_from (suc n) i f g k h =
    ⊎_elim
    (λ l. row_kept (convolution_to nat_ops n (take (i + 1) f) g k) (convolution_to nat_ops n (take i f) g k)
    (slice_index (take (i + 1) f) (suc n)) (slice_index (take i f) (suc n)) (slice_index f i * slice_index g (k - i)) (slice_index g (k - suc n))
    (row_from n i f g k (omega arith)) (take_past (i + 1) (suc n) f (omega arith)) (take_past i (suc n) f (omega arith)))
    (λ l. row_top (suc n) i f g k (convolution_to nat_ops n (take (i + 1) f) g k) (convolution_to nat_ops n (take i f) g k) (omega arith)
    (row_below n i f g k (omega arith)))
    (cases_lt i (suc n))

-- the same for the whole product of plain numbers, place by place
pub convolution_below : (i : ℕ) (f g : List ℕ) (k : ℕ) → k < i
    → convolution nat_ops (take (i + 1) f) g k ≡ convolution nat_ops (take i f) g k
convolution_below i f g k h = row_below k i f g k h

pub convolution_from : (i : ℕ) (f g : List ℕ) (j : ℕ)
    → convolution nat_ops (take (i + 1) f) g (i + j) ≡ convolution nat_ops (take i f) g (i + j) + slice_index f i * slice_index g j
convolution_from i f g j =
    let e : i + j - i ≡ j = omega arith in
    row_from (i + j) i f g (i + j) (omega arith) ∙ ap (λ m. convolution nat_ops (take i f) g (i + j) + slice_index f i * slice_index g m) e

-- where each product is zero
zero_terms : (n : ℕ) (f g : List ℕ) (k : ℕ) → ((i : ℕ) → i ≤ n → slice_index f i * slice_index g (k - i) ≡ 0) → convolution_to nat_ops n f g k ≡ 0
zero_terms zero f g k h = let e : k - 0 ≡ k = omega arith in ap (λ w. slice_index f 0 * slice_index g w) (sym e) ∙ h 0 (omega arith)
zero_terms (suc n) f g k h = ap₂ ◌+◌ (zero_terms n f g k (λ i l. h i (omega arith))) (h (suc n) (omega arith))

pub convolution_nil : (f g : List ℕ) (k : ℕ) → ((i : ℕ) → slice_index f i ≡ 0) → convolution nat_ops f g k ≡ 0
convolution_nil f g k h = zero_terms k f g k (λ i l. ap (λ w. w * slice_index g (k - i)) (h i) ∙ zero-mul (slice_index g (k - i)))

pub convolution_past : (f g : List ℕ) (k : ℕ) → length f + length g ≤ k + 1 → convolution nat_ops f g k ≡ 0
convolution_past f g k h = zero_terms k f g k (λ i l.
    ⊎_elim
    (λ m. ap (λ w. slice_index f i * w) (get_or_past g (k - i) 0 (omega arith)) ∙ mul-zero (slice_index f i))
    (λ m. ap (λ w. w * slice_index g (k - i)) (get_or_past f i 0 m) ∙ zero-mul (slice_index g (k - i)))
    (cases_lt i (length f)))

-- no coefficient of a product stands past the sum of the degrees
pub product_past : (p : ℕ) (f g : List ℕ) (k : ℕ) → length f + length g ≤ k + 1 → slice_index (product (mod_ops p) f g) k ≡ 0
product_past p f g k h = product_mod p f g k ∙ ap (λ w. w % p) (convolution_past f g k h) ∙ zero-mod p

-- so it may be cut there
pub product_cut : (p n : ℕ) (f g places : List ℕ) → n ≡ length f + length g - 1
    → ((k : ℕ) → slice_index places k % p ≡ slice_index (product (mod_ops p) f g) k)
    → (k : ℕ) → slice_index (take n places) k % p ≡ slice_index (product (mod_ops p) f g) k
product_cut p n f g places e h k = cut_at p n (product (mod_ops p) f g) places h (λ i l. product_past p f g i (omega arith)) k
