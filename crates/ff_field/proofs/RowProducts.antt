-- Products of values by windows of a list between zeros, and by the rows that a field keeps.
use Rattle.std.proofs.Common.{◌≡◌, ℕ, zero, suc, ◌+◌, ◌-◌, ◌*◌, ◌%◌, ◌<◌, ◌≤◌, List, [], ◌∷◌, ◌++◌, length, take, replicate, slice_index, slice_index_or, slice_set, All, ap, ap₂, sym, ◌∙◌, arith, ⊎_elim, ext_get_or, get_or-take, length-take}
use Rattle.std.proofs.lemmas.Bool.{cases_eq, cases_lt}
use Rattle.std.proofs.lemmas.List.{get_or_past, get_or-set_same, get_or-set_other, length-set, append-nil, get_or-map}
use Rattle.std.proofs.lemmas.List.Elements.{All-from_get_or}
use Rattle.std.proofs.lemmas.Nat.{mul-mod_second}
use native.Mathlib.Nat.{mul-zero, zero-mul}
use Rattle.alg_model.specs.Coefficients.{mod_ops}
use Rattle.alg_model.specs.Polynomials.{product, convolution_to, convolution}
use Rattle.alg_model.specs.Values.{remainder}
use Rattle.alg_model.specs.Maps.{Field, IsFiniteField, field_values, degree_of}
use Rattle.alg_rings.proofs.Lists.{length_product}
use Rattle.alg_rings.proofs.Residues.{nat_ops, product_mod}
use Rattle.alg_rings.proofs.ResidueFields.{prime_residues_field, residues_propositional}
use Rattle.alg_rings.proofs.Validity.{product_valid}
use Rattle.alg_fields.proofs.Classes
use Rattle.ff_residues.specs.SumRows.{sum_below, row_sum, shifted_sum}
use Rattle.ff_residues.proofs.ResidueLists.{below_at}
use Rattle.ff_residues.proofs.SumsBelow.{add_agree, sum_same, sum_agree, sum_cut}
use Rattle.ff_field.specs.PrivateTables.{IsRowTable, power_place}
use Rattle.ff_field.proofs.RemainderRows.{remainder_by_rows, sum_at_both}
use Rattle.ff_field.proofs.SmallFieldLaws

-- ---- a list between zeros
-- the first i digits stand from w on; elsewhere there are zeros
pub record Placed (w s : ℕ) (digits list : List ℕ) (i : ℕ) : Type 0 where
  pub long : length list ≡ s
  pub before : (k : ℕ) → k < w → slice_index list k ≡ 0
  pub done : (k : ℕ) → k < i → slice_index list (w + k) ≡ slice_index digits k
  pub rest : (k : ℕ) → i ≤ k → slice_index list (w + k) ≡ 0

-- one digit more
pub one_placed : (w s : ℕ) (digits list : List ℕ) (i v : ℕ) → w + i < s → v ≡ slice_index digits i
    → Placed w s digits list i → Placed w s digits (slice_set list (w + i) v) (i + 1)
one_placed w s digits list i v within is h = record {
  long = length-set list (w + i) v ∙ h.long;
  before = λ k l. get_or-set_other list (w + i) k v 0 (omega arith) ∙ h.before k l;
  done = λ k l. ⊎_elim
      (λ e. ap (λ m. slice_index (slice_set list (w + i) v) (w + m)) e
      ∙ get_or-set_same list (w + i) v 0 (omega (arith, h.long)) ∙ is ∙ ap (slice_index digits) (sym e))
      (λ d. get_or-set_other list (w + i) (w + k) v 0 (omega arith) ∙ h.done k (omega arith))
      (cases_eq k i);
  rest = λ k l. get_or-set_other list (w + i) (w + k) v 0 (omega arith) ∙ h.rest k (omega arith);
}

-- all digits
pub all_placed : (w s : ℕ) (digits list : List ℕ) (i : ℕ) → length digits ≤ i
    → Placed w s digits list i → (k : ℕ) → slice_index list (w + k) ≡ slice_index digits k
all_placed w s digits list i past h k = ⊎_elim (λ l. h.done k l)
    (λ l. h.rest k l ∙ sym (get_or_past digits k 0 (omega arith))) (cases_lt k i)

-- ---- windows
convolution_is_sum : (n k : ℕ) (a b : List ℕ)
    → convolution_to nat_ops n a b k ≡ sum_below (suc n) (λ i. slice_index a i * slice_index b (k - i))
convolution_is_sum zero k a b =
    let e : k - 0 ≡ k = omega arith in
    let z : slice_index a 0 * slice_index b k ≡ 0 + slice_index a 0 * slice_index b k = omega arith in
    z ∙ ap (λ m. 0 + slice_index a 0 * slice_index b m) (sym e)
convolution_is_sum (suc n) k a b =
    ap (λ w. w + slice_index a (suc n) * slice_index b (k - suc n)) (convolution_is_sum n k a b)

-- **a window of a list between zeros gives a place of the product**
pub shifted_is_product : (w k : ℕ) (a b list : List ℕ) → length a ≤ w
    → ((j : ℕ) → j < w → slice_index list j ≡ 0)
    → ((j : ℕ) → slice_index list (w + j) ≡ slice_index b j)
    → shifted_sum (length a) a list (w + k) ≡ convolution nat_ops a b k
shifted_is_product w k a b list short before digits =
    let h : (i : ℕ) → ℕ = λ i. slice_index a i * slice_index list (w + k - i) in
    let past : (i : ℕ) → length a ≤ i → h i ≡ 0 =
    λ i l. ap (λ v. v * slice_index list (w + k - i)) (get_or_past a i 0 l)
    ∙ zero-mul (slice_index list (w + k - i)) in
    let over : (i : ℕ) → suc k ≤ i → h i ≡ 0 = λ i l. ⊎_elim
    (λ m. ap (λ v. slice_index a i * v) (before (w + k - i) (omega arith)) ∙ mul-zero (slice_index a i))
    (λ m. past i m) (cases_lt i (length a)) in
    let swap : length a + suc k ≡ suc k + length a = omega arith in
    sym (sum_cut (length a) (suc k) h past) ∙ ap (λ m. sum_below m h) swap
    ∙ sum_cut (suc k) (length a) h over
    ∙ sum_same (suc k) h (λ i. slice_index a i * slice_index b (k - i))
    (λ i l. let e : w + k - i ≡ w + (k - i) = omega arith in
    ap (λ v. slice_index a i * v) (ap (slice_index list) e ∙ digits (k - i)))
    ∙ sym (convolution_is_sum k k a b)

-- the list's numbers are residues
pub between_residues : (p w : ℕ) (b list : List ℕ) → 0 < p → All (λ x. x < p) b
    → ((j : ℕ) → j < w → slice_index list j ≡ 0)
    → ((j : ℕ) → slice_index list (w + j) ≡ slice_index b j) → All (λ x. x < p) list
between_residues p w b list positive v before digits =
    All-from_get_or (λ x. x < p) list 0 (λ i l. ⊎_elim
    (λ m. let e : slice_index list i ≡ 0 = before i m in omega (arith, e))
    (λ m. let s : w + (i - w) ≡ i = omega arith in
    let e : slice_index list i ≡ slice_index b (i - w) = ap (slice_index list) (sym s) ∙ digits (i - w) in
    let d : slice_index b (i - w) < p = below_at p b (i - w) positive v in omega (arith, e, d))
    (cases_lt i w))

length_of_product : (p n : ℕ) (a b : List ℕ) → 0 < n → length a ≡ n → length b ≡ n
    → length (product (mod_ops p) a b) ≡ n + (n - 1)
length_of_product p n [] b l ea eb = absurd (omega arith)
length_of_product p n (x ∷ xs) [] l ea eb = absurd (omega arith)
length_of_product p n (x ∷ xs) (y ∷ ys) l ea eb =
    omega (arith, length_product (mod_ops p) x xs y ys)

module _ (K : Field) (W : IsFiniteField K) where
  abbrev p : ℕ
  p = K.characteristic

  abbrev n : ℕ
  n = degree_of K

  positive : 0 < K.characteristic
  positive = let l : 1 < K.characteristic = W.characteristic.above_one in omega arith

  -- a remainder's places are residues
  reduced : (g : List ℕ) → All (λ a. a < K.characteristic) g → (k : ℕ)
      → slice_index (remainder (mod_ops K.characteristic) K.polynomial g) k < K.characteristic
  reduced g v k =
      below_at p (remainder (mod_ops p) K.polynomial g) k positive
      (Classes.remainder_valid (residues_propositional p)
      (prime_residues_field p W.characteristic).ring K.polynomial g W.irreducible.polynomial.0 v)

  -- **the product of values, by kept rows**
  pub product_by_rows : (rows : List (List ℕ))
      → IsRowTable K.characteristic K.polynomial rows
      → (a b : List ℕ) → (field_values K).Valid a → (field_values K).Valid b → (high : List ℕ)
      → length high ≡ degree_of K - 1
      → ((j : ℕ) → j < degree_of K - 1
      → slice_index high j ≡ convolution nat_ops a b (degree_of K + j) % K.characteristic)
      → (k : ℕ) → k < degree_of K
      → slice_index ((field_values K).ops.mul a b) k ≡ (convolution nat_ops a b k % K.characteristic
      + row_sum (length high) high rows k) % K.characteristic
  product_by_rows rows T a b va vb high long is k l =
      let g = product (mod_ops p) a b in
      let vg : All (λ x. x < p) g =
      product_valid (prime_residues_field p W.characteristic).ring a b va.0 vb.0 in
      let m = n - 1 in
      remainder_by_rows p K.polynomial W.irreducible.not_constant positive reduced g vg m
      (length_of_product p n a b (omega arith) va.1 vb.1) k l
      ∙ add_agree p (slice_index g k)
      (sum_below m (λ j. slice_index g (n + j) * power_place p K.polynomial (n + j) k))
      (convolution nat_ops a b k % p) (row_sum (length high) high rows k)
      (ap (λ w. w % p) (product_mod p a b k))
      (sum_agree p m (λ j. slice_index g (n + j) * power_place p K.polynomial (n + j) k)
      (λ j. slice_index high j * slice_index (slice_index_or rows j []) k)
      (λ j h. sym (ap₂ (λ u v. (u * v) % p) (is j h ∙ sym (product_mod p a b (n + j))) (T.places j k h l)
      ∙ mul-mod_second (slice_index g (n + j)) (power_place p K.polynomial (n + j) k) p))
      ∙ ap (λ i. row_sum i high rows k % p) (sym long))

  -- a product is a value
  pub product_of_valid : (a b : List ℕ) → (field_values K).Valid a → (field_values K).Valid b
      → (field_values K).Valid ((field_values K).ops.mul a b)
  product_of_valid a b va vb = (SmallFieldLaws.values_field K W).ring.mul_valid a b va vb

  -- n places of a row are the value
  pub value_of_places : (row v : List ℕ) → (field_values K).Valid v → degree_of K ≤ length row
      → ((k : ℕ) → k < degree_of K → slice_index row k ≡ slice_index v k)
      → take (degree_of K) row
      ++ replicate (degree_of K - length (take (degree_of K) row)) 0 ≡ v
  value_of_places row v valid wide same =
      let long : length (take n row) ≡ n = length-take n row ∙ omega arith in
      let none : n - length (take n row) ≡ 0 = omega (arith, long) in
      ap (λ m. take n row ++ replicate m 0) none ∙ append-nil (take n row)
      ∙ ext_get_or 0 (take n row) v (long ∙ sym valid.1)
      (λ k l. let m : k < n = omega (arith, long) in get_or-take n row k 0 m ∙ same k m)

  -- sums and negatives are values
  pub sum_valid : (a b : List ℕ) → (field_values K).Valid a → (field_values K).Valid b
      → (field_values K).Valid ((field_values K).ops.add a b)
  sum_valid a b va vb = (SmallFieldLaws.values_field K W).ring.add_valid a b va vb

  pub negative_valid : (a : List ℕ) → (field_values K).Valid a
      → (field_values K).Valid ((field_values K).ops.neg a)
  negative_valid a va = (SmallFieldLaws.values_field K W).ring.neg_valid a va

-- their places
pub sum_place : (K : Field) (a b : List ℕ) → (field_values K).Valid a → (field_values K).Valid b
    → (row : List ℕ) → ((k : ℕ) → k < degree_of K
    → slice_index row k ≡ (slice_index a k + slice_index b k) % K.characteristic)
    → (k : ℕ) → k < degree_of K → slice_index row k ≡ slice_index ((field_values K).ops.add a b) k
sum_place K a b va vb row h k l = h k l
    ∙ sym (sum_at_both K.characteristic a b k (omega (arith, va.1)) (omega (arith, vb.1)))

pub negative_place : (K : Field) (a : List ℕ) → (field_values K).Valid a
    → (row : List ℕ) → ((k : ℕ) → k < degree_of K
    → slice_index row k ≡ (K.characteristic - slice_index a k) % K.characteristic)
    → (k : ℕ) → k < degree_of K → slice_index row k ≡ slice_index ((field_values K).ops.neg a) k
negative_place K a va row h k l = h k l
    ∙ sym (get_or-map (mod_ops K.characteristic).neg a k 0 0 (omega (arith, va.1)))
