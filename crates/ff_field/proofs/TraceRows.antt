-- The traces of 1, x, x^2, ..: rows that give lowest digits.
use Rattle.std.proofs.Common.{◌≡◌, ℕ, zero, suc, ◌+◌, ◌*◌, ◌%◌, ◌^◌, ◌<◌, List, [], length, slice_index, slice_index_or, All, refl, ap, sym, ◌∙◌, arith, pow-suc}
use native.Mathlib.Nat.{mod-mod, mul_comm, zero-mul, one-mul, zero-mod}
use Rattle.std.proofs.lemmas.Nat.{mul-mod_first}
use Rattle.alg_model.specs.Coefficients.{power}
use Rattle.alg_model.specs.Maps.{Field, IsFiniteField, field_values, degree_of, constant}
use Rattle.alg_model.specs.Conjugates.{conjugates, sum_all, trace}
use Rattle.alg_fields.proofs.ListRemainders.{zeros_at}
use Rattle.alg_galois.proofs.FieldTraces.{prime_traces}
use Rattle.alg_galois.proofs.Fields.{modulus_of, generator_valid}
use Rattle.ff_poly.specs.declared.TheConstants.{MAX_DEGREE}
use Rattle.ff_residues.specs.SumRows.{sum_below, row_sum}
use Rattle.ff_residues.proofs.SumsBelow.{add_agree, mul_agree, sum_same, sum_agree, sum_zero, sum_both, sum_single}
use Rattle.ff_field.specs.PrivateTables.{IsFrobenius, scalar_sum, GivesLowest, IsTraceRow}
use Rattle.ff_field.proofs.RemainderRows.{sum_at_both}
use Rattle.ff_field.proofs.Reductions.{power_of_power, sum_all_valid, conjugates_valid}
use Rattle.ff_field.proofs.SmallFieldLaws
use Rattle.ff_field.proofs.SmallFieldLaws.{values_field, sum_of_more, first_conjugate, lowest_digit}
use Rattle.ff_field.proofs.FrobeniusColumns.{frobenius_by_columns, digit_reduced, powers_valid}

-- ---- sums of plain numbers
-- a multiple of a sum
sum_times : (n : ℕ) (f : ℕ → ℕ) (y : ℕ) → sum_below n f * y ≡ sum_below n (λ i. f i * y)
sum_times zero f y = zero-mul y
sum_times (suc n) f y = spread (sum_below n f) (f n) y ∙ ap (λ w. w + f n * y) (sum_times n f y)
  where
    spread : (a b y : ℕ) → (a + b) * y ≡ a * y + b * y
    spread a b y = grind arith

-- sums of sums may be exchanged
sum_exchanged : (m n : ℕ) (f : ℕ → ℕ → ℕ)
    → sum_below m (λ k. sum_below n (λ i. f k i)) ≡ sum_below n (λ i. sum_below m (λ k. f k i))
sum_exchanged zero n f = sym (sum_zero n (λ i. 0) (λ i l. refl))
sum_exchanged (suc m) n f = ap (λ w. w + sum_below n (λ i. f m i)) (sum_exchanged m n f)
    ∙ sym (sum_both n (λ i. sum_below m (λ k. f k i)) (λ i. f m i))

-- a row times a matrix times a vector
row_matrix_vector : (n : ℕ) (r a : ℕ → ℕ) (t : ℕ → ℕ → ℕ)
    → sum_below n (λ k. sum_below n (λ i. r i * t k i) * a k)
    ≡ sum_below n (λ i. r i * sum_below n (λ k. a k * t k i))
row_matrix_vector n r a t =
    sum_same n (λ k. sum_below n (λ i. r i * t k i) * a k) (λ k. sum_below n (λ i. r i * (a k * t k i)))
    (λ k l. sum_times n (λ i. r i * t k i) (a k)
    ∙ sum_same n (λ i. r i * t k i * a k) (λ i. r i * (a k * t k i)) (λ i m. turn (r i) (t k i) (a k)))
    ∙ sum_exchanged n n (λ k i. r i * (a k * t k i))
    ∙ sum_same n (λ i. sum_below n (λ k. r i * (a k * t k i))) (λ i. r i * sum_below n (λ k. a k * t k i))
    (λ i l. sum_same n (λ k. r i * (a k * t k i)) (λ k. a k * t k i * r i) (λ k m. mul_comm (r i) (a k * t k i))
    ∙ sym (sum_times n (λ k. a k * t k i) (r i)) ∙ mul_comm (sum_below n (λ k. a k * t k i)) (r i))
  where
    turn : (x y z : ℕ) → x * y * z ≡ x * (z * y)
    turn x y z = grind arith

module _ (K : Field) (W : IsFiniteField K) where
  abbrev p : ℕ
  p = K.characteristic

  abbrev n : ℕ
  n = degree_of K

  -- one and zeros give the value's own lowest digit
  pub unit_gives : (row : List ℕ) → 0 < degree_of K → length row ≡ MAX_DEGREE → All (λ x. x < K.characteristic) row
      → slice_index row 0 ≡ 1 → ((k : ℕ) → 0 < k → slice_index row k ≡ 0)
      → GivesLowest K (λ a. power (field_values K).ops a (K.characteristic ^ 0)) row
  unit_gives row some count residues one others = record {
    count = count;
    residues = residues;
    gives = λ a v. ap (λ w. w % p) (sum_single n 0 (λ i. slice_index row i * slice_index a i) some
        (λ i d l. ap (λ w. w * slice_index a i) (others i (omega arith)) ∙ zero-mul (slice_index a i))
        ∙ ap (λ w. w * slice_index a 0) one ∙ one-mul (slice_index a 0))
        ∙ sym (digit_reduced K W a v 0) ∙ ap (λ b. slice_index b 0) (sym (first_conjugate K W a v));
  }

  -- and zeros the lowest digit of no conjugate
  pub zeros_give : (row : List ℕ) → length row ≡ MAX_DEGREE → All (λ x. x < K.characteristic) row
      → ((k : ℕ) → slice_index row k ≡ 0)
      → GivesLowest K (λ a. sum_all (field_values K).ops (conjugates (field_values K).ops K.characteristic 0 a)) row
  zeros_give row count residues blank = record {
    count = count;
    residues = residues;
    gives = λ a v. ap (λ w. w % p) (sum_zero n (λ i. slice_index row i * slice_index a i)
        (λ i l. ap (λ w. w * slice_index a i) (blank i) ∙ zero-mul (slice_index a i)))
        ∙ zero-mod p ∙ sym (zeros_at 0 n 0);
  }

  -- **the next conjugate's**
  pub next_gives : (row next : List ℕ) (table : List (List ℕ)) (k : ℕ) → IsFrobenius K table
      → GivesLowest K (λ a. power (field_values K).ops a (K.characteristic ^ k)) row
      → length next ≡ MAX_DEGREE → All (λ x. x < K.characteristic) next
      → ((j : ℕ) → j < degree_of K → slice_index next j ≡ scalar_sum (degree_of K) row (slice_index_or table j []) % K.characteristic)
      → GivesLowest K (λ a. power (field_values K).ops a (K.characteristic ^ (k + 1))) next
  next_gives row next table k T h count residues places = record {
    count = count;
    residues = residues;
    gives = λ a v.
        let o = (field_values K).ops in
        let R = (values_field K W).ring in
        let b = power o a p in
        let vb = powers_valid K W a v p in
        let x = generator_valid p W.characteristic K.polynomial (modulus_of K W) in
        let t : ℕ → ℕ → ℕ = λ j i. slice_index (slice_index_or table j []) i in
        sum_agree p n (λ j. slice_index next j * slice_index a j)
        (λ j. sum_below n (λ i. slice_index row i * t j i) * slice_index a j)
        (λ j l. ap (λ w. (w * slice_index a j) % p) (places j l)
        ∙ mul-mod_first (sum_below n (λ i. slice_index row i * t j i)) (slice_index a j) p)
        ∙ ap (λ w. w % p) (row_matrix_vector n (slice_index row) (slice_index a) t)
        ∙ sum_agree p n (λ i. slice_index row i * sum_below n (λ j. slice_index a j * t j i))
        (λ i. slice_index row i * slice_index b i)
        (λ i l. mul_agree p (slice_index row i) (sum_below n (λ j. slice_index a j * t j i)) (slice_index b i)
        (ap (λ m. row_sum m a table i % p) (sym v.1) ∙ sym (mod-mod (row_sum (length a) a table i) p)
        ∙ ap (λ w. w % p) (sym (frobenius_by_columns K W x table T a v i l))))
        ∙ h.gives b vb
        ∙ ap (λ c. slice_index c 0) (power_of_power (SmallFieldLaws.V K W) R a v p (p ^ k)
        ∙ ap (power o a) (exponent k));
  }
    where
      exponent : (k : ℕ) → K.characteristic * K.characteristic ^ k ≡ K.characteristic ^ (k + 1)
      exponent k = let e : suc k ≡ k + 1 = omega arith in
          mul_comm p (p ^ k) ∙ sym (pow-suc p k) ∙ ap (λ m. p ^ m) e

  -- **one conjugate more in the sum**
  pub sum_gives : (traces digits sums : List ℕ) (k : ℕ)
      → GivesLowest K (λ a. sum_all (field_values K).ops (conjugates (field_values K).ops K.characteristic k a)) traces
      → GivesLowest K (λ a. power (field_values K).ops a (K.characteristic ^ k)) digits
      → length sums ≡ MAX_DEGREE → All (λ x. x < K.characteristic) sums → 0 < degree_of K
      → ((j : ℕ) → j < degree_of K → slice_index sums j ≡ (slice_index traces j + slice_index digits j) % K.characteristic)
      → GivesLowest K (λ a. sum_all (field_values K).ops (conjugates (field_values K).ops K.characteristic (k + 1) a)) sums
  sum_gives traces digits sums k ht hd count residues some places = record {
    count = count;
    residues = residues;
    gives = λ a v.
        let o = (field_values K).ops in
        let R = (values_field K W).ring in
        let s = sum_all o (conjugates o p k a) in
        let b = power o a (p ^ k) in
        let vs = sum_all_valid (SmallFieldLaws.V K W) R (conjugates o p k a) (conjugates_valid (SmallFieldLaws.V K W) R p k a v) in
        let vb = powers_valid K W a v (p ^ k) in
        sum_agree p n (λ j. slice_index sums j * slice_index a j)
        (λ j. slice_index traces j * slice_index a j + slice_index digits j * slice_index a j)
        (λ j l. ap (λ w. (w * slice_index a j) % p) (places j l)
        ∙ mul-mod_first (slice_index traces j + slice_index digits j) (slice_index a j) p
        ∙ ap (λ w. w % p) (spread (slice_index traces j) (slice_index digits j) (slice_index a j)))
        ∙ ap (λ w. w % p) (sum_both n (λ j. slice_index traces j * slice_index a j) (λ j. slice_index digits j * slice_index a j))
        ∙ add_agree p (scalar_sum n traces a) (scalar_sum n digits a) (slice_index s 0) (slice_index b 0)
        (ht.gives a v ∙ digit_reduced K W s vs 0) (hd.gives a v ∙ digit_reduced K W b vb 0)
        ∙ sym (sum_at_both p s b 0 (omega (arith, vs.1)) (omega (arith, vb.1)))
        ∙ ap (λ c. slice_index c 0) (sym (sum_of_more K W k a v));
  }
    where
      spread : (a b y : ℕ) → (a + b) * y ≡ a * y + b * y
      spread a b y = grind arith

  -- **the trace by the traces of 1, x, x^2, ..**
  pub trace_by_row : (traces a : List ℕ) (r : ℕ) → IsTraceRow K traces → (field_values K).Valid a
      → r ≡ scalar_sum (length a) a traces % K.characteristic → constant K r ≡ trace K a
  trace_by_row traces a r T v is = ap (constant K)
      (is ∙ ap (λ m. scalar_sum m a traces % p) v.1
      ∙ ap (λ w. w % p) (sum_same n (λ i. slice_index a i * slice_index traces i) (λ i. slice_index traces i * slice_index a i)
      (λ i l. mul_comm (slice_index a i) (slice_index traces i)))
      ∙ T.gives a v)
      ∙ lowest_digit K W (trace K a) (let (t, e) = (prime_traces K W).trace_is_image a v in (t.0, t.1, e))
