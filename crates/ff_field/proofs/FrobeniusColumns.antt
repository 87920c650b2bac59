-- Frobenius as a matrix over the residues.
use Rattle.std.proofs.Common.{◌≡◌, ℕ, ◌*◌, ◌%◌, ◌^◌, ◌<◌, List, [], ◌∷◌, length, slice_index, slice_index_or, All, ap, sym, ◌∙◌, arith, mod-eq_of_lt, pow-suc}
use Rattle.std.proofs.lemmas.List.{length-replicate}
use Rattle.std.proofs.lemmas.List.Elements.{All-head, All-tail, All-from_get_or}
use Rattle.std.proofs.lemmas.List.FromFn.{length-map-range_with_len, get_or-map-range_with_len}
use native.Mathlib.Nat.{mod-mod, mul-zero, one-mul, zero-mod}
use Rattle.std.proofs.Math.Nat.{pow-zero}
use Rattle.alg_model.specs.Coefficients.{mod_ops, power}
use Rattle.alg_model.specs.Polynomials.{scale}
use Rattle.alg_model.specs.Matrices.{combination}
use Rattle.alg_model.specs.Maps.{Field, IsFiniteField, field_values, degree_of, generator, powers}
use Rattle.alg_rings.proofs.Lists
use Rattle.alg_fields.proofs.ListRemainders.{zeros_at}
use Rattle.alg_galois.proofs.Embeddings.{apply_frobenius}
use Rattle.ff_residues.specs.SumRows.{row_sum}
use Rattle.ff_residues.proofs.ResidueLists.{below_at}
use Rattle.ff_residues.proofs.SumsBelow.{add_agree, mul_agree, sum_agree, sum_first, sum_zero}
use Rattle.ff_field.specs.PrivateTables.{IsFrobenius}
use Rattle.ff_field.proofs.RemainderRows.{sum_at_both, scale_at}
use Rattle.ff_field.proofs.Reductions.{power_valid}
use Rattle.ff_field.proofs.SmallFieldLaws
use Rattle.ff_field.proofs.SmallFieldLaws.{values_field}

length_combination : (p n : ℕ) (cs : List (List ℕ)) (xs : List ℕ) → All (λ c. length c ≡ n) cs
    → length (combination (mod_ops p) n cs xs) ≡ n
length_combination p n [] xs v = length-replicate {A = ℕ} n 0
length_combination p n (c ∷ cs) [] v = length-replicate {A = ℕ} n 0
length_combination p n (c ∷ cs) (x ∷ xs) v =
    let e : length c ≡ n = All-head (λ c. length c ≡ n) c cs v in
    let d : length (combination (mod_ops p) n cs xs) ≡ n =
    length_combination p n cs xs (All-tail (λ c. length c ≡ n) c cs v) in
    omega (
      arith,
      e,
      d,
      Lists.length_sum (mod_ops p) (scale (mod_ops p) x c) (combination (mod_ops p) n cs xs),
      Lists.length_scale (mod_ops p) x c,
    )

-- **a place of a combination of columns**
pub combination_at : (p n : ℕ) (cs : List (List ℕ)) (xs : List ℕ) → All (λ c. length c ≡ n) cs
    → (k : ℕ) → k < n → slice_index (combination (mod_ops p) n cs xs) k
    ≡ row_sum (length xs) xs cs k % p
combination_at p n [] xs v k l = zeros_at 0 n k ∙ sym (zero-mod p)
    ∙ ap (λ w. w % p) (sym (sum_zero (length xs)
    (λ i. slice_index xs i * slice_index (slice_index_or {A = List ℕ} [] i []) k)
    (λ i m. mul-zero (slice_index xs i))))
combination_at p n (c ∷ cs) [] v k l = zeros_at 0 n k ∙ sym (zero-mod p)
combination_at p n (c ∷ cs) (x ∷ xs) v k l =
    let e : length c ≡ n = All-head (λ c. length c ≡ n) c cs v in
    let t = All-tail (λ c. length c ≡ n) c cs v in
    let rest = combination (mod_ops p) n cs xs in
    sum_at_both p (scale (mod_ops p) x c) rest k (omega (arith, e, Lists.length_scale (mod_ops p) x c))
    (omega (arith, length_combination p n cs xs t))
    ∙ add_agree p (slice_index (scale (mod_ops p) x c) k) (slice_index rest k)
    (x * slice_index c k) (row_sum (length xs) xs cs k)
    (ap (λ w. w % p) (scale_at p x c k) ∙ mod-mod (x * slice_index c k) p)
    (ap (λ w. w % p) (combination_at p n cs xs t k l) ∙ mod-mod (row_sum (length xs) xs cs k) p)
    ∙ ap (λ w. w % p) (sym (sum_first (length xs)
    (λ i. slice_index (x ∷ xs) i * slice_index (slice_index_or (c ∷ cs) i []) k)))

module _ (K : Field) (W : IsFiniteField K) where
  abbrev p : ℕ
  p = K.characteristic

  abbrev n : ℕ
  n = degree_of K

  abbrev root : ℕ → List ℕ
  root i = power (field_values K).ops (power (field_values K).ops (generator K) (p ^ 1)) i

  -- **a^p by the kept columns**
  pub frobenius_by_columns : (generator_valid : (field_values K).Valid (generator K))
      → (columns : List (List ℕ)) → IsFrobenius K columns
      → (a : List ℕ) → (field_values K).Valid a → (k : ℕ) → k < degree_of K
      → slice_index (power (field_values K).ops a K.characteristic) k
      ≡ row_sum (length a) a columns k % K.characteristic
  frobenius_by_columns vx columns T a va k l =
      let o = (field_values K).ops in
      let R = (values_field K W).ring in
      let cs = powers K (power o (generator K) (p ^ 1)) n in
      let one : p ^ 1 ≡ p = pow-suc p 0 ∙ ap (λ w. w * p) (pow-zero p) ∙ one-mul p in
      let long : length cs ≡ n = length-map-range_with_len root 0 n in
      let each : (i : ℕ) → i < n → slice_index_or cs i [] ≡ root i =
      λ i h. get_or-map-range_with_len root 0 n i i [] h (omega arith) in
      let valid : (i : ℕ) → (field_values K).Valid (root i) =
      λ i. power_valid (SmallFieldLaws.V K W) R _ (power_valid (SmallFieldLaws.V K W) R (generator K) vx (p ^ 1)) i in
      ap (λ q. slice_index (power o a q) k) (sym one)
      ∙ ap (λ v. slice_index v k) (sym (apply_frobenius K W 1 a va))
      ∙ combination_at p n cs a (All-from_get_or (λ c. length c ≡ n) cs []
      (λ i h. let m : i < n = omega (arith, long) in ap length (each i m) ∙ (valid i).1)) k l
      ∙ sum_agree p (length a) (λ i. slice_index a i * slice_index (slice_index_or cs i []) k)
      (λ i. slice_index a i * slice_index (slice_index_or columns i []) k)
      (λ i h. let m : i < n = omega (arith, va.1) in
      mul_agree p (slice_index a i) (slice_index (slice_index_or cs i []) k)
      (slice_index (slice_index_or columns i []) k)
      (ap (λ c. slice_index c k % p) (each i m)
      ∙ sym (ap (λ w. w % p) (T.places i k m l
      ∙ ap (λ q. slice_index (power o (power o (generator K) q) i) k % p) (sym one))
      ∙ mod-mod (slice_index (root i) k) p)))

  -- a digit of a value is its own remainder
  pub digit_reduced : (v : List ℕ) → (field_values K).Valid v → (k : ℕ)
      → slice_index v k ≡ slice_index v k % K.characteristic
  digit_reduced v valid k =
      let above : 1 < p = W.characteristic.above_one in
      sym (mod-eq_of_lt (below_at p v k (omega arith) valid.0))

  -- powers are values
  pub powers_valid : (v : List ℕ) → (field_values K).Valid v → (i : ℕ)
      → (field_values K).Valid (power (field_values K).ops v i)
  powers_valid v valid i = power_valid (SmallFieldLaws.V K W) (values_field K W).ring v valid i
