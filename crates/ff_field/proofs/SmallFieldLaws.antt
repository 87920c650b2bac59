-- The lemmas on reductions at the fields that contracts speak of.
use Rattle.std.proofs.Common.{◌≡◌, ◌≢◌, ℕ, suc, ◌+◌, ◌-◌, ◌*◌, ◌/◌, ◌%◌, ◌^◌, ◌<◌, ◌≤◌, List, ◌++◌, length, replicate, slice_index, All, ap, ap₂, sym, ◌∙◌, arith, pow-suc}
use native.Mathlib.Nat.{one-mul}
use Rattle.std.proofs.Math.Nat.{pow-zero}
use Rattle.alg_model.specs.Coefficients.{Ops, mod_ops, residues, power}
use Rattle.alg_model.specs.Polynomials.{trim, poly_sum, poly_product}
use Rattle.alg_model.specs.Factors.{IsPolynomial, IsDivision, IsGreatestCommonDivisor}
use Rattle.alg_model.specs.Values.{remainder}
use Rattle.alg_model.specs.Fields.{IsField}
use Rattle.alg_model.specs.Maps.{Field, IsFiniteField, field_values, degree_of, constant}
use Rattle.alg_model.specs.Conjugates.{conjugates, sum_all, product_all}
use Rattle.alg_rings.specs.Laws.{IsPropositional}
use Rattle.alg_rings.proofs.ResidueFields.{prime_residues_field, residues_propositional}
use Rattle.alg_rings.proofs.Divisors.{Polynomial}
use Rattle.alg_fields.proofs.OverResidues.{field_at_values}
use Rattle.alg_fields.proofs.ValueFields.{values_propositional}
use Rattle.alg_fields.proofs.Remainders.{remainder_value}
use Rattle.ff_field.proofs.Reductions

module _ (K : Field) (W : IsFiniteField K) where
  abbrev p : ℕ
  p = K.characteristic

  abbrev P : IsPropositional (residues K.characteristic)
  P = residues_propositional K.characteristic

  abbrev F : IsField (residues K.characteristic)
  F = prime_residues_field K.characteristic W.characteristic

  abbrev f : Polynomial (residues K.characteristic)
  f = (K.polynomial, W.irreducible.polynomial)

  abbrev o : Ops ℕ
  o = mod_ops K.characteristic

  abbrev T : Ops (List ℕ)
  T = (field_values K).ops

  -- the values are a field
  pub values_field : IsField (field_values K)
  values_field =
      field_at_values K.characteristic W.characteristic K.polynomial W.monic W.irreducible

  -- residues with zeros after them
  pub padded_valid : (xs : List ℕ) → All (λ x. x < K.characteristic) xs → length xs ≤ degree_of K
      → (field_values K).Valid (xs ++ replicate (degree_of K - length xs) 0)
  padded_valid = Reductions.padded_valid P F f W.irreducible.not_constant W.monic

  -- what a division by the field's polynomial leaves
  pub padded_rest : (g q r : List ℕ) → IsPolynomial (residues K.characteristic) g
      → IsDivision (residues K.characteristic) g K.polynomial q r
      → r ++ replicate (degree_of K - length r) 0 ≡ remainder o K.polynomial g
  padded_rest = Reductions.padded_rest P F f W.irreducible.not_constant W.monic

  -- remainders are values
  pub remainder_valid : (g : List ℕ) → IsPolynomial (residues K.characteristic) g
      → (field_values K).Valid (remainder o K.polynomial g)
  remainder_valid g v = remainder_value P F f W.irreducible.not_constant W.monic (g, v)

  -- **inverses**
  pub inverse_from_bezout : (a : List ℕ) → (field_values K).Valid a → a ≢ T.zero
      → (g u w : List ℕ)
      → IsPolynomial (residues K.characteristic) u → IsPolynomial (residues K.characteristic) w
      → IsGreatestCommonDivisor (residues K.characteristic) (trim o a) K.polynomial g
      → poly_sum o (poly_product o u (trim o a)) (poly_product o w K.polynomial) ≡ g
      → T.mul a (remainder o K.polynomial u) ≡ T.one
  inverse_from_bezout =
      Reductions.inverse_from_bezout P F f W.irreducible.not_constant W.monic W.irreducible

  abbrev pub V : IsPropositional (field_values K)
  V = values_propositional P K.polynomial

  abbrev half : List ℕ → ℕ → List ℕ
  half a e = power T a (e / 2)

  -- **a power by its half**
  pub power_of_odd : (a : List ℕ) → (field_values K).Valid a → (e : ℕ) → e % 2 ≡ 1
      → power T a e ≡ T.mul (T.mul (half a e) (half a e)) a
  power_of_odd a v e odd =
      let halves : e ≡ suc (e / 2 + e / 2) = omega arith in
      ap (power T a) halves
      ∙ ap (λ b. T.mul b a) (Reductions.power_sum V values_field.ring a v (e / 2) (e / 2))

  -- and of an even exponent
  pub power_of_even : (a : List ℕ) → (field_values K).Valid a → (e : ℕ) → e % 2 ≢ 1
      → power T a e ≡ T.mul (half a e) (half a e)
  power_of_even a v e even =
      let halves : e ≡ e / 2 + e / 2 = omega arith in
      ap (power T a) halves ∙ Reductions.power_sum V values_field.ring a v (e / 2) (e / 2)

  -- ---- conjugates
  -- the sum with one more
  pub sum_of_more : (n : ℕ) (a : List ℕ) → (field_values K).Valid a
      → sum_all T (conjugates T K.characteristic (n + 1) a)
      ≡ T.add (sum_all T (conjugates T K.characteristic n a)) (power T a (K.characteristic ^ n))
  sum_of_more n a v = Reductions.sum_of_more V values_field.ring K.characteristic n a v

  -- the first one
  pub first_conjugate : (a : List ℕ) → (field_values K).Valid a
      → power T a (K.characteristic ^ 0) ≡ a
  first_conjugate a v =
      ap (power T a) (pow-zero K.characteristic) ∙ values_field.ring.one_mul a v

  -- the product of twice as many
  pub product_of_twice : (h : ℕ) (a : List ℕ) → (field_values K).Valid a
      → product_all T (conjugates T K.characteristic (h + h) a)
      ≡ T.mul (product_all T (conjugates T K.characteristic h a))
      (power T (product_all T (conjugates T K.characteristic h a)) (K.characteristic ^ h))
  product_of_twice h a v = Reductions.product_split V values_field.ring K.characteristic h h a v

  -- the product of the first alone
  pub product_of_first : (a : List ℕ) → (field_values K).Valid a
      → product_all T (conjugates T K.characteristic 1 a) ≡ a
  product_of_first a v =
      let x = power T a (K.characteristic ^ 0) in
      let vx = Reductions.power_valid V values_field.ring a v (K.characteristic ^ 0) in
      values_field.ring.mul_comm x T.one vx values_field.ring.one_valid
      ∙ values_field.ring.one_mul x vx ∙ first_conjugate a v

  -- the product with one more
  pub product_of_next : (k : ℕ) (a : List ℕ) → (field_values K).Valid a
      → product_all T (conjugates T K.characteristic (1 + k) a)
      ≡ T.mul a (power T (product_all T (conjugates T K.characteristic k a)) K.characteristic)
  product_of_next k a v =
      let one : K.characteristic ^ 1 ≡ K.characteristic = pow-suc p 0 ∙ ap (λ w. w * p) (pow-zero p) ∙ one-mul p in
      Reductions.product_split V values_field.ring K.characteristic 1 k a v
      ∙ ap₂ (λ b q. T.mul b (power T (product_all T (conjugates T K.characteristic k a)) q)) (product_of_first a v) one

  -- the next one
  pub next_conjugate : (n : ℕ) (a : List ℕ) → (field_values K).Valid a
      → power T (power T a (K.characteristic ^ n)) K.characteristic
      ≡ power T a (K.characteristic ^ (n + 1))
  next_conjugate n a v = Reductions.next_conjugate V values_field.ring K.characteristic n a v

  -- **a constant is its lowest digit**
  pub lowest_digit : (s : List ℕ) → (t : ℕ) × (t < K.characteristic) × (constant K t ≡ s)
      → constant K (slice_index s 0) ≡ s
  lowest_digit s (t, l, e) =
      let d : t ≡ slice_index s 0 = ap (λ xs. slice_index xs 0) e in ap (constant K) (sym d) ∙ e
