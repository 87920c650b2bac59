-- Combinations of values with constants for coefficients, as elements: what a map into a field
-- gives.
--     combine h o cs xs     h x_0 * c_0 + h x_1 * c_1 + ..
use Rattle.std.proofs.Common.{◌≡◌, ℕ, zero, suc, ◌+◌, ◌<◌, ◌≤◌, List, [], ◌∷◌, length, map, replicate, slice_set, slice_index_or, refl, ap, ap₂, sym, ◌∙◌, arith}
use Rattle.std.specs.List.{range_with_len}
use Rattle.alg_model.specs.Coefficients.{Ops, Carrier, power}
use Rattle.alg_model.specs.Polynomials.{evaluate, sum}
use Rattle.alg_model.specs.Factors.{IsMonic}
use Rattle.alg_model.specs.Values.{degree, values}
use Rattle.alg_model.specs.Matrices.{combination}
use Rattle.alg_model.specs.Fields.{IsField}
use Rattle.alg_rings.specs.Laws.{RingLaws, IsPropositional}
use Rattle.alg_rings.proofs.Rings
use Rattle.alg_rings.proofs.Rings.{sorted, expanded}
use Rattle.alg_rings.proofs.Elements.{Element, underlying}
use Rattle.alg_rings.proofs.Homomorphisms.{Homomorphism}
use Rattle.alg_rings.proofs.Divisors.{Polynomial}
use Rattle.alg_fields.proofs.ValueConstants.{constant_value}
use Rattle.alg_finite.proofs.Values

-- h x_0 * c_0 + h x_1 * c_1 + ..
abbrev pub combine : {A B : Type 0} (h : B → A) (o : Ops A) → List A → List B → A
combine h o [] xs = o.zero
combine h o (c ∷ cs) [] = o.zero
combine h o (c ∷ cs) (x ∷ xs) = o.add (o.mul (h x) c) (combine h o cs xs)

module _ {A B : Type 0} {k : Ops B} {o : Ops A} {h : B → A} (R : RingLaws o)
    (H : Homomorphism k o h) where
  open o use {zero as O, one as I, add as ◌⊕◌, mul as ◌⊗◌, neg}

  infixl 60 ◌⊕◌
  infixl 70 ◌⊗◌
  -- powers of a from a^j on
  combine_powers_from : (a : A) (j n : ℕ) (xs : List B) → length xs ≤ n
      → combine h o (map (power o a) (range_with_len j n)) xs
      ≡ power o a j ⊗ evaluate o (map h xs) a
  combine_powers_from a j zero [] l = sym (Rings.mul_zero R (power o a j))
  combine_powers_from a j (suc n) [] l = sym (Rings.mul_zero R (power o a j))
  combine_powers_from a j zero (x ∷ xs) l = absurd (omega arith)
  combine_powers_from a j (suc n) (x ∷ xs) l =
      let next : j + 1 ≡ suc j = omega arith in
      ap (λ t. h x ⊗ power o a j ⊕ t)
      (combine_powers_from a (j + 1) n xs (omega arith)
      ∙ ap (λ i. power o a i ⊗ evaluate o (map h xs) a) next)
      ∙ gather (h x) (power o a j) a (evaluate o (map h xs) a)
    where
      gather : (y b a v : A) → y ⊗ b ⊕ b ⊗ a ⊗ v ≡ b ⊗ (y ⊕ a ⊗ v)
      gather y b a v = simp (expanded, R)

  -- **the combination of 1, a, a^2, .. is the value at a**
  pub combine_powers : (a : A) (n : ℕ) (xs : List B) → length xs ≤ n
      → combine h o (map (power o a) (range_with_len 0 n)) xs ≡ evaluate o (map h xs) a
  combine_powers a n xs l = combine_powers_from a 0 n xs l ∙ R.one_mul (evaluate o (map h xs) a)

  combine_zeros : (cs : List A) (n : ℕ) → combine h o cs (replicate n k.zero) ≡ O
  combine_zeros [] n = refl
  combine_zeros (c ∷ cs) zero = refl
  combine_zeros (c ∷ cs) (suc n) =
      ap₂ ◌⊕◌ (ap (λ t. t ⊗ c) H.zero ∙ Rings.zero_mul R c) (combine_zeros cs n) ∙ R.zero_add O

  -- the combination by a unit column is one of the members
  pub combine_unit : (cs : List A) (n i : ℕ) (e : A) → i < length cs → i < n
      → combine h o cs (slice_set (replicate n k.zero) i k.one) ≡ slice_index_or cs i e
  combine_unit [] n i e l r = absurd (omega arith)
  combine_unit (c ∷ cs) zero i e l r = absurd (omega arith)
  combine_unit (c ∷ cs) (suc n) zero e l r =
      ap₂ ◌⊕◌ (ap (λ t. t ⊗ c) H.one ∙ R.one_mul c) (combine_zeros cs n) ∙ Rings.add_zero R c
  combine_unit (c ∷ cs) (suc n) (suc i) e l r =
      ap₂ ◌⊕◌ (ap (λ t. t ⊗ c) H.zero ∙ Rings.zero_mul R c)
      (combine_unit cs n i e (omega arith) (omega arith)) ∙ R.zero_add (slice_index_or cs i e)

  value_of_zeros : (n : ℕ) (a : A) → evaluate o (map h (replicate n k.zero)) a ≡ O
  value_of_zeros zero a = refl
  value_of_zeros (suc n) a = ap₂ (λ s t. s ⊕ a ⊗ t) H.zero (value_of_zeros n a) ∙ R.zero_add (a ⊗ O)
      ∙ Rings.mul_zero R a

  -- a unit column has the power for its value
  pub value_of_unit : (n i : ℕ) (a : A) → i < n
      → evaluate o (map h (slice_set (replicate n k.zero) i k.one)) a ≡ power o a i
  value_of_unit zero i a l = absurd (omega arith)
  value_of_unit (suc n) zero a l = ap₂ (λ s t. s ⊕ a ⊗ t) H.one (value_of_zeros n a)
      ∙ ap (λ t. I ⊕ t) (Rings.mul_zero R a) ∙ Rings.add_zero R I
  value_of_unit (suc n) (suc i) a l =
      ap₂ (λ s t. s ⊕ a ⊗ t) H.zero (value_of_unit n i a (omega arith))
      ∙ R.zero_add (a ⊗ power o a i) ∙ R.mul_comm a (power o a i)

module _ {A : Type 0} {c : Carrier A} (P : IsPropositional c) (F : IsField c) (f : Polynomial c)
    (not_constant : 1 < length f.0) (monic : IsMonic c f.0) where
  -- **as lists it is the combination of columns**
  pub combine_value : (cs : List (Element (values c f.0))) (xs : List (Element c))
      → (combine (constant_value P F f not_constant monic)
      (Values.value_element_ops P F f not_constant monic) cs xs).0
      ≡ combination c.ops (degree f.0) (map (underlying (values c f.0)) cs) (map (underlying c) xs)
  combine_value [] xs = refl
  combine_value (v ∷ cs) [] = refl
  combine_value (v ∷ cs) (x ∷ xs) =
      ap₂ (sum c.ops) (Values.constant_times P F f not_constant monic x v) (combine_value cs xs)
