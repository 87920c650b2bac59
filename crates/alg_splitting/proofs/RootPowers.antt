-- Polynomials whose values at the roots of g are the powers v^(p^i).
use Rattle.std.proofs.Common.{◌≡◌, ℕ, suc, ◌*◌, ◌^◌, ◌<◌, List, [], ◌∷◌, All, length, slice_index_or, ap, ap₂, sym, ◌∙◌, arith}
use Rattle.std.proofs.Math.Nat.{pow-zero}
use Rattle.std.proofs.lemmas.List.{length-map}
use Rattle.std.proofs.lemmas.List.Elements.{All-nil, All-cons}
use Rattle.alg_model.specs.Coefficients.{Ops, power, mod_ops, residues}
use Rattle.alg_model.specs.Polynomials.{scale, trim, poly_power, evaluate}
use Rattle.alg_model.specs.Factors.{IsPolynomial, IsDivision, Divides}
use Rattle.alg_model.specs.Maps.{Field, IsFiniteField, field_values, generator, constants}
use Rattle.alg_model.specs.Roots.{IsRoot}
use Rattle.alg_rings.specs.Laws.{RingLaws}
use Rattle.alg_rings.proofs.Elements.{Element, underlying, element_ops, element_laws, underlying_homomorphism, elements, elements_are}
use Rattle.alg_rings.proofs.Homomorphisms.{Homomorphism, power-map, place-map, evaluate-map}
use Rattle.alg_rings.proofs.Validity.{power_valid, place_valid, scale_valid, trim_valid}
use Rattle.alg_linear.specs.PrivateGrids.{total}
use Rattle.alg_finite.proofs.FiniteField.{frobenius_last}
use Rattle.alg_galois.proofs.Fields.{modulus_of, finite}
use Rattle.alg_galois.proofs.Embeddings.{generator_is_value}
use Rattle.alg_splitting.specs.PrivateSearch.{variable, poly_total, IsFrobeniusAtRoots}
use Rattle.alg_splitting.proofs.ValueLaws.{values_set, values_ring}
use Rattle.alg_splitting.proofs.PolynomialValues.{value_of_variable, value_of_power, value_of_remainder, value_of_trim, value_of_scale, value_of_total, power_of_value}
use Rattle.alg_splitting.proofs.ConstantPolynomials.{constants_valid, constants_power, constants_division, constants_variable, value_of_field_power, value_of_field_generator}
use Rattle.alg_splitting.proofs.RootDivisors.{divisor_root}

module _ (F : Field) (W : IsFiniteField F) where
  abbrev E : Ops (Element (field_values F))
  E = element_ops (values_ring F W)

  abbrev L : RingLaws (element_ops (values_ring F W))
  L = element_laws (values_set F) (values_ring F W)

  abbrev H : Homomorphism (element_ops (values_ring F W)) (field_values F).ops
      (underlying (field_values F))
  H = underlying_homomorphism (values_ring F W)

  -- one more power p
  pub next_power : (v : List ℕ) → (field_values F).Valid v → (i : ℕ)
      → power (field_values F).ops (power (field_values F).ops v (F.characteristic ^ i))
      F.characteristic
      ≡ power (field_values F).ops v (F.characteristic ^ suc i)
  next_power v vv i =
      ap (λ w. power (field_values F).ops w F.characteristic)
      (sym (power-map H (v, vv) (F.characteristic ^ i)))
      ∙ sym (power-map H (power E (v, vv) (F.characteristic ^ i)) F.characteristic)
      ∙ ap (λ w. w.0) (sym (frobenius_last L F.characteristic i (v, vv)))
      ∙ power-map H (v, vv) (F.characteristic ^ suc i)

  -- the power p of the value of a polynomial at v
  module _ (a : List (List ℕ)) (va : All (field_values F).Valid a) (v : List ℕ)
      (vv : (field_values F).Valid v) where
    abbrev entries : List (Element (field_values F))
    entries = elements (field_values F) a va

    -- a coefficient's power p times a power of v^p
    term : ℕ → Element (field_values F)
    term j = E.mul (power E (slice_index_or entries j E.zero) F.characteristic)
        (power E (v, vv) (F.characteristic * j))

    term_is : (j : ℕ) → (term j).0 ≡ (field_values F).ops.mul
        (power (field_values F).ops (slice_index_or a j (field_values F).ops.zero)
        F.characteristic) (power (field_values F).ops v (F.characteristic * j))
    unfolding term
    term_is j = ap₂ (field_values F).ops.mul
        (power-map H (slice_index_or entries j E.zero) F.characteristic
        ∙ ap (λ w. power (field_values F).ops w F.characteristic)
        (place-map H entries j
        ∙ ap (λ w. slice_index_or w j (field_values F).ops.zero)
        (elements_are (field_values F) a va)))
        (power-map H (v, vv) (F.characteristic * j))

    power_by_terms : power (field_values F).ops (evaluate (field_values F).ops a v)
        F.characteristic ≡ (total (element_ops (values_ring F W)) (length a) term).0
    unfolding term
    power_by_terms =
        ap (λ w. power (field_values F).ops w F.characteristic)
        (ap (λ w. evaluate (field_values F).ops w v) (sym (elements_are (field_values F) a va))
        ∙ sym (evaluate-map H entries (v, vv)))
        ∙ sym (power-map H (evaluate E entries (v, vv)) F.characteristic)
        ∙ ap (λ w. w.0)
        (power_of_value L F.characteristic W.characteristic
        (finite F.characteristic W.characteristic F.polynomial (modulus_of F W)).characteristic
        entries (v, vv)
        ∙ ap (λ n. total E n (λ j. E.mul
        (power E (slice_index_or entries j E.zero) F.characteristic)
        (power E (v, vv) (F.characteristic * j))))
        (sym (length-map entries (underlying (field_values F)))
        ∙ ap length (elements_are (field_values F) a va)))

  -- ---- at the roots of g
  module _ (g : List (List ℕ)) where
    -- y itself
    pub powers_start : IsFrobeniusAtRoots F g 0 (variable F)
    powers_start = λ v r. value_of_variable (values_set F) (values_ring F W) v r.0
        ∙ sym (ap (power (field_values F).ops v) (pow-zero F.characteristic)
        ∙ (values_ring F W).one_mul v r.0)

    -- **the power p of one is the next one**
    pub powers_next : (i : ℕ) (a : List (List ℕ)) → IsPolynomial (field_values F) a
        → IsFrobeniusAtRoots F g i a
        → IsFrobeniusAtRoots F g (suc i) (poly_power (field_values F).ops a F.characteristic)
    powers_next i a va s = λ v r.
        value_of_power (values_set F) (values_ring F W) v r.0 a va.0 F.characteristic
        ∙ ap (λ w. power (field_values F).ops w F.characteristic) (s v r) ∙ next_power v r.0 i

    -- **and so are the coefficients' powers p times the powers of y^p**
    pub powers_by_table : (i : ℕ) (a : List (List ℕ)) → IsPolynomial (field_values F) a
        → IsFrobeniusAtRoots F g i a → (t : ℕ → List (List ℕ))
        → ((j : ℕ) → j < length a → IsPolynomial (field_values F) (t j))
        → ((j : ℕ) → j < length a → (v : List ℕ) → IsRoot F g v
        → evaluate (field_values F).ops (t j) v
        ≡ power (field_values F).ops v (F.characteristic * j))
        → IsFrobeniusAtRoots F g (suc i) (poly_total (field_values F).ops (length a)
        (λ j. trim (field_values F).ops (scale (field_values F).ops
        (power (field_values F).ops (slice_index_or a j (field_values F).ops.zero) F.characteristic)
        (t j))))
    powers_by_table i a va s t vt st = λ v r.
        value_of_total (values_set F) (values_ring F W) v r.0 (length a) _
        (λ j l. trim_valid (values_ring F W) _ (scale_valid (values_ring F W) _ (t j)
        (coefficient_valid j) (vt j l).0))
        (term a va.0 v r.0)
        (λ j l. value_of_trim (values_set F) (values_ring F W) v r.0 _
        (scale_valid (values_ring F W) _ (t j) (coefficient_valid j) (vt j l).0)
        ∙ value_of_scale (values_set F) (values_ring F W) v r.0 _ (coefficient_valid j) (t j)
        (vt j l).0
        ∙ ap ((field_values F).ops.mul (power (field_values F).ops
        (slice_index_or a j (field_values F).ops.zero) F.characteristic)) (st j l v r)
        ∙ sym (term_is a va.0 v r.0 j))
        ∙ sym (power_by_terms a va.0 v r.0)
        ∙ ap (λ w. power (field_values F).ops w F.characteristic) (s v r) ∙ next_power v r.0 i
      where
        coefficient_valid : (j : ℕ) → (field_values F).Valid (power (field_values F).ops
            (slice_index_or a j (field_values F).ops.zero) F.characteristic)
        coefficient_valid j = power_valid (values_ring F W)
            (slice_index_or a j (field_values F).ops.zero) F.characteristic
            (place_valid (values_ring F W) a j va.0)

    -- a remainder of one by g is one
    pub powers_remainder : (i : ℕ) (a q r : List (List ℕ)) → IsPolynomial (field_values F) g
        → IsFrobeniusAtRoots F g i a → IsDivision (field_values F) a g q r
        → IsFrobeniusAtRoots F g i r
    powers_remainder i a q r vg s D = λ v z.
        value_of_remainder (values_set F) (values_ring F W) v z.0 a g q r vg.0 D z.1 ∙ s v z

    -- one for g is one for each divisor of g
    pub powers_of_divisor : (i : ℕ) (a h : List (List ℕ)) → IsPolynomial (field_values F) h
        → Divides (field_values F) h g → IsFrobeniusAtRoots F g i a → IsFrobeniusAtRoots F h i a
    powers_of_divisor i a h vh d s = λ v r. s v (divisor_root F W h g vh.0 d v r)

-- **over the prime field: the remainders of y^(p^i) by f, at the roots of f**
pub powers_of_residues : (F : Field) → IsFiniteField F → (f : List ℕ)
    → IsPolynomial (residues F.characteristic) f → (i : ℕ) (q r : List ℕ)
    → IsDivision (residues F.characteristic)
    (poly_power (mod_ops F.characteristic) (0 ∷ 1 ∷ []) (F.characteristic ^ i)) f q r
    → IsFrobeniusAtRoots F (constants F f) i (constants F r)
powers_of_residues F W f vf i q r D = λ v z.
    value_of_remainder (values_set F) (values_ring F W) v z.0
    (constants F (poly_power (mod_ops F.characteristic) (0 ∷ 1 ∷ []) (F.characteristic ^ i)))
    (constants F f) (constants F q) (constants F r) (constants_valid F W f vf.0)
    (constants_division F W
    (poly_power (mod_ops F.characteristic) (0 ∷ 1 ∷ []) (F.characteristic ^ i)) f q r vf D) z.1
    ∙ ap (λ w. evaluate (field_values F).ops w v)
    (constants_power F W (0 ∷ 1 ∷ []) residues_valid (F.characteristic ^ i))
    ∙ value_of_power (values_set F) (values_ring F W) v z.0 (constants F (0 ∷ 1 ∷ []))
    (constants_valid F W (0 ∷ 1 ∷ []) residues_valid) (F.characteristic ^ i)
    ∙ ap (λ w. power (field_values F).ops w (F.characteristic ^ i))
    (ap (λ w. evaluate (field_values F).ops w v) (constants_variable F W)
    ∙ value_of_variable (values_set F) (values_ring F W) v z.0)
  where
    residues_valid : All (residues F.characteristic).Valid (0 ∷ 1 ∷ [])
    residues_valid = let l : 1 < F.characteristic = W.characteristic.above_one in
        All-cons (residues F.characteristic).Valid 0 (1 ∷ []) (omega arith)
        (All-cons (residues F.characteristic).Valid 1 [] l
        (All-nil (residues F.characteristic).Valid))

-- **over the prime field: the powers p^i of the generator of E, at the roots of its polynomial**
pub powers_of_generator : (E F : Field) → IsFiniteField E → IsFiniteField F
    → E.characteristic ≡ F.characteristic → (i : ℕ)
    → IsFrobeniusAtRoots F (constants F E.polynomial) i
    (constants F (power (field_values E).ops (generator E) (E.characteristic ^ i)))
powers_of_generator E F V W e i = λ v r.
    value_of_field_power F W E V e v r (generator E) (generator_is_value E F V W)
    (E.characteristic ^ i)
    ∙ ap₂ (λ w q. power (field_values F).ops w (q ^ i)) (value_of_field_generator F W E V e v r) e
