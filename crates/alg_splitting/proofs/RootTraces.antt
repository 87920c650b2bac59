-- Polynomials whose values at the roots of g are traces.
--     relative_trace F d c     c + c^q + .., n / d of them, for q = p^d
use Rattle.std.proofs.Common.{◌≡◌, ℕ, zero, suc, ◌+◌, ◌*◌, ◌/◌, ◌^◌, ◌<◌, List, [], map, All, refl, ap, ap₂, sym, ◌∙◌, subst, arith}
use Rattle.std.specs.List.{range_with_len}
use Rattle.std.proofs.Math.Nat.{div-add-mod}
use Rattle.std.proofs.lemmas.Nat.Gcd.{mod-eq-zero_of_dvd}
use Prim.Native.Nat.{◌∣◌}
use Rattle.alg_model.specs.Coefficients.{Ops, power}
use Rattle.alg_model.specs.Polynomials.{scale, trim, evaluate}
use Rattle.alg_model.specs.Factors.{IsPolynomial, IsDivision, Divides}
use Rattle.alg_model.specs.Maps.{Field, IsFiniteField, field_values, degree_of}
use Rattle.alg_model.specs.Roots.{IsRoot}
use Rattle.alg_model.specs.Conjugates.{conjugates, sum_all, trace}
use Rattle.alg_rings.specs.Laws.{FieldLaws}
use Rattle.alg_rings.proofs.Folds.{fold_last, fold_same, fold-map, sums, sums_kept}
use Rattle.alg_rings.proofs.Elements.{Element, underlying_homomorphism, underlying_injective}
use Rattle.alg_rings.proofs.Validity.{power_valid, scale_valid, trim_valid}
use Rattle.alg_fields.proofs.OnCarriers.{power_of_product}
use Rattle.alg_finite.proofs.FiniteField.{FiniteField, frobenius, frobenius_add, frobenius_of_power, frobenius_multiple, frobenius_homomorphism}
use Rattle.alg_finite.proofs.RelativeTraces.{powers_keep}
use Rattle.alg_finite.proofs.Traces.{trace_of, trace_of_multiple, conjugates_transitive, list_fold}
use Rattle.alg_galois.proofs.Fields.{IsModulus, modulus_of, ops, laws, finite, power_value}
use Rattle.alg_galois.proofs.FieldTraces.{sum_value, prime_traces}
use Rattle.alg_splitting.specs.PrivateSearch.{poly_total, IsFrobeniusAtRoots, conjugate_sum, IsConjugateSumAtRoots, IsTraceAtRoots, IsConstantAtRoots}
use Rattle.alg_splitting.proofs.ValueLaws.{values_set, values_ring}
use Rattle.alg_splitting.proofs.PolynomialValues.{value_of_sum, value_of_scale, value_of_trim, value_of_remainder, total_valid}
use Rattle.alg_splitting.proofs.RootDivisors.{divisor_root}

-- for a field E of degree d this is trace_over E F c
abbrev pub relative_trace : Field → ℕ → List ℕ → List ℕ
relative_trace F d c = sum_all (field_values F).ops
    (conjugates (field_values F).ops (F.characteristic ^ d) (degree_of F / d) c)

module _ (F : Field) (W : IsFiniteField F) where
  abbrev N : IsModulus F.characteristic F.polynomial
  N = modulus_of F W

  abbrev O : Ops (Element (field_values F))
  O = ops F.characteristic W.characteristic F.polynomial (modulus_of F W)

  abbrev L : FieldLaws (ops F.characteristic W.characteristic F.polynomial (modulus_of F W))
  L = laws F.characteristic W.characteristic F.polynomial (modulus_of F W)

  abbrev K : FiniteField (ops F.characteristic W.characteristic F.polynomial (modulus_of F W))
      F.characteristic (degree_of F)
  K = finite F.characteristic W.characteristic F.polynomial (modulus_of F W)

  -- sums of conjugates, as elements and as lists
  sum_is : (q e : ℕ) (a : Element (field_values F))
      → (trace_of (ops F.characteristic W.characteristic F.polynomial (modulus_of F W)) q e a).0
      ≡ sum_all (field_values F).ops (conjugates (field_values F).ops q e a.0)
  sum_is q e a = sum_value F.characteristic W.characteristic F.polynomial N q e a

  -- one more conjugate
  pub conjugate_sum_next : (k : ℕ) (c : List ℕ) → (field_values F).Valid c
      → conjugate_sum F (suc k) c ≡ (field_values F).ops.add (conjugate_sum F k c)
      (power (field_values F).ops c (F.characteristic ^ k))
  conjugate_sum_next k c vc =
      sym (sum_is F.characteristic (suc k) (c, vc))
      ∙ ap (λ w. w.0) (fold_last (sums L.ring) k (λ i. frobenius O F.characteristic i (c, vc)))
      ∙ ap₂ (field_values F).ops.add (sum_is F.characteristic k (c, vc))
      (power_value F.characteristic W.characteristic F.polynomial N (c, vc)
      (F.characteristic ^ k))

  -- a relative trace is a value
  pub relative_valid : (d : ℕ) (c : List ℕ) → (field_values F).Valid c
      → (field_values F).Valid (relative_trace F d c)
  relative_valid d c vc = subst (field_values F).Valid
      (sum_is (F.characteristic ^ d) (degree_of F / d) (c, vc))
      (trace_of O (F.characteristic ^ d) (degree_of F / d) (c, vc)).1

  -- **through a subfield of degree d: the sum of d conjugates of the relative trace times v is the
  -- trace of c * v**
  pub trace_by_relative : (d : ℕ) → d ∣ degree_of F → (c v : List ℕ) → (field_values F).Valid c
      → (field_values F).Valid v → power (field_values F).ops v (F.characteristic ^ d) ≡ v
      → conjugate_sum F d ((field_values F).ops.mul (relative_trace F d c) v)
      ≡ trace F ((field_values F).ops.mul c v)
  trace_by_relative d k c v vc vv back =
      ap (conjugate_sum F d) (ap (λ w. w.0)
      (ap (λ t. O.mul t V) (sym relative_is) ∙ L.ring.mul_comm relative V
      ∙ sym (trace_of_multiple L q (powers_keep K d) e V C fixed)))
      ∙ sym (sum_is F.characteristic d (trace_of O q e (O.mul V C)))
      ∙ ap (λ w. w.0)
      (ap (trace_of O F.characteristic d)
      (fold_same O.zero O.add e _ _
      (λ i l. frobenius_of_power L.ring F.characteristic d i (O.mul V C)))
      ∙ conjugates_transitive L.ring F.characteristic (sums L.ring)
      (λ i. sums_kept (frobenius_homomorphism L W.characteristic K.characteristic i)) d e
      (O.mul V C)
      ∙ ap₂ (trace_of O F.characteristic) blocks (L.ring.mul_comm V C))
      ∙ sum_is F.characteristic (degree_of F) (O.mul C V)
    where
      e : ℕ
      e = degree_of F / d

      q : ℕ
      q = F.characteristic ^ d

      V : Element (field_values F)
      V = (v, vv)

      C : Element (field_values F)
      C = (c, vc)

      relative : Element (field_values F)
      relative = trace_of O q e C

      relative_is : relative ≡ (relative_trace F d c, relative_valid d c vc)
      relative_is = underlying_injective (values_set F) _ _ (sum_is q e C)

      blocks : d * e ≡ degree_of F
      blocks = omega (arith, div-add-mod (degree_of F) d, mod-eq-zero_of_dvd d k)

      fixed : (i : ℕ) → frobenius O q i V ≡ V
      fixed i = frobenius_of_power L.ring F.characteristic d i V
          ∙ frobenius_multiple L.ring F.characteristic d V
          (underlying_injective (values_set F) _ _
          (power_value F.characteristic W.characteristic F.polynomial N V q ∙ back)) i

  -- its power p^j is the sum of the c^(p^i) with i = j modulo d
  pub power_of_relative : (d j : ℕ) (c : List ℕ) → (field_values F).Valid c
      → power (field_values F).ops (relative_trace F d c) (F.characteristic ^ j)
      ≡ sum_all (field_values F).ops
      (map (λ i. power (field_values F).ops c (F.characteristic ^ (j + d * i)))
      (range_with_len 0 (degree_of F / d)))
  power_of_relative d j c vc =
      ap (λ w. power (field_values F).ops w (F.characteristic ^ j)) (sym (sum_is q e (c, vc)))
      ∙ sym (power_value F.characteristic W.characteristic F.polynomial N (trace_of O q e (c, vc))
      (F.characteristic ^ j))
      ∙ ap (λ w. w.0) (fold-map
      (sums_kept (frobenius_homomorphism L W.characteristic K.characteristic j)) e
      (λ i. frobenius O q i (c, vc)))
      ∙ fold-map (sums_kept (underlying_homomorphism (values_ring F W))) e
      (λ i. frobenius O F.characteristic j (frobenius O q i (c, vc)))
      ∙ fold_same (field_values F).ops.zero (field_values F).ops.add e _ _ (λ i l.
      ap (λ w. w.0)
      (ap (frobenius O F.characteristic j) (frobenius_of_power L.ring F.characteristic d i (c, vc))
      ∙ sym (frobenius_add L.ring F.characteristic j (d * i) (c, vc)))
      ∙ power_value F.characteristic W.characteristic F.polynomial N (c, vc)
      (F.characteristic ^ (j + d * i))
      ∙ ap (λ m. power (field_values F).ops c (F.characteristic ^ (j + d * m))) (omega arith))
      ∙ sym (list_fold (field_values F).ops.zero (field_values F).ops.add
      (sum_all (field_values F).ops) refl (λ x xs. refl)
      (λ i. power (field_values F).ops c (F.characteristic ^ (j + d * i))) 0 e)
    where
      e : ℕ
      e = degree_of F / d

      q : ℕ
      q = F.characteristic ^ d

  module _ (g : List (List ℕ)) (c : List ℕ) (vc : (field_values F).Valid c) where
    -- no conjugates
    pub sum_start : IsConjugateSumAtRoots F g c 0 []
    sum_start = λ v r. refl

    -- **one more conjugate, in any form**
    pub sum_next : (k : ℕ) (a b s : List (List ℕ)) → IsConjugateSumAtRoots F g c k a
        → IsFrobeniusAtRoots F g k b
        → ((v : List ℕ) → IsRoot F g v → evaluate (field_values F).ops s v
        ≡ (field_values F).ops.add (evaluate (field_values F).ops a v)
        ((field_values F).ops.mul (power (field_values F).ops c (F.characteristic ^ k))
        (evaluate (field_values F).ops b v)))
        → IsConjugateSumAtRoots F g c (suc k) s
    sum_next k a b s p q e = λ v r. e v r
        ∙ ap₂ (field_values F).ops.add (p v r)
        (ap ((field_values F).ops.mul (power (field_values F).ops c (F.characteristic ^ k))) (q v r)
        ∙ sym (power_of_product (values_set F) (values_ring F W) c v vc r.0 (F.characteristic ^ k)))
        ∙ sym (conjugate_sum_next k ((field_values F).ops.mul c v)
        ((values_ring F W).mul_valid c v vc r.0))

    -- **all of them**
    pub sum_total : (k : ℕ) (b : ℕ → List (List ℕ))
        → ((i : ℕ) → i < k → All (field_values F).Valid (b i))
        → ((i : ℕ) → i < k → IsFrobeniusAtRoots F g i (b i))
        → IsConjugateSumAtRoots F g c k (poly_total (field_values F).ops k
        (λ i. trim (field_values F).ops (scale (field_values F).ops
        (power (field_values F).ops c (F.characteristic ^ i)) (b i))))
    sum_total zero b vb s = sum_start
    sum_total (suc k) b vb s = sum_next k (poly_total (field_values F).ops k term) (b k)
        (poly_total (field_values F).ops (suc k) term)
        (sum_total k b (λ i l. vb i (omega arith)) (λ i l. s i (omega arith)))
        (s k (omega arith))
        (λ v r. value_of_sum (values_set F) (values_ring F W) v r.0
        (poly_total (field_values F).ops k term) (term k)
        (total_valid (values_ring F W) k term (λ i l. term_valid i (omega arith)))
        (term_valid k (omega arith))
        ∙ ap ((field_values F).ops.add
        (evaluate (field_values F).ops (poly_total (field_values F).ops k term) v))
        (value_of_trim (values_set F) (values_ring F W) v r.0
        (scale (field_values F).ops (power (field_values F).ops c (F.characteristic ^ k)) (b k))
        (scaled_valid k (omega arith))
        ∙ value_of_scale (values_set F) (values_ring F W) v r.0
        (power (field_values F).ops c (F.characteristic ^ k))
        (power_valid (values_ring F W) c (F.characteristic ^ k) vc) (b k) (vb k (omega arith))))
      where
        term : ℕ → List (List ℕ)
        term i = trim (field_values F).ops (scale (field_values F).ops
            (power (field_values F).ops c (F.characteristic ^ i)) (b i))

        scaled_valid : (i : ℕ) → i < suc k → All (field_values F).Valid
            (scale (field_values F).ops (power (field_values F).ops c (F.characteristic ^ i)) (b i))
        scaled_valid i l = scale_valid (values_ring F W)
            (power (field_values F).ops c (F.characteristic ^ i)) (b i)
            (power_valid (values_ring F W) c (F.characteristic ^ i) vc) (vb i l)

        term_valid : (i : ℕ) → i < suc k → All (field_values F).Valid (term i)
        term_valid i l = trim_valid (values_ring F W) _ (scaled_valid i l)

    -- **n conjugates are the trace**
    pub trace_from_sum : (a : List (List ℕ)) → IsConjugateSumAtRoots F g c (degree_of F) a
        → IsTraceAtRoots F g c a
    trace_from_sum a s = s

    -- **and so are d of the relative trace, where all roots are in the subfield of degree d**
    pub trace_from_relative_sum : (d : ℕ) → d ∣ degree_of F
        → ((v : List ℕ) → IsRoot F g v
        → power (field_values F).ops v (F.characteristic ^ d) ≡ v)
        → (a : List (List ℕ)) → IsConjugateSumAtRoots F g (relative_trace F d c) d a
        → IsTraceAtRoots F g c a
    trace_from_relative_sum d k back a s = λ v r.
        s v r ∙ trace_by_relative d k c v vc r.0 (back v r)

    -- the remainder by g serves
    pub trace_remainder : (a q r : List (List ℕ)) → IsPolynomial (field_values F) g
        → IsTraceAtRoots F g c a → IsDivision (field_values F) a g q r → IsTraceAtRoots F g c r
    trace_remainder a q r vg s D = λ v z.
        value_of_remainder (values_set F) (values_ring F W) v z.0 a g q r vg.0 D z.1 ∙ s v z

    -- and serves for each divisor of g
    pub trace_of_divisor : (a h : List (List ℕ)) → IsPolynomial (field_values F) h
        → Divides (field_values F) h g → IsTraceAtRoots F g c a → IsTraceAtRoots F h c a
    trace_of_divisor a h vh d s = λ v r. s v (divisor_root F W h g vh.0 d v r)

    -- **traces are constants**
    pub trace_constant_at_roots : (a : List (List ℕ)) → IsTraceAtRoots F g c a
        → IsConstantAtRoots F g a
    trace_constant_at_roots a s = λ v r.
        let t = (prime_traces F W).trace_is_image ((field_values F).ops.mul c v)
        ((values_ring F W).mul_valid c v vc r.0) in
        (t.0.0, t.0.1, t.1 ∙ sym (s v r))
