-- The search for a root: a divisor whose roots agree in more and more traces, until one is left.
use Rattle.std.proofs.Common.{◌≡◌, ◌↔◌, ⊎_elim, ℕ, suc, ◌<◌, ◌≤◌, List, [], ◌∷◌, length, slice_index_or, refl, sym, ◌∙◌, subst, arith}
use Rattle.std.proofs.lemmas.Bool.{cases_eq, cases_lt}
use Rattle.std.proofs.lemmas.List.Elements.{All-head}
use Rattle.alg_model.specs.Coefficients.{power}
use Rattle.alg_model.specs.Polynomials.{evaluate}
use Rattle.alg_model.specs.Factors.{IsPolynomial, IsMonic, IsGreatestCommonDivisor}
use Rattle.alg_model.specs.Maps.{Field, IsFiniteField, field_values, degree_of, generator, constant}
use Rattle.alg_model.specs.Roots.{IsRoot}
use Rattle.alg_model.specs.Conjugates.{trace}
use Rattle.alg_fields.specs.Fixed.{less_constant}
use Rattle.alg_rings.proofs.Decisions.{lists_equal_or_not}
use Rattle.alg_rings.proofs.Divisors.{divides_itself, divides_transitive}
use Rattle.alg_rings.proofs.Validity.{power_valid}
use Rattle.alg_galois.proofs.Embeddings.{generator_is_value}
use Rattle.alg_galois.proofs.FieldTraces.{prime_traces}
use Rattle.alg_splitting.specs.PrivateSearch.{Splits, IsTraceAtRoots, IsNarrowed}
use Rattle.alg_splitting.proofs.ValueLaws.{values_set, values_ring}
use Rattle.alg_splitting.proofs.PolynomialValues.{value_of_constant}
use Rattle.alg_splitting.proofs.SplitPolynomials.{root_of_degree_one}
use Rattle.alg_splitting.proofs.RootDivisors.{divisor_root, gcd_splits, gcd_monic}
use Rattle.alg_splitting.proofs.RootTraces.{trace_constant_at_roots}
use Rattle.alg_splitting.proofs.RootCuts.{cut_root, cut_exists}

module _ (F : Field) (W : IsFiniteField F) (f : List (List ℕ)) where
  -- **the start is f itself**
  pub narrowed_start : Splits F f → IsMonic (field_values F) f → 1 < length f → IsNarrowed F f 0 f
  narrowed_start S m l = record {
    splits = S;
    monic = m;
    not_constant = l;
    divides = divides_itself (values_set F) (values_ring F W) f S.polynomial;
    agree = λ v w r s j k. absurd (omega arith);
  }

  module _ (k : ℕ) (h : List (List ℕ)) (N : IsNarrowed F f k h) (t : List (List ℕ))
      (vt : IsPolynomial (field_values F) t)
      (s : IsTraceAtRoots F h (power (field_values F).ops (generator F) k) t) where
    -- what are roots of h and agree in one more trace
    next_agrees : (T : List ℕ → Type 0) → ((v : List ℕ) → T v → IsRoot F h v)
        → ((v w : List ℕ) → T v → T w
        → trace F ((field_values F).ops.mul (power (field_values F).ops (generator F) k) v)
        ≡ trace F ((field_values F).ops.mul (power (field_values F).ops (generator F) k) w))
        → (v w : List ℕ) → T v → T w → (j : ℕ) → j < suc k
        → trace F ((field_values F).ops.mul (power (field_values F).ops (generator F) j) v)
        ≡ trace F ((field_values F).ops.mul (power (field_values F).ops (generator F) j) w)
    next_agrees T of_h same v w r q j m = ⊎_elim
        (λ e. subst (λ i. trace F
        ((field_values F).ops.mul (power (field_values F).ops (generator F) i) v)
        ≡ trace F ((field_values F).ops.mul (power (field_values F).ops (generator F) i) w))
        (sym e) (same v w r q))
        (λ d. N.agree v w (of_h v r) (of_h w q) j (omega arith))
        (cases_eq j k)

    -- **a greatest common divisor of h and t - c that isn't constant is the next**
    pub narrowed_step : (c : ℕ) → c < F.characteristic → (g : List (List ℕ))
        → IsGreatestCommonDivisor (field_values F) h
        (less_constant (field_values F).ops t (constant F c)) g → 1 < length g
        → IsNarrowed F f (suc k) g
    narrowed_step c l g G n = record {
      splits = gcd_splits F W h (less_constant (field_values F).ops t (constant F c)) g N.splits G;
      monic = gcd_monic F W h (less_constant (field_values F).ops t (constant F c)) g G
          N.splits.not_zero;
      not_constant = n;
      divides = divides_transitive (values_set F) (values_ring F W) g h f G.polynomial
          G.divides_first N.divides;
      agree = λ v w r s j m. next_agrees
          (λ v. IsRoot F g v) (λ v r. ((cut v).0 r).0)
          (λ v w r q. at_constant v r ∙ sym (at_constant w q)) v w r s j m;
    }
      where
        cut : (v : List ℕ)
            → IsRoot F g v ↔ (IsRoot F h v × (evaluate (field_values F).ops t v ≡ constant F c))
        cut v = cut_root F W h t N.splits.polynomial vt c l g G v

        at_constant : (v : List ℕ) → IsRoot F g v
            → trace F ((field_values F).ops.mul (power (field_values F).ops (generator F) k) v)
            ≡ constant F c
        at_constant v r = sym (s v ((cut v).0 r).0) ∙ ((cut v).0 r).1

    -- **there is one**
    pub narrowed_step_exists : (c : ℕ) × (c < F.characteristic) × ((g : List (List ℕ))
        → IsGreatestCommonDivisor (field_values F) h
        (less_constant (field_values F).ops t (constant F c)) g → 1 < length g)
    narrowed_step_exists = cut_exists F W h t N.splits.polynomial vt N.splits N.not_constant
        (trace_constant_at_roots F W h (power (field_values F).ops (generator F) k)
        (power_valid (values_ring F W) (generator F) k (generator_is_value F F W W)) t s)

    -- where t is constant, h itself is the next
    pub narrowed_same : length t ≤ 1 → IsNarrowed F f (suc k) h
    narrowed_same l = record {
      splits = N.splits;
      monic = N.monic;
      not_constant = N.not_constant;
      divides = N.divides;
      agree = next_agrees (λ v. IsRoot F h v) (λ v r. r)
          (λ v w r q. sym (s v r) ∙ constant_value t vt l v w r q ∙ s w q);
    }
      where
        constant_value : (t : List (List ℕ)) → IsPolynomial (field_values F) t → length t ≤ 1
            → (v w : List ℕ) → IsRoot F h v → IsRoot F h w
            → evaluate (field_values F).ops t v ≡ evaluate (field_values F).ops t w
        constant_value [] vt l v w r q = refl
        constant_value (a ∷ []) vt l v w r q =
            value_of_constant (values_set F) (values_ring F W) v r.0 a
            (All-head (field_values F).Valid a [] vt.0)
            ∙ sym (value_of_constant (values_set F) (values_ring F W) w q.0 a
            (All-head (field_values F).Valid a [] vt.0))
        constant_value (a ∷ b ∷ t) vt l v w r q = absurd (omega arith)

  -- roots that agree in n traces are equal
  agreeing_equal : (h : List (List ℕ)) → IsNarrowed F f (degree_of F) h → (v w : List ℕ)
      → IsRoot F h v → IsRoot F h w → v ≡ w
  agreeing_equal h N v w r s = ⊎_elim (λ e. e)
      (λ n. let (j, l, apart) = (prime_traces F W).trace_parts v w r.0 s.0 n in
      absurd (apart (N.agree v w r s j l)))
      (lists_equal_or_not cases_eq v w)

  -- **after n steps the degree is 1**
  pub narrowed_end : (h : List (List ℕ)) → IsNarrowed F f (degree_of F) h → length h ≡ 2
  narrowed_end h N = ⊎_elim
      (λ l. absurd (N.splits.different 0 1 [] (omega arith) l
      (agreeing_equal h N _ _ (N.splits.are_roots 0 [] (omega arith))
      (N.splits.are_roots 1 [] l))))
      (λ l. omega (arith, N.splits.count, N.not_constant))
      (cases_lt 1 (length N.splits.roots))

  -- **and then the negative of the constant coefficient is a root of f**
  pub narrowed_root : (k : ℕ) (h : List (List ℕ)) → IsNarrowed F f k h → length h ≡ 2
      → IsRoot F f ((field_values F).ops.neg (slice_index_or h 0 (field_values F).ops.zero))
  narrowed_root k h N l = divisor_root F W h f N.splits.polynomial.0 N.divides
      ((field_values F).ops.neg (slice_index_or h 0 (field_values F).ops.zero))
      ((root_of_degree_one F W h N.splits.polynomial N.monic l
      ((field_values F).ops.neg (slice_index_or h 0 (field_values F).ops.zero))).1 refl)
