-- Roots of a part collected by the values that `trace` has at them: what is kept while those with
-- the values below c are in the list.
use Rattle.std.proofs.Common.{◌≡◌, ◌≢◌, ◌⊎◌, ◌↔◌, ℕ, suc, ◌+◌, ◌<◌, ◌≤◌, List, length, refl, ap, sym, ◌∙◌, subst, arith, ⊎_elim, inl, inr, eq-or-lt_of_le}
use Rattle.std.specs.List.{Contains}
use Rattle.std.proofs.lemmas.Bool.{cases_lt}
use Rattle.alg_model.specs.Coefficients.{power}
use Rattle.alg_model.specs.Polynomials.{evaluate}
use Rattle.alg_model.specs.Factors.{IsPolynomial, Divides, IsDivision, IsGreatestCommonDivisor}
use Rattle.alg_model.specs.Values.{degree}
use Rattle.alg_model.specs.Maps.{Field, IsFiniteField, field_values, generator, constant}
use Rattle.alg_model.specs.Roots.{IsRoot}
use Rattle.alg_model.specs.Conjugates.{trace as trace_of}
use Rattle.alg_fields.specs.Fixed.{less_constant}
use Rattle.alg_rings.proofs.Divisors.{divides_transitive, divides_itself, length_divisor}
use Rattle.alg_rings.proofs.Lists.{length_not_nil}
use Rattle.alg_splitting.specs.PrivateSearch.{Splits, IsTraceAtRoots, IsConstantAtRoots, IsNarrowed}
use Rattle.alg_splitting.proofs.ValueLaws.{values_set, values_field, values_ring}
use Rattle.alg_splitting.proofs.SplitPolynomials.{split_root}
use Rattle.alg_splitting.proofs.RootDivisors.{divisor_root, gcd_monic, gcd_splits}
use Rattle.alg_splitting.proofs.RootCuts.{cut_root}
use Rattle.ff_roots.specs.PrivateCollecting.{IsRising, Collects}
use Rattle.ff_roots.proofs.Cofactors.{cofactor_splits, cofactor_length, cofactor_or_divisor, cofactor_root, cofactor_apart, quotient_divides, no_root}

-- the roots of `part` are in the list or roots of `rest`, where the values are c at least
pub record Collected (F : Field) (part trace : List (List ℕ)) (old : List (List ℕ)) (c : ℕ)
    (rest list : List (List ℕ)) : Type 0 where
  pub splits : Splits F rest
  pub divides : Divides (field_values F) rest part
  pub above : (v : List ℕ) → IsRoot F rest v → (t : ℕ) → t < c
      → evaluate (field_values F).ops trace v ≢ constant F t
  pub covered : (v : List ℕ) → IsRoot F part v → IsRoot F rest v ⊎ Contains list v
  pub apart : (v : List ℕ) → IsRoot F rest v → ¬ Contains list v
  pub members : (v : List ℕ) → Contains list v → Contains old v ⊎ IsRoot F part v
  pub kept : (v : List ℕ) → Contains old v → Contains list v
  pub rising : IsRising F list
  pub count : length list + length rest ≡ length old + length part

module _ (F : Field) (W : IsFiniteField F) (part trace old : List (List ℕ)) where
  -- **at the start there is the part alone**
  pub collected_start : Splits F part → IsRising F old
      → ((v : List ℕ) → IsRoot F part v → ¬ Contains old v) → Collected F part trace old 0 part old
  collected_start S R new = record {
    splits = S;
    divides = divides_itself (values_set F) (values_ring F W) part S.polynomial;
    above = λ v s t l e. omega arith;
    covered = λ v s. inl s;
    apart = new;
    members = λ v m. inl m;
    kept = λ v m. m;
    rising = R;
    count = refl;
  }

  -- **one value more**: `next` has the roots of `rest` with the value c, and `quotient` the others
  module _ (c : ℕ) (rest list : List (List ℕ)) (C : Collected F part trace old c rest list)
      (l : c < F.characteristic) (vt : IsPolynomial (field_values F) trace)
      (next : List (List ℕ)) (G : IsGreatestCommonDivisor (field_values F) rest
      (less_constant (field_values F).ops trace (constant F c)) next) where
    next_root : (v : List ℕ) → IsRoot F next v
        ↔ (IsRoot F rest v × (evaluate (field_values F).ops trace v ≡ constant F c))
    next_root = cut_root F W rest trace C.splits.polynomial vt c l next G

    pub next_splits : Splits F next
    next_splits = gcd_splits F W rest (less_constant (field_values F).ops trace (constant F c)) next
        C.splits G

    -- none is in the list yet
    pub next_new : (v : List ℕ) → IsRoot F next v → ¬ Contains list v
    next_new v s = C.apart v ((next_root v).0 s).0

    -- there is room for them
    pub next_room : length list + length next ≤ length old + length part
    next_room = omega (
      arith,
      C.count,
      length_divisor (values_set F) (values_field F W) next rest
          G.polynomial C.splits.not_zero G.divides_first,
    )

    pub collected_step : (new quotient r : List (List ℕ))
        → Collects F (IsRoot F next) (degree next) list new
        → IsDivision (field_values F) rest next quotient r
        → Collected F part trace old (suc c) quotient new
    collected_step new quotient r N D = record {
      splits = cofactor_splits F W rest next quotient r C.splits G.polynomial G.divides_first D;
      divides = divides_transitive (values_set F) (values_ring F W) quotient rest part D.quotient
          (quotient_divides F W rest next quotient r C.splits G.polynomial G.divides_first D) C.divides;
      above = λ v s t k. ⊎_elim (λ e z. apart v s ((next_root v).1 (within v s, z ∙ ap (constant F) e)))
          (λ h. C.above v (within v s) t h) (eq-or-lt_of_le (let h : t ≤ c = omega arith in h));
      covered = λ v s. ⊎_elim
          (λ u. ⊎_elim (λ q. inl q) (λ n. inr ((N.members v).1 (inr n))) (either v u))
          (λ m. inr ((N.members v).1 (inl m))) (C.covered v s);
      apart = λ v s m. ⊎_elim (λ k. C.apart v (within v s) k) (λ n. apart v s n)
          ((N.members v).0 m);
      members = λ v m. ⊎_elim (λ k. C.members v k)
          (λ n. inr (divisor_root F W rest part C.splits.polynomial.0 C.divides v
          ((next_root v).0 n).0)) ((N.members v).0 m);
      kept = λ v m. (N.members v).1 (inl (C.kept v m));
      rising = N.list;
      count = omega (
        arith,
        N.count,
        C.count,
        cofactor_length F W rest next quotient r C.splits G.polynomial G.divides_first D,
        length_not_nil next next_splits.not_zero,
      );
    }
      where
        within : (v : List ℕ) → IsRoot F quotient v → IsRoot F rest v
        within = cofactor_root F W rest next quotient r C.splits G.polynomial G.divides_first D

        apart : (v : List ℕ) → IsRoot F quotient v → ¬ IsRoot F next v
        apart = cofactor_apart F W rest next quotient r C.splits G.polynomial G.divides_first D

        either : (v : List ℕ) → IsRoot F rest v → IsRoot F quotient v ⊎ IsRoot F next v
        either = cofactor_or_divisor F W rest next quotient r C.splits G.polynomial
            G.divides_first D

    -- **where `part` is narrowed by k traces, `next` is by one more**
    pub next_narrowed : (f : List (List ℕ)) (k : ℕ) → IsNarrowed F f k part
        → IsTraceAtRoots F part (power (field_values F).ops (generator F) k) trace
        → 1 < length next → IsNarrowed F f (suc k) next
    next_narrowed f k N s n = record {
      splits = next_splits;
      monic = gcd_monic F W rest (less_constant (field_values F).ops trace (constant F c)) next G
          C.splits.not_zero;
      not_constant = n;
      divides = divides_transitive (values_set F) (values_ring F W) next part f G.polynomial
          (divides_transitive (values_set F) (values_ring F W) next rest part G.polynomial
          G.divides_first C.divides) N.divides;
      agree = λ v w a b j h. ⊎_elim
          (λ (e : j ≡ k). subst (λ i. IsSame i v w) (sym e)
          (sym (s v (in_part v a)) ∙ ((next_root v).0 a).1 ∙ sym ((next_root w).0 b).1
          ∙ s w (in_part w b)))
          (λ (m : j < k). N.agree v w (in_part v a) (in_part w b) j m)
          (eq-or-lt_of_le (let m : j ≤ k = omega arith in m));
    }
      where
        in_part : (v : List ℕ) → IsRoot F next v → IsRoot F part v
        in_part v a = divisor_root F W rest part C.splits.polynomial.0 C.divides v
            ((next_root v).0 a).0

        IsSame : ℕ → List ℕ → List ℕ → Type 0
        IsSame i v w = trace_of F ((field_values F).ops.mul (power (field_values F).ops (generator F) i) v)
            ≡ trace_of F ((field_values F).ops.mul (power (field_values F).ops (generator F) i) w)

  -- **at the end no root is left**
  pub collected_end : (c : ℕ) (rest list : List (List ℕ)) → Collected F part trace old c rest list
      → length rest < 2 → Splits F part
      → Collects F (IsRoot F part) (degree part) old list
  collected_end c rest list C l S = record {
    list = C.rising;
    count = omega (
      arith,
      C.count,
      length_not_nil rest C.splits.not_zero,
      length_not_nil part S.not_zero,
    );
    members = λ v. (
      C.members v,
      λ h. ⊎_elim (C.kept v) (λ s. ⊎_elim (λ u. absurd (no_root F W rest C.splits l v u)) (λ m. m)
          (C.covered v s)) h,
    );
  }

  -- which is so where c has reached the characteristic, if the values are residues
  pub collected_all : (c : ℕ) (rest list : List (List ℕ)) → Collected F part trace old c rest list
      → F.characteristic ≤ c → IsConstantAtRoots F part trace → length rest < 2
  collected_all c rest list C l T = ⊎_elim (λ h. h)
      (λ h. let v : (v : List ℕ) × IsRoot F rest v = split_root F W rest C.splits (omega arith) in
      let t = T v.0 (divisor_root F W rest part C.splits.polynomial.0 C.divides v.0 v.1) in
      absurd (C.above v.0 v.1 t.0 (omega (arith, t.1)) (sym t.2)))
      (cases_lt (length rest) 2)
