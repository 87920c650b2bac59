-- One step of the search in a divisor of the polynomial of a field E.
use Rattle.std.proofs.Common.{◌≡◌, ◌↔◌, ℕ, ◌<◌, ◌≤◌, List, length, slice_index_or, sym, ◌∙◌, subst, arith, ⊎_elim, inl, inr, eq-or-lt_of_le}
use Rattle.alg_model.specs.Factors.{IsPolynomial, Divides, IsDivision}
use Rattle.alg_model.specs.Values.{degree}
use Rattle.alg_model.specs.Maps.{Field, IsFiniteField, field_values, degree_of}
use Rattle.alg_model.specs.Roots.{IsRoot}
use Rattle.alg_splitting.specs.PrivateSearch.{IsTraceAtRoots, IsNarrowed}
use Rattle.alg_splitting.proofs.SplitPolynomials.{root_of_degree_one}
use Rattle.alg_splitting.proofs.RootTraces.{trace_of_divisor, trace_remainder}
use Rattle.alg_splitting.proofs.NarrowedRoots.{narrowed_end}
use Rattle.ff_roots.specs.PrivateCollecting.{Collects}

module _ (F : Field) (W : IsFiniteField F) (f whole part : List (List ℕ)) (k : ℕ)
    (vw : IsPolynomial (field_values F) whole) (d : Divides (field_values F) whole f)
    (N : IsNarrowed F whole k part) (c : List ℕ) (vc : (field_values F).Valid c) where
  -- **the remainder of what gives the traces at the roots of f gives them at those of a part**
  pub traced_part : (t q r : List (List ℕ)) → IsTraceAtRoots F f c t
      → IsDivision (field_values F) t part q r → IsTraceAtRoots F part c r
  traced_part t q r s D = trace_remainder F W part c vc t q r N.splits.polynomial
      (trace_of_divisor F W whole c vc t part N.splits.polynomial N.divides
      (trace_of_divisor F W f c vc t whole vw d s)) D

module _ (F : Field) (W : IsFiniteField F) (f part : List (List ℕ)) (k : ℕ)
    (N : IsNarrowed F f k part) where
  -- **the same where the part is one of f**
  pub traced_rest : (c : List ℕ) → (field_values F).Valid c → (t q r : List (List ℕ))
      → IsTraceAtRoots F f c t → IsDivision (field_values F) t part q r → IsTraceAtRoots F part c r
  traced_rest c vc t q r s D = trace_remainder F W part c vc t q r N.splits.polynomial
      (trace_of_divisor F W f c vc t part N.splits.polynomial N.divides s) D

  -- **a part with two roots wants a further trace**
  pub not_at_end : 2 < length part → k ≤ degree_of F → k < degree_of F
  not_at_end l m = ⊎_elim
      (λ (e : k ≡ degree_of F). absurd (let two = narrowed_end F W f part
      (subst (λ n. IsNarrowed F f n part) e N) in omega (arith, two)))
      (λ h. h) (eq-or-lt_of_le m)

  -- **one of degree 1 has its root alone**
  pub linear_collected : (v : List ℕ) (old new : List (List ℕ)) → length part ≡ 2
      → v ≡ (field_values F).ops.neg (slice_index_or part 0 (field_values F).ops.zero)
      → Collects F (λ w. w ≡ v) 1 old new → Collects F (IsRoot F part) (degree part) old new
  linear_collected v old new l e C = record {
    list = C.list;
    count = omega (arith, C.count);
    members = λ w. (
      λ m. ⊎_elim (λ k. inl k) (λ q. inr ((only w).1 (q ∙ e))) ((C.members w).0 m),
      λ p. (C.members w).1 (⊎_elim (λ k. inl k) (λ r. inr ((only w).0 r ∙ sym e)) p),
    );
  }
    where
      only : (w : List ℕ) → IsRoot F part w
          ↔ (w ≡ (field_values F).ops.neg (slice_index_or part 0 (field_values F).ops.zero))
      only w = root_of_degree_one F W part N.splits.polynomial N.monic l w
