-- Trace and norm over a subfield, through its embedding, and through towers of fields.
use Rattle.std.proofs.Common.{◌≡◌, ℕ, ◌*◌, ◌/◌, ◌^◌, ◌<◌, List, ap, sym, ◌∙◌, arith, subst, refl}
use Rattle.std.proofs.Math.Nat.{div-add-mod, mul_assoc, mul-div_cancel_left}
use Rattle.std.proofs.lemmas.Nat.Gcd.{mod-eq-zero_of_dvd}
use Prim.Native.Nat.{◌∣◌}
use Rattle.alg_model.specs.Coefficients.{Ops, IsPrime}
use Rattle.alg_model.specs.Conjugates.{trace, norm, trace_over, norm_over}
use Rattle.alg_model.specs.Maps.{Field, IsFiniteField, field_values, degree_of, apply, IsEmbedding}
use Rattle.alg_rings.proofs.Elements.{Element, underlying_injective}
use Rattle.alg_rings.proofs.Homomorphisms.{Homomorphism}
use Rattle.alg_finite.proofs.FiniteField.{pow_one}
use Rattle.alg_finite.proofs.Traces.{trace_of, norm_of}
use Rattle.alg_finite.proofs.RelativeTraces
use Rattle.alg_galois.proofs.Fields.{IsModulus, field_of, propositional, ops, finite}
use Rattle.alg_galois.proofs.FieldEmbeddings.{function_of, function_homomorphism}
use Rattle.alg_galois.proofs.FieldTraces.{TraceFacts, trace_facts, sum_value, product_value, trace_by, norm_by}
use Rattle.alg_galois.proofs.Embeddings.{of_two_fields, of_three_fields}
use Rattle.alg_galois.proofs.EmbeddingRoots.{embedding_degree_divides}

-- where b is the trace, or the norm, of a over E: T b and M b, over a field below E, are T' a and
-- M' a
pub record TowerFacts (E F : Field) (m : List (List ℕ)) (T M T' M' : List ℕ → List ℕ) : Type 0 where
  pub traces : (a b : List ℕ) → (field_values F).Valid a → (field_values E).Valid b
      → apply F m b ≡ trace_over E F a → apply F m (T b) ≡ T' a
  pub norms : (a b : List ℕ) → (field_values F).Valid a → (field_values E).Valid b
      → apply F m b ≡ norm_over E F a → apply F m (M b) ≡ M' a

-- a multiple by its quotient
pub quotient_times : (d n : ℕ) → d ∣ n → n ≡ d * (n / d)
quotient_times d n k = omega (arith, div-add-mod n d, mod-eq-zero_of_dvd d k)

module _ (p : ℕ) (h : IsPrime p) (f : List ℕ) (M : IsModulus p f) (g : List ℕ)
    (N : IsModulus p g) (m : List (List ℕ))
    (D : IsEmbedding (field_of p f) (field_of p g) m) where
  abbrev E : Field
  E = field_of p f

  abbrev F : Field
  F = field_of p g

  abbrev FO : Ops (Element (field_values (field_of p g)))
  FO = ops p h g N

  abbrev e : ℕ
  e = degree_of (field_of p g) / degree_of (field_of p f)

  abbrev H : Homomorphism (ops p h f M) (ops p h g N) (function_of p h f M g N m D)
  H = function_homomorphism p h f M g N m D

  size : degree_of (field_of p g) ≡ degree_of (field_of p f) * e
  size = quotient_times (degree_of E) (degree_of F)
      (embedding_degree_divides E F
      (record { characteristic = h; monic = M.monic; irreducible = M.irreducible })
      (record { characteristic = h; monic = N.monic; irreducible = N.irreducible }) m D)

  -- **over a subfield, by its embedding**
  pub traces_over : TraceFacts (field_of p g)
      (λ (b : Element (field_values (field_of p f))). apply (field_of p g) m b.0)
      (degree_of (field_of p g) / degree_of (field_of p f))
      (trace_over (field_of p f) (field_of p g))
      (norm_over (field_of p f) (field_of p g))
  traces_over = trace_facts p h g N H (finite p h f M) e size

  -- over E and then further, to a field of degree r below E, and at once
  towers : (r d : ℕ) → degree_of (field_of p f) ≡ r * d
      → TowerFacts (field_of p f) (field_of p g) m (trace_by (field_of p f) (p ^ r) d)
      (norm_by (field_of p f) (p ^ r) d) (trace_by (field_of p g) (p ^ r) (d * e))
      (norm_by (field_of p g) (p ^ r) (d * e))
  towers r d s = record {
    traces = λ a b va vb t.
        ap (apply F m) (sym (sum_value p h f M (p ^ r) d (b, vb)))
        ∙ ap (λ y. y.0) (RelativeTraces.trace_of_trace H (finite p h g N) r d e (a, va) (b, vb)
        (underlying_injective (propositional p h g N) _ _
        (t ∙ sym (sum_value p h g N (p ^ degree_of E) e (a, va))
        ∙ ap (λ i. (trace_of FO (p ^ i) e (a, va)).0) s)))
        ∙ sum_value p h g N (p ^ r) (d * e) (a, va);
    norms = λ a b va vb t.
        ap (apply F m) (sym (product_value p h f M (p ^ r) d (b, vb)))
        ∙ ap (λ y. y.0) (RelativeTraces.norm_of_norm H (finite p h g N) r d e (a, va) (b, vb)
        (underlying_injective (propositional p h g N) _ _
        (t ∙ sym (product_value p h g N (p ^ degree_of E) e (a, va))
        ∙ ap (λ i. (norm_of FO (p ^ i) e (a, va)).0) s)))
        ∙ product_value p h g N (p ^ r) (d * e) (a, va);
  }

  -- the same to a field of degree r below E, where F has the degree j over it
  towers_at : (q r d j : ℕ) → p ^ r ≡ q → degree_of (field_of p f) ≡ r * d → d * e ≡ j
      → TowerFacts (field_of p f) (field_of p g) m (trace_by (field_of p f) q d)
      (norm_by (field_of p f) q d) (trace_by (field_of p g) q j) (norm_by (field_of p g) q j)
  towers_at q r d j s t u =
      subst (λ i. TowerFacts E F m (trace_by E q d) (norm_by E q d) (trace_by F q i)
      (norm_by F q i)) u
      (subst (λ q. TowerFacts E F m (trace_by E q d) (norm_by E q d) (trace_by F q (d * e))
      (norm_by F q (d * e))) s (towers r d t))

  -- the quotients of degrees in a tower
  tower_quotient : (r : ℕ) → 0 < r → r ∣ degree_of (field_of p f)
      → (degree_of (field_of p f) / r) * e ≡ degree_of (field_of p g) / r
  tower_quotient r l k =
      sym (mul-div_cancel_left ((degree_of (field_of p f) / r) * e) l)
      ∙ ap (λ n. n / r) (sym (mul_assoc r (degree_of (field_of p f) / r) e)
      ∙ ap (λ n. n * e) (sym (quotient_times r (degree_of (field_of p f)) k)) ∙ sym size)

-- **traces and norms over a subfield keep the facts**
pub subfield_traces : (E F : Field) → IsFiniteField E → IsFiniteField F → (m : List (List ℕ))
    → IsEmbedding E F m
    → TraceFacts F (λ (b : Element (field_values E)). apply F m b.0) (degree_of F / degree_of E)
    (trace_over E F) (norm_over E F)
subfield_traces E F V W m D = of_two_fields
    (λ E F. IsEmbedding E F m
    → TraceFacts F (λ (b : Element (field_values E)). apply F m b.0) (degree_of F / degree_of E)
    (trace_over E F) (norm_over E F))
    (λ p h f M g N D. traces_over p h f M g N m D) E F V W D.same_characteristic D

-- **the trace of the trace over a subfield is the trace, and so for norms**
pub towers_over_prime : (E F : Field) → IsFiniteField E → IsFiniteField F → (m : List (List ℕ))
    → IsEmbedding E F m → TowerFacts E F m (trace E) (norm E) (trace F) (norm F)
towers_over_prime E F V W m D = of_two_fields
    (λ E F. IsEmbedding E F m → TowerFacts E F m (trace E) (norm E) (trace F) (norm F))
    (λ p h f M g N D. towers_at p h f M g N m D p 1 (degree_of (field_of p f))
    (degree_of (field_of p g)) (pow_one p) (omega arith) (sym (size p h f M g N m D)))
    E F V W D.same_characteristic D

-- **in a tower of fields A, E, F the trace over A is that of the trace over E, and so for norms**
pub towers_over_field : (A E F : Field) → IsFiniteField A → IsFiniteField E → IsFiniteField F
    → (l m : List (List ℕ)) → IsEmbedding A E l → IsEmbedding E F m
    → TowerFacts E F m (trace_over A E) (norm_over A E) (trace_over A F) (norm_over A F)
towers_over_field A E F U V W l m B D = of_three_fields
    (λ A E F. IsEmbedding A E l → IsEmbedding E F m
    → TowerFacts E F m (trace_over A E) (norm_over A E) (trace_over A F) (norm_over A F))
    (λ p h k O f M g N B D.
    let d : degree_of (field_of p k) ∣ degree_of (field_of p f) =
    embedding_degree_divides (field_of p k) (field_of p f)
    (record { characteristic = h; monic = O.monic; irreducible = O.irreducible })
    (record { characteristic = h; monic = M.monic; irreducible = M.irreducible }) l B in
    towers_at p h f M g N m D (p ^ degree_of (field_of p k)) (degree_of (field_of p k))
    (degree_of (field_of p f) / degree_of (field_of p k))
    (degree_of (field_of p g) / degree_of (field_of p k)) refl
    (quotient_times (degree_of (field_of p k)) (degree_of (field_of p f)) d)
    (tower_quotient p h f M g N m D (degree_of (field_of p k)) (finite p h k O).positive d))
    A E F U V W B.same_characteristic D.same_characteristic B D
