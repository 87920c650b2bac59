-- Trace and norm of the fields of the model, over the prime field and over a subfield.
use Rattle.std.proofs.Common.{◌≡◌, ◌≢◌, ℕ, zero, suc, ◌*◌, ◌^◌, ◌<◌, List, ap, ap₂, sym, ◌∙◌, subst, arith, zero-mul, [], ◌∷◌, refl}
use Rattle.std.proofs.Math.Nat.{mul-lt-mul_of_pos_left, mul-zero}
use Rattle.alg_model.specs.Coefficients.{Ops, power, residues, IsPrime}
use Rattle.alg_model.specs.Conjugates.{conjugates, sum_all, product_all, trace, norm}
use Rattle.alg_model.specs.Maps.{Field, IsFiniteField, field_values, degree_of, generator, constant}
use Rattle.alg_rings.proofs.Elements.{Element, underlying_injective, underlying_homomorphism, underlying}
use Rattle.alg_rings.proofs.Homomorphisms.{Homomorphism}
use Rattle.alg_rings.proofs.Folds.{fold, Keeps, sums_kept, products_kept, fold_same, fold-map}
use Rattle.alg_finite.proofs.Enumerations.{Distinct}
use Rattle.alg_finite.proofs.FiniteField.{frobenius, frobenius_of_power, pow_one, FiniteField}
use Rattle.alg_finite.proofs.FiniteValues.{residues_finite}
use Rattle.alg_finite.proofs.Orbits.{Period, orbit_distinct}
use Rattle.alg_finite.proofs.Traces.{trace_of, norm_of, list_fold}
use Rattle.alg_finite.proofs.RelativeTraces
use Rattle.alg_galois.proofs.Fields.{IsModulus, modulus_of, field_of, propositional, field_is, ops, laws, of_residue_homomorphism, power_value, finite}
use Rattle.alg_galois.proofs.FieldEmbeddings.{generator_element}
use Rattle.alg_galois.proofs.FieldFrobenius.{generator_period}

module _ (p : ℕ) (h : IsPrime p) (g : List ℕ) (N : IsModulus p g) where
  abbrev FO : Ops (Element (field_values (field_of p g)))
  FO = ops p h g N

  abbrev n : ℕ
  n = degree_of (field_of p g)

  -- sums and products of conjugates, as elements and as lists: t is the sum of a list, or the
  -- product
  conjugates_value : {v : Element (field_values (field_of p g))}
      {w : Element (field_values (field_of p g)) → Element (field_values (field_of p g))
      → Element (field_values (field_of p g))} {u : List ℕ} {m : List ℕ → List ℕ → List ℕ}
      → Keeps (underlying (field_values (field_of p g))) v w u m
      → (t : List (List ℕ) → List ℕ) → t [] ≡ u
      → ((x : List ℕ) (xs : List (List ℕ)) → t (x ∷ xs) ≡ m x (t xs)) → (q e : ℕ)
      (a : Element (field_values (field_of p g)))
      → (fold v w e (λ i. frobenius (ops p h g N) q i a)).0
      ≡ t (conjugates (field_values (field_of p g)).ops q e a.0)
  conjugates_value {u = u} {m} K t none more q e a =
      fold-map K e (λ i. frobenius FO q i a)
      ∙ fold_same u m e _ _
      (λ i l. power_value p h g N a (q ^ i)
      ∙ ap (λ j. power (field_values (field_of p g)).ops a.0 (q ^ j)) (omega arith))
      ∙ sym (list_fold u m t none more
      (λ i. power (field_values (field_of p g)).ops a.0 (q ^ i)) 0 e)

  -- the sum
  pub sum_value : (q e : ℕ) (a : Element (field_values (field_of p g)))
      → (trace_of (ops p h g N) q e a).0
      ≡ sum_all (field_values (field_of p g)).ops
      (conjugates (field_values (field_of p g)).ops q e a.0)
  sum_value = conjugates_value (sums_kept (underlying_homomorphism (field_is p h g N).ring))
      (sum_all (field_values (field_of p g)).ops) refl (λ x xs. refl)

  -- the product
  pub product_value : (q e : ℕ) (a : Element (field_values (field_of p g)))
      → (norm_of (ops p h g N) q e a).0
      ≡ product_all (field_values (field_of p g)).ops
      (conjugates (field_values (field_of p g)).ops q e a.0)
  product_value = conjugates_value (products_kept (underlying_homomorphism (field_is p h g N).ring))
      (product_all (field_values (field_of p g)).ops) refl (λ x xs. refl)

  -- ---- the generator has as many different conjugates as the degree
  generator_distinct : Distinct (λ i. frobenius (ops p h g N) p i (generator_element p h g N))
      (degree_of (field_of p g))
  generator_distinct i j l k r =
      let x = generator_element p h g N in
      orbit_distinct (finite p h g N) 1 x n
      (subst (λ q. Period FO q x n) (sym (pow_one p)) (generator_period p h g N)) i j l k
      (ap (λ q. frobenius FO q i x) (pow_one p) ∙ r
      ∙ ap (λ q. frobenius FO q j x) (sym (pow_one p)))

  -- the generator has e different conjugates over a subfield of degree n / e
  pub generator_distinct_over : (m e : ℕ) → degree_of (field_of p g) ≡ m * e
      → Distinct (λ i. frobenius (ops p h g N) (p ^ m) i (generator_element p h g N)) e
  generator_distinct_over zero e s i j l k r =
      absurd (let w : 0 < n = (generator_period p h g N).positive in omega (arith, s, zero-mul e))
  generator_distinct_over (suc m) e s i j l k r =
      let x = generator_element p h g N in
      let positive : 0 < suc m = omega arith in
      let a : suc m * i < suc m * j = mul-lt-mul_of_pos_left l positive in
      let b : suc m * j < suc m * e = mul-lt-mul_of_pos_left k positive in
      generator_distinct (suc m * i) (suc m * j) a (omega (arith, b, s))
      (sym (frobenius_of_power (laws p h g N).ring p (suc m) i x) ∙ r
      ∙ frobenius_of_power (laws p h g N).ring p (suc m) j x)

-- what traces T and norms M of values of F keep, over a smaller field whose members b have the
-- images `image b`; e is the degree of F over it
pub record TraceFacts (F : Field) {B : Type 0} (image : B → List ℕ) (e : ℕ)
    (T M : List ℕ → List ℕ) : Type 0 where
  -- traces and norms lie in the smaller field
  pub trace_is_image : (a : List ℕ) → (field_values F).Valid a → (b : B) × (image b ≡ T a)
  pub norm_is_image : (a : List ℕ) → (field_values F).Valid a → (b : B) × (image b ≡ M a)
  -- the trace is linear over it, the norm multiplicative
  pub trace_sum : (a b : List ℕ) → (field_values F).Valid a → (field_values F).Valid b
      → T ((field_values F).ops.add a b) ≡ (field_values F).ops.add (T a) (T b)
  pub trace_multiple : (b : B) (a : List ℕ) → (field_values F).Valid a
      → T ((field_values F).ops.mul (image b) a) ≡ (field_values F).ops.mul (image b) (T a)
  pub norm_product : (a b : List ℕ) → (field_values F).Valid a → (field_values F).Valid b
      → M ((field_values F).ops.mul a b) ≡ (field_values F).ops.mul (M a) (M b)
  -- the powers of the generator below e part any two values by their traces
  pub trace_parts : (a b : List ℕ) → (field_values F).Valid a → (field_values F).Valid b → a ≢ b
      → (k : ℕ) × (k < e)
      × (T ((field_values F).ops.mul (power (field_values F).ops (generator F) k) a)
      ≢ T ((field_values F).ops.mul (power (field_values F).ops (generator F) k) b))
  -- the trace isn't identically zero
  pub trace_not_zero : (a : List ℕ) × (field_values F).Valid a
      × (T a ≢ (field_values F).ops.zero)

-- the sum and the product of a, a^q, a^(q^2), .., e of them
abbrev pub trace_by : Field → ℕ → ℕ → List ℕ → List ℕ
trace_by F q e a = sum_all (field_values F).ops (conjugates (field_values F).ops q e a)

abbrev pub norm_by : Field → ℕ → ℕ → List ℕ → List ℕ
norm_by F q e a = product_all (field_values F).ops (conjugates (field_values F).ops q e a)

-- ---- over any field with p^m members that a map h takes into F
module _ (p : ℕ) (h : IsPrime p) (g : List ℕ) (N : IsModulus p g) {B : Type 0} {k : Ops B}
    {i : B → Element (field_values (field_of p g))} (H : Homomorphism k (ops p h g N) i) {m : ℕ}
    (K : FiniteField k p m) (e : ℕ) (size : degree_of (field_of p g) ≡ m * e) where
  abbrev F : Field
  F = field_of p g

  abbrev O : Ops (Element (field_values (field_of p g)))
  O = ops p h g N

  abbrev L : FiniteField (ops p h g N) p (degree_of (field_of p g))
  L = finite p h g N

  abbrev x : Element (field_values (field_of p g))
  x = generator_element p h g N

  positive : 0 < e
  positive = above_zero e size
    where
      above_zero : (j : ℕ) → degree_of (field_of p g) ≡ m * j → 0 < j
      above_zero zero s = absurd (let l : 0 < degree_of (field_of p g) = L.positive in
          omega (arith, s, mul-zero m))
      above_zero (suc j) s = omega arith

  distinct : Distinct (λ j. frobenius O (p ^ m) j x) e
  distinct = generator_distinct_over p h g N m e size

  equal : (a b : Element (field_values F)) → a.0 ≡ b.0 → a ≡ b
  equal a b s = underlying_injective (propositional p h g N) a b s

  -- the trace of a power of the generator times a value, as an element and as a list
  trace_of_multiple : (j : ℕ) (a : List ℕ) (va : (field_values F).Valid a)
      → (trace_of O (p ^ m) e (O.mul (power O x j) (a, va))).0
      ≡ trace_by F (p ^ m) e
      ((field_values F).ops.mul (power (field_values F).ops (generator F) j) a)
  trace_of_multiple j a va =
      sum_value p h g N (p ^ m) e (O.mul (power O x j) (a, va))
      ∙ ap (λ y. trace_by F (p ^ m) e ((field_values F).ops.mul y a)) (power_value p h g N x j)

  parted : (a b : List ℕ) (va : (field_values F).Valid a) (vb : (field_values F).Valid b)
      → (j : ℕ) × (j < e) × (trace_of O (p ^ m) e (O.mul (power O x j) (a, va))
      ≢ trace_of O (p ^ m) e (O.mul (power O x j) (b, vb)))
      → (j : ℕ) × (j < e)
      × (trace_by F (p ^ m) e
      ((field_values F).ops.mul (power (field_values F).ops (generator F) j) a)
      ≢ trace_by F (p ^ m) e
      ((field_values F).ops.mul (power (field_values F).ops (generator F) j) b))
  parted a b va vb (j, l, n) =
      (j, l, λ s. n (equal _ _ (trace_of_multiple j a va ∙ s ∙ sym (trace_of_multiple j b vb))))

  -- **traces and norms over it keep the facts**
  pub trace_facts : TraceFacts (field_of p g) (λ b. (i b).0) e
      (trace_by (field_of p g) (p ^ m) e) (norm_by (field_of p g) (p ^ m) e)
  trace_facts = record {
    trace_is_image = λ a va. let (b, s) = RelativeTraces.trace_is_image H K L e size (a, va) in
        (b, ap (λ y. y.0) s ∙ sum_value p h g N (p ^ m) e (a, va));
    norm_is_image = λ a va. let (b, s) = RelativeTraces.norm_is_image H K L e size (a, va) in
        (b, ap (λ y. y.0) s ∙ product_value p h g N (p ^ m) e (a, va));
    trace_sum = λ a b va vb. sym (sum_value p h g N (p ^ m) e (O.add (a, va) (b, vb)))
        ∙ ap (λ y. y.0) (RelativeTraces.trace_sum H K L e size (a, va) (b, vb))
        ∙ ap₂ (field_values F).ops.add (sum_value p h g N (p ^ m) e (a, va))
        (sum_value p h g N (p ^ m) e (b, vb));
    trace_multiple = λ b a va. sym (sum_value p h g N (p ^ m) e (O.mul (i b) (a, va)))
        ∙ ap (λ y. y.0) (RelativeTraces.trace_multiple H K L e size b (a, va))
        ∙ ap ((field_values F).ops.mul (i b).0) (sum_value p h g N (p ^ m) e (a, va));
    norm_product = λ a b va vb. sym (product_value p h g N (p ^ m) e (O.mul (a, va) (b, vb)))
        ∙ ap (λ y. y.0) (RelativeTraces.norm_product H K L e size (a, va) (b, vb))
        ∙ ap₂ (field_values F).ops.mul (product_value p h g N (p ^ m) e (a, va))
        (product_value p h g N (p ^ m) e (b, vb));
    trace_parts = λ a b va vb n. parted a b va vb
        (RelativeTraces.trace_parts H K L e size x distinct positive (a, va) (b, vb)
        (λ s. n (ap (λ y. y.0) s)));
    trace_not_zero = let (a, n) = RelativeTraces.trace_not_zero H K L e size x distinct positive in
        (a.0, a.1, λ s. n (equal _ _ (sum_value p h g N (p ^ m) e a ∙ s)));
  }

-- **over the prime field, by constants**
pub prime_traces : (F : Field) (W : IsFiniteField F)
    → TraceFacts F (λ (c : Element (residues F.characteristic)). constant F c.0) (degree_of F)
    (trace F) (norm F)
prime_traces F W = subst
    (λ q. TraceFacts F (λ (c : Element (residues F.characteristic)). constant F c.0) (degree_of F)
    (trace_by F q (degree_of F)) (norm_by F q (degree_of F)))
    (pow_one F.characteristic)
    (trace_facts F.characteristic W.characteristic F.polynomial (modulus_of F W)
    (of_residue_homomorphism F.characteristic W.characteristic F.polynomial (modulus_of F W))
    (residues_finite F.characteristic W.characteristic) (degree_of F) (omega arith))
