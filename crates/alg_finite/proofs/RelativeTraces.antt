-- Traces and norms of a finite field A over a smaller one B, and over B's own smaller fields.
use Rattle.std.proofs.Common.{◌≡◌, ◌≢◌, ℕ, ◌*◌, ◌^◌, ◌<◌, ap, sym, ◌∙◌, subst}
use Rattle.std.proofs.Math.Nat.{mul_assoc}
use Rattle.alg_model.specs.Coefficients.{Ops, power}
use Rattle.alg_rings.proofs.Rings
use Rattle.alg_rings.proofs.Homomorphisms.{Homomorphism, power-map}
use Rattle.alg_rings.proofs.Folds.{fold, IsCommutative, Keeps, sums, products, sums_kept, products_kept, fold_same, fold-map}
use Rattle.alg_finite.proofs.Enumerations.{Distinct}
use Rattle.alg_finite.proofs.FiniteField.{FiniteField, frobenius, frobenius_of_power, frobenius_multiple, frobenius_homomorphism, pow_mul, above_one}
use Rattle.alg_finite.proofs.Extensions.{fixed_is_image}
use Rattle.alg_finite.proofs.Traces

-- each power of a -> a^q keeps the operations, for q = p^m
pub powers_keep : {A : Type 0} {o : Ops A} {p n : ℕ} → FiniteField o p n → (m i : ℕ)
    → Homomorphism o o (frobenius o (p ^ m) i)
powers_keep {A} {o} {p} F m i =
    subst (λ j. Homomorphism o o (λ a. power o a j)) (sym (pow_mul p m i))
    (frobenius_homomorphism F.field F.prime F.characteristic (m * i))

module _ {A B : Type 0} {k : Ops B} {o : Ops A} {h : B → A} (H : Homomorphism k o h) {p m n : ℕ}
    (K : FiniteField k p m) (F : FiniteField o p n)
    (e : ℕ) (size : n ≡ m * e) where
  all_back : (a : A) → frobenius o (p ^ m) e a ≡ a
  all_back a = frobenius_of_power F.field.ring p m e a ∙ ap (λ j. frobenius o p j a) (sym size)
      ∙ F.fixed a

  image_back : (b : B) (i : ℕ) → frobenius o (p ^ m) i (h b) ≡ h b
  image_back b i = sym (power-map H b ((p ^ m) ^ i))
      ∙ ap h (frobenius_of_power K.field.ring p m i b
      ∙ frobenius_multiple K.field.ring p m b (K.fixed b) i)

  -- **traces and norms lie in B**
  pub trace_is_image : (a : A) → (b : B) × (h b ≡ Traces.trace_of o (p ^ m) e a)
  trace_is_image a = fixed_is_image H K F.field (above_one K) (Traces.trace_of o (p ^ m) e a)
      (Traces.conjugates_fixed F.field.ring (p ^ m) (sums F.field.ring) e a (all_back a)
      (sums_kept (frobenius_homomorphism F.field F.prime F.characteristic m)))

  -- norms lie in B
  pub norm_is_image : (a : A) → (b : B) × (h b ≡ Traces.norm_of o (p ^ m) e a)
  norm_is_image a = fixed_is_image H K F.field (above_one K) (Traces.norm_of o (p ^ m) e a)
      (Traces.conjugates_fixed F.field.ring (p ^ m) (products F.field.ring) e a (all_back a)
      (products_kept (frobenius_homomorphism F.field F.prime F.characteristic m)))

  -- **the trace is linear over B**
  pub trace_sum : (a b : A)
      → Traces.trace_of o (p ^ m) e (o.add a b)
      ≡ o.add (Traces.trace_of o (p ^ m) e a) (Traces.trace_of o (p ^ m) e b)
  trace_sum a b = Traces.conjugates_of_both F.field.ring (p ^ m) (sums F.field.ring)
      (λ i. sums_kept (powers_keep F m i)) e a b

  -- a member of B comes out of a trace
  pub trace_multiple : (c : B) (a : A)
      → Traces.trace_of o (p ^ m) e (o.mul (h c) a) ≡ o.mul (h c) (Traces.trace_of o (p ^ m) e a)
  trace_multiple c a = Traces.trace_of_multiple F.field (p ^ m) (powers_keep F m) e (h c) a
      (image_back c)

  -- **the norm is multiplicative**
  pub norm_product : (a b : A)
      → Traces.norm_of o (p ^ m) e (o.mul a b)
      ≡ o.mul (Traces.norm_of o (p ^ m) e a) (Traces.norm_of o (p ^ m) e b)
  norm_product a b = Traces.conjugates_of_both F.field.ring (p ^ m) (products F.field.ring)
      (λ i. products_kept (powers_keep F m i)) e a b

  -- **powers of x below e part any two values by trace**, where x, x^q, .. are e different values
  pub trace_parts : (x : A) → Distinct (λ i. frobenius o (p ^ m) i x) e → 0 < e → (a b : A) → a ≢ b
      → (j : ℕ) × (j < e) × (Traces.trace_of o (p ^ m) e (o.mul (power o x j) a)
      ≢ Traces.trace_of o (p ^ m) e (o.mul (power o x j) b))
  trace_parts x d l a b n =
      let r : (j : ℕ) × (j < e)
      × (Traces.trace_of o (p ^ m) e (o.mul (power o x j) (o.add a (o.neg b))) ≢ o.zero) =
      Traces.trace_parts_zero F.field (p ^ m) (powers_keep F m) e x (o.add a (o.neg b)) d l
      (λ z. n (Rings.same_from_difference F.field.ring a b z)) in (
        r.0,
        r.1,
        λ s. r.2 (difference r.0
            ∙ ap (λ t. o.add t (Traces.trace_of o (p ^ m) e (o.mul (power o x r.0) (o.neg b)))) s
            ∙ cancelled r.0),
      )
    where
      difference : (j : ℕ) → Traces.trace_of o (p ^ m) e (o.mul (power o x j) (o.add a (o.neg b)))
          ≡ o.add (Traces.trace_of o (p ^ m) e (o.mul (power o x j) a))
          (Traces.trace_of o (p ^ m) e (o.mul (power o x j) (o.neg b)))
      difference j = ap (Traces.trace_of o (p ^ m) e)
          (F.field.ring.mul_add (power o x j) a (o.neg b))
          ∙ trace_sum (o.mul (power o x j) a) (o.mul (power o x j) (o.neg b))

      zero_trace : Traces.trace_of o (p ^ m) e o.zero ≡ o.zero
      zero_trace = Rings.add_cancel F.field.ring (Traces.trace_of o (p ^ m) e o.zero)
          (Traces.trace_of o (p ^ m) e o.zero) o.zero
          (sym (trace_sum o.zero o.zero)
          ∙ ap (Traces.trace_of o (p ^ m) e) (F.field.ring.zero_add o.zero)
          ∙ sym (Rings.add_zero F.field.ring _))

      cancelled : (j : ℕ) → o.add (Traces.trace_of o (p ^ m) e (o.mul (power o x j) b))
          (Traces.trace_of o (p ^ m) e (o.mul (power o x j) (o.neg b))) ≡ o.zero
      cancelled j =
          sym (trace_sum (o.mul (power o x j) b) (o.mul (power o x j) (o.neg b)))
          ∙ ap (Traces.trace_of o (p ^ m) e)
          (sym (F.field.ring.mul_add (power o x j) b (o.neg b))
          ∙ ap (o.mul (power o x j)) (F.field.ring.add_neg b)
          ∙ Rings.mul_zero F.field.ring (power o x j))
          ∙ zero_trace

  -- **the trace isn't identically zero**
  pub trace_not_zero : (x : A) → Distinct (λ i. frobenius o (p ^ m) i x) e → 0 < e
      → (a : A) × (Traces.trace_of o (p ^ m) e a ≢ o.zero)
  trace_not_zero x d l =
      let r : (j : ℕ) × (j < e)
      × (Traces.trace_of o (p ^ m) e (o.mul (power o x j) o.one) ≢ o.zero) =
      Traces.trace_parts_zero F.field (p ^ m)
      (powers_keep F m) e x o.one d l F.field.one_not_zero in
      (o.mul (power o x r.0) o.one, r.2)

-- **over B and then over a field with r members below B, where B has r^d: the trace and the norm
-- at once**
module _ {A B : Type 0} {k : Ops B} {o : Ops A} {h : B → A} (H : Homomorphism k o h) {p n : ℕ}
    (F : FiniteField o p n) (m d e : ℕ) (a : A) (b : B) where
  frobenius_block : (i : ℕ) → frobenius o (p ^ (m * d)) i a ≡ frobenius o (p ^ m) (d * i) a
  frobenius_block i = frobenius_of_power F.field.ring p (m * d) i a
      ∙ sym (frobenius_of_power F.field.ring p m (d * i) a
      ∙ ap (λ j. frobenius o p j a) (sym (mul_assoc m d i)))

  -- the same for sums and products
  conjugates_of_conjugates : {v : B} {w : B → B → B} {u : A} {c : A → A → A} → Keeps h v w u c
      → IsCommutative u c → ((i : ℕ) → Keeps (frobenius o (p ^ m) i) u c u c)
      → h b ≡ fold u c e (λ i. frobenius o (p ^ (m * d)) i a)
      → h (fold v w d (λ j. frobenius k (p ^ m) j b))
      ≡ fold u c (d * e) (λ i. frobenius o (p ^ m) i a)
  conjugates_of_conjugates {v} {w} {u} {c} K C T s =
      fold-map K d (λ j. frobenius k (p ^ m) j b)
      ∙ fold_same u c d _ _
      (λ j l. power-map H b ((p ^ m) ^ j)
      ∙ ap (frobenius o (p ^ m) j) (s ∙ fold_same u c e _ _ (λ i l. frobenius_block i)))
      ∙ Traces.conjugates_transitive F.field.ring (p ^ m) C T d e a

  -- the trace of the trace
  pub trace_of_trace : h b ≡ Traces.trace_of o (p ^ (m * d)) e a
      → h (Traces.trace_of k (p ^ m) d b) ≡ Traces.trace_of o (p ^ m) (d * e) a
  trace_of_trace = conjugates_of_conjugates (sums_kept H) (sums F.field.ring)
      (λ i. sums_kept (powers_keep F m i))

  -- the norm of the norm
  pub norm_of_norm : h b ≡ Traces.norm_of o (p ^ (m * d)) e a
      → h (Traces.norm_of k (p ^ m) d b) ≡ Traces.norm_of o (p ^ m) (d * e) a
  norm_of_norm = conjugates_of_conjugates (products_kept H) (products F.field.ring)
      (λ i. products_kept (powers_keep F m i))
