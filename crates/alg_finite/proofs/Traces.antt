-- Traces and norms of a finite field A over a field with q = p^m members: the sum and the product
-- of a, a^q, a^(q^2), .., e of them,
-- where q^e is the number of members of A.
--     trace_of o q e a, norm_of o q e a     the sum and the product
use Rattle.std.proofs.Common.{◌≡◌, ◌≢◌, ◌⊎◌, ⊎_elim, ℕ, zero, suc, ◌+◌, ◌-◌, ◌*◌, ◌<◌, ◌≤◌, List, [], ◌∷◌, length, map, slice_index_or, refl, ap, ap₂, sym, ◌∙◌, arith, add-zero}
use Rattle.std.specs.List.{range_with_len}
use Rattle.alg_model.specs.Coefficients.{Ops, power}
use Rattle.alg_model.specs.Polynomials.{evaluate}
use Rattle.alg_rings.specs.Laws.{RingLaws, FieldLaws}
use Rattle.alg_rings.proofs.Rings
use Rattle.alg_rings.proofs.Rings.{sorted, expanded}
use Rattle.alg_rings.proofs.Homomorphisms.{Homomorphism, power-map}
use Rattle.alg_rings.proofs.Division.{zero_from_product}
use Rattle.alg_rings.proofs.Evaluation
use Rattle.alg_rings.proofs.Decisions.{Least, search_below, fails_or_not}
use Rattle.alg_rings.proofs.Folds.{fold, IsCommutative, Keeps, fold_same, fold-map, fold_both, fold_swap, fold_last, fold_blocks}
use Rattle.alg_fields.proofs.Roots.{linear, linear_product, value_of_linear}
use Rattle.alg_linear.specs.PrivateGrids.{total}
use Rattle.alg_linear.proofs.Sums.{total_zero, total_add, total_scale, total_single}
use Rattle.alg_finite.proofs.Enumerations.{Distinct}
use Rattle.alg_finite.proofs.FiniteField.{frobenius, frobenius_none, frobenius_next, frobenius_last, frobenius_add}
use Rattle.alg_finite.proofs.Orbits.{orbit, length_orbit, orbit_at, length_linear_product}
use Rattle.alg_finite.proofs.MinimalPolynomials.{root_of_linear_product}

-- a + a^q + .., e members
abbrev pub trace_of : {A : Type 0} → Ops A → ℕ → ℕ → A → A
trace_of o q e a = fold o.zero o.add e (λ i. frobenius o q i a)

-- a * a^q * .., e factors
abbrev pub norm_of : {A : Type 0} → Ops A → ℕ → ℕ → A → A
norm_of o q e a = fold o.one o.mul e (λ i. frobenius o q i a)

-- ---- as the model has them: t is the sum of a list, or the product
pub list_fold : {A : Type 0} (u : A) (m : A → A → A) (t : List A → A) → t [] ≡ u
    → ((x : A) (xs : List A) → t (x ∷ xs) ≡ m x (t xs)) → (f : ℕ → A) (a n : ℕ)
    → t (map f (range_with_len a n)) ≡ fold u m n (λ i. f (a + i))
list_fold u m t none more f a zero = none
list_fold u m t none more f a (suc n) =
    more (f a) (map f (range_with_len (a + 1) n))
    ∙ ap₂ m (ap f (sym (add-zero a)))
    (list_fold u m t none more f (a + 1) n
    ∙ fold_same u m n (λ i. f (a + 1 + i)) (λ i. f (a + suc i)) (λ i l. ap f (omega arith)))

-- ---- sums and products of conjugates alike
module _ {A : Type 0} {o : Ops A} (R : RingLaws o) (q : ℕ) {u : A} {m : A → A → A}
    (C : IsCommutative u m) where
  -- **that of both is both's**
  pub conjugates_of_both : ((i : ℕ) → Keeps (frobenius o q i) u m u m) → (e : ℕ) (a b : A)
      → fold u m e (λ i. frobenius o q i (m a b))
      ≡ m (fold u m e (λ i. frobenius o q i a)) (fold u m e (λ i. frobenius o q i b))
  conjugates_of_both T e a b = fold_same u m e _ _ (λ i l. (T i).both a b)
      ∙ fold_both C e (λ i. frobenius o q i a) (λ i. frobenius o q i b)

  module _ (e : ℕ) (a : A) (back : frobenius o q e a ≡ a) where
    turned : (n : ℕ) → frobenius o q n a ≡ a
        → fold u m n (λ i. frobenius o q (suc i) a) ≡ fold u m n (λ i. frobenius o q i a)
    turned zero r = refl
    turned (suc n) r =
        fold_last C n (λ i. frobenius o q (suc i) a)
        ∙ C.comm (fold u m n (λ i. frobenius o q (suc i) a)) (frobenius o q (suc n) a)
        ∙ ap (λ t. m t (fold u m n (λ i. frobenius o q (suc i) a)))
        (r ∙ sym (frobenius_none R q a))

    -- **they are fixed by a -> a^q**
    pub conjugates_fixed : Keeps (λ b. power o b q) u m u m
        → power o (fold u m e (λ i. frobenius o q i a)) q ≡ fold u m e (λ i. frobenius o q i a)
    conjugates_fixed S = fold-map S e (λ i. frobenius o q i a)
        ∙ fold_same u m e _ _ (λ i l. sym (frobenius_last R q i a)) ∙ turned e back

    -- **and are those of a^q**
    pub conjugates_of_power : fold u m e (λ i. frobenius o q i (power o a q))
        ≡ fold u m e (λ i. frobenius o q i a)
    conjugates_of_power =
        fold_same u m e _ _ (λ i l. sym (frobenius_next R q i a)) ∙ turned e back

  -- **over a larger field, and then further, they are those at once**
  pub conjugates_transitive : ((i : ℕ) → Keeps (frobenius o q i) u m u m) → (d e : ℕ) (a : A)
      → fold u m d (λ j. frobenius o q j (fold u m e (λ i. frobenius o q (d * i) a)))
      ≡ fold u m (d * e) (λ i. frobenius o q i a)
  conjugates_transitive T d e a =
      fold_same u m d _ _ (λ j l. fold-map (T j) e (λ i. frobenius o q (d * i) a))
      ∙ fold_swap C d e (λ j i. frobenius o q j (frobenius o q (d * i) a))
      ∙ fold_same u m e _ _ (λ i l. fold_same u m d _ _
      (λ j k. sym (frobenius_add R q j (d * i) a) ∙ ap (λ k. frobenius o q k a) (omega arith)))
      ∙ sym (fold_blocks C d e (λ k. frobenius o q k a))

-- ---- over any q for which a -> a^(q^i) keep the operations
module _ {A : Type 0} {o : Ops A} (L : FieldLaws o) (q : ℕ)
    (T : (i : ℕ) → Homomorphism o o (frobenius o q i)) where
  open o use {zero as O, one as I, add as ◌⊕◌, mul as ◌⊗◌, neg}

  infixl 60 ◌⊕◌
  infixl 70 ◌⊗◌
  -- what each power of a -> a^q fixes comes out of a trace
  pub trace_of_multiple : (e : ℕ) (c a : A) → ((i : ℕ) → frobenius o q i c ≡ c)
      → trace_of o q e (c ⊗ a) ≡ c ⊗ trace_of o q e a
  trace_of_multiple e c a fixed =
      fold_same O ◌⊕◌ e _ _ (λ i l. (T i).mul c a ∙ ap (λ t. t ⊗ frobenius o q i a) (fixed i))
      ∙ total_scale L.ring e c (λ i. frobenius o q i a)

  -- ---- the powers of x part values by their traces, where x, x^q, .. are different
  module _ (e : ℕ) (x a : A) where
    conjugate_power : (i k : ℕ)
        → frobenius o q i (power o x k ⊗ a) ≡ power o (frobenius o q i x) k ⊗ frobenius o q i a
    conjugate_power i k = (T i).mul (power o x k) a
        ∙ ap (λ t. t ⊗ frobenius o q i a) (power-map (T i) x k)

    -- where all these traces are zero, so is the sum of g(x^(q^i)) a^(q^i), for each g of at most
    -- e coefficients
    all_zero : ((k : ℕ) → k < e → trace_of o q e (power o x k ⊗ a) ≡ O) → (g : List A) (j : ℕ)
        → j + length g ≤ e
        → total o e (λ i. power o (frobenius o q i x) j ⊗
        (evaluate o g (frobenius o q i x) ⊗ frobenius o q i a)) ≡ O
    all_zero z [] j l = total_zero L.ring e _
        (λ i _. ap (λ t. power o (frobenius o q i x) j ⊗ t) (Rings.zero_mul L.ring _)
        ∙ Rings.mul_zero L.ring _)
    all_zero z (c ∷ g) j l =
        fold_same O ◌⊕◌ e _ _ (λ i w. split (power o (frobenius o q i x) j) c (frobenius o q i x)
        (evaluate o g (frobenius o q i x)) (frobenius o q i a))
        ∙ total_add L.ring e (λ i. c ⊗ (power o (frobenius o q i x) j ⊗ frobenius o q i a))
        (λ i. power o (frobenius o q i x) (suc j) ⊗
        (evaluate o g (frobenius o q i x) ⊗ frobenius o q i a))
        ∙ ap₂ ◌⊕◌
        (total_scale L.ring e c (λ i. power o (frobenius o q i x) j ⊗ frobenius o q i a)
        ∙ ap (λ t. c ⊗ t)
        (fold_same O ◌⊕◌ e _ _ (λ i w. sym (conjugate_power i j)) ∙ z j (omega arith))
        ∙ Rings.mul_zero L.ring c)
        (all_zero z g (suc j) (omega arith)) ∙ L.ring.zero_add O
      where
        split : (b c y v a : A) → b ⊗ ((c ⊕ y ⊗ v) ⊗ a) ≡ c ⊗ (b ⊗ a) ⊕ b ⊗ y ⊗ (v ⊗ a)
        split b c y v a = simp (expanded, L.ring)

    -- **so one of them isn't zero, where a isn't**
    traces_not_all_zero : Distinct (λ i. frobenius o q i x) e → 0 < e → a ≢ O
        → ((k : ℕ) → k < e → trace_of o q e (power o x k ⊗ a) ≡ O) → ⊥
    traces_not_all_zero d l n z =
        n (sym (frobenius_none L.ring q a)
        ∙ zero_from_product L (evaluate o g x₀) (frobenius o q 0 a) at_first not_root)
      where
        x₀ : A
        x₀ = frobenius o q 0 x

        roots : List A
        roots = orbit o q (e - 1) (power o x q)

        root_is : (i : ℕ) (b : A) → i < e - 1 → slice_index_or roots i b ≡ frobenius o q (suc i) x
        root_is i b r = orbit_at L.ring q (e - 1) (power o x q) i b r
            ∙ sym (frobenius_next L.ring q i x)

        g : List A
        g = linear_product o roots

        long : length g ≡ e
        long = omega (
          arith,
          length_linear_product L.ring roots,
          length_orbit L.ring q (e - 1) (power o x q),
        )

        not_root : evaluate o g x₀ ≢ O
        not_root s =
            let r : (i : ℕ) × (i < length roots) × (slice_index_or roots i O ≡ x₀) =
            root_of_linear_product L roots x₀ O s in
            let m : r.0 < e - 1 = omega (arith, r.1, length_orbit L.ring q (e - 1) (power o x q)) in
            d 0 (suc r.0) (omega arith) (omega arith) (sym r.2 ∙ root_is r.0 O m)

        vanishes : (i : ℕ) → i < e → i ≢ 0 → evaluate o g (frobenius o q i x) ≡ O
        vanishes zero m k = absurd (k refl)
        vanishes (suc i) m k =
            value_at_member roots i (omega (arith, length_orbit L.ring q (e - 1) (power o x q)))
            (frobenius o q (suc i) x) (root_is i O (omega arith))
          where
            value_at_member : (rs : List A) (i : ℕ) → i < length rs → (y : A)
                → slice_index_or rs i O ≡ y → evaluate o (linear_product o rs) y ≡ O
            value_at_member [] i r y s = absurd (omega arith)
            value_at_member (b ∷ rs) zero r y s =
                Evaluation.value_of_product L.ring (linear o b) (linear_product o rs) y
                ∙ ap (λ t. t ⊗ evaluate o (linear_product o rs) y)
                (value_of_linear L.ring b y ∙ ap (λ t. t ⊕ neg b) (sym s) ∙ L.ring.add_neg b)
                ∙ Rings.zero_mul L.ring _
            value_at_member (b ∷ rs) (suc i) r y s =
                Evaluation.value_of_product L.ring (linear o b) (linear_product o rs) y
                ∙ ap (λ t. evaluate o (linear o b) y ⊗ t) (value_at_member rs i (omega arith) y s)
                ∙ Rings.mul_zero L.ring _

        at_first : evaluate o g x₀ ⊗ frobenius o q 0 a ≡ O
        at_first =
            sym (L.ring.one_mul (evaluate o g x₀ ⊗ frobenius o q 0 a))
            ∙ sym (total_single L.ring e
            (λ i. power o (frobenius o q i x) 0 ⊗
            (evaluate o g (frobenius o q i x) ⊗ frobenius o q i a)) 0 l
            (λ i m k. ap (λ t. power o (frobenius o q i x) 0 ⊗ (t ⊗ frobenius o q i a))
            (vanishes i m k)
            ∙ ap (λ t. power o (frobenius o q i x) 0 ⊗ t)
            (Rings.zero_mul L.ring (frobenius o q i a)) ∙ Rings.mul_zero L.ring _))
            ∙ all_zero z g 0 (omega (arith, long))

    -- a member that isn't zero has some trace of x^k a that isn't
    pub trace_parts_zero : Distinct (λ i. frobenius o q i x) e → 0 < e → a ≢ O
        → (k : ℕ) × (k < e) × (trace_of o q e (power o x k ⊗ a) ≢ O)
    trace_parts_zero d l n = ⊎_elim
        (λ (f : Least (λ k. trace_of o q e (power o x k ⊗ a) ≢ O) e). (f.number, f.below, f.holds))
        (λ none. absurd (traces_not_all_zero d l n
        (λ k r. ⊎_elim (λ s. s) (λ s. absurd (none k r s)) (zero_or_not k))))
        (search_below (λ k. trace_of o q e (power o x k ⊗ a) ≢ O) e
        (λ k l. fails_or_not (zero_or_not k)))
      where
        zero_or_not : (k : ℕ) → (trace_of o q e (power o x k ⊗ a) ≡ O)
            ⊎ (trace_of o q e (power o x k ⊗ a) ≢ O)
        zero_or_not k = Rings.zero_or_not o L.ring.zero_test (trace_of o q e (power o x k ⊗ a))
