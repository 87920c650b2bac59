-- A finite field A over a finite field B with q = p^m members: the members of A that a -> a^q
-- fixes are those of B, and that
-- power permutes the roots of each polynomial over B.
use Rattle.std.proofs.Common.{◌≡◌, ⊎_elim, ℕ, zero, suc, ◌^◌, ◌<◌, ◌≤◌, List, [], ◌∷◌, map, refl, ap, ap₂, sym, ◌∙◌, arith}
use Rattle.alg_model.specs.Coefficients.{Ops, power}
use Rattle.alg_model.specs.Polynomials.{evaluate}
use Rattle.alg_rings.specs.Laws.{FieldLaws}
use Rattle.alg_rings.proofs.Homomorphisms.{Homomorphism, power-map, evaluate-map}
use Rattle.alg_rings.proofs.Decisions.{Least, search_below}
use Rattle.alg_rings.proofs.Rings.{equal_or_not}
use Rattle.alg_fields.proofs.FermatProduct.{fixing, length_fixing, leading_fixing, value_of_fixing}
use Rattle.alg_finite.proofs.Enumerations.{Distinct, members_distinct}
use Rattle.alg_finite.proofs.FieldMaps.{injective}
use Rattle.alg_finite.proofs.FiniteField.{FiniteField, frobenius, frobenius_none, frobenius_last, root_bound_at}

-- a number less than q and its members, with one more in front
in_front : {A : Type 0} → A → (ℕ → A) → ℕ → A
in_front a f zero = a
in_front a f (suc i) = f i

distinct_in_front : {A : Type 0} (a : A) (f : ℕ → A) (n : ℕ) → Distinct f n
    → ((i : ℕ) → i < n → f i ≡ a → ⊥) → Distinct (in_front a f) (suc n)
unfolding in_front
distinct_in_front a f n d none zero zero l h e = absurd (omega arith)
distinct_in_front a f n d none zero (suc j) l h e = none j (omega arith) (sym e)
distinct_in_front a f n d none (suc i) zero l h e = absurd (omega arith)
distinct_in_front a f n d none (suc i) (suc j) l h e = d i j (omega arith) (omega arith) e

-- at most q members of a field are their own power q
pub fixed_few : {A : Type 0} {o : Ops A} → FieldLaws o → (q : ℕ) → 1 < q → (at : ℕ → A) (n : ℕ)
    → Distinct at n
    → ((i : ℕ) → i < n → power o (at i) q ≡ at i) → n ≤ q
fixed_few {A} {o} F q l at n d fixed =
    omega (
      arith,
      length_fixing o q l,
      root_bound_at F (fixing o q) (λ z. F.one_not_zero (sym (leading_fixing o q l) ∙ z)) at n d
          (λ i h. value_of_fixing F.ring q (at i) ∙ ap (λ t. o.add t (o.neg (at i))) (fixed i h)
          ∙ F.ring.add_neg (at i)),
    )

module _ {A B : Type 0} {k : Ops B} {o : Ops A} {h : B → A} (H : Homomorphism k o h) {p m : ℕ}
    (K : FiniteField k p m) (F : FieldLaws o) where
  image_fixed : (b : B) → power o (h b) (p ^ m) ≡ h b
  image_fixed b = sym (power-map H b (p ^ m)) ∙ ap h (K.fixed b)

  abbrev images : ℕ → A
  images i = h (K.members.at i)

  -- **what is its own power q comes from B**
  pub fixed_is_image : 1 < p ^ m → (a : A) → power o a (p ^ m) ≡ a → (b : B) × (h b ≡ a)
  unfolding in_front
  fixed_is_image l a e = ⊎_elim
      (λ (i : Least (λ i. h (K.members.at i) ≡ a) (p ^ m)). (K.members.at i.number, i.holds))
      (λ none. absurd (omega (
        arith,
        fixed_few F (p ^ m) l (in_front a images) (suc (p ^ m))
            (distinct_in_front a images (p ^ m) distinct none) fixed,
      )))
      (search_below (λ i. h (K.members.at i) ≡ a) (p ^ m)
      (λ i r. equal_or_not F.ring (h (K.members.at i)) a))
    where
      distinct : Distinct images (p ^ m)
      distinct i j r w s = members_distinct K.members i j r w
          (injective K.field.ring F.ring H (K.members.at i) (K.members.at j) s)

      fixed : (i : ℕ) → i < suc (p ^ m)
          → power o (in_front a images i) (p ^ m) ≡ in_front a images i
      fixed zero r = e
      fixed (suc i) r = image_fixed (K.members.at i)

  -- **the value at a^q is the value's power q**
  pub power_of_value : Homomorphism o o (λ a. power o a (p ^ m)) → (f : List B) (a : A)
      → evaluate o (map h f) (power o a (p ^ m)) ≡ power o (evaluate o (map h f) a) (p ^ m)
  power_of_value T f a = sym
      (evaluate-map T (map h f) a ∙ ap (λ g. evaluate o g (power o a (p ^ m))) (same f))
    where
      same : (f : List B) → map (λ a. power o a (p ^ m)) (map h f) ≡ map h f
      same [] = refl
      same (b ∷ f) = ap₂ ◌∷◌ (image_fixed b) (same f)

  -- and so for each power of Frobenius over B
  pub frobenius_of_value : Homomorphism o o (λ a. power o a (p ^ m)) → (f : List B) (i : ℕ) (a : A)
      → evaluate o (map h f) (frobenius o (p ^ m) i a)
      ≡ frobenius o (p ^ m) i (evaluate o (map h f) a)
  frobenius_of_value T f zero a = ap (evaluate o (map h f)) (frobenius_none F.ring (p ^ m) a)
      ∙ sym (frobenius_none F.ring (p ^ m) _)
  frobenius_of_value T f (suc i) a =
      ap (evaluate o (map h f)) (frobenius_last F.ring (p ^ m) i a)
      ∙ power_of_value T f (frobenius o (p ^ m) i a)
      ∙ ap (λ t. power o t (p ^ m)) (frobenius_of_value T f i a)
      ∙ sym (frobenius_last F.ring (p ^ m) i (evaluate o (map h f) a))
