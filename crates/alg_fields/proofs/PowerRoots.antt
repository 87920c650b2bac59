-- In characteristic p: a polynomial whose derivative is zero is a power p of one, where each coefficient has a root p.
use Rattle.std.proofs.Common.{◌≡◌, ◌<◌, ℕ, zero, suc, ◌+◌, ◌-◌, ◌%◌, ◌<◌, List, [], ◌∷◌, map, slice_index_or, refl, ap, ap₂, sym, ◌∙◌, arith, add-zero, mod-eq_of_lt, mod-lt, eq-zero-or-pos, ⊎_elim}
use Rattle.std.proofs.Math.Nat.{add-mod_right, zero-mod}
use native.Mathlib.Nat.{mod-add-mod}
use Rattle.alg_model.specs.Coefficients.{Ops, times, power}
use Rattle.alg_model.specs.Polynomials.{multiples_from, evaluate}
use Rattle.alg_rings.specs.Laws.{RingLaws}
use Rattle.alg_rings.proofs.Rings
use Rattle.alg_rings.proofs.Rings.{sorted, expanded}
use Rattle.alg_rings.proofs.Homomorphisms.{Homomorphism, times-map, power-map}
use Rattle.alg_rings.proofs.Powers
use Rattle.alg_fields.proofs.Derivatives.{raw_derivative}
use Rattle.alg_fields.proofs.Frobenius
use Rattle.alg_model.specs.Coefficients.{IsPrime}

module _ {A : Type 0} (p : ℕ) (root : A → A) where
  -- the roots of the coefficients at j, j + p, j + 2 * p, ..
  abbrev pub every : ℕ → List A → List A
  every j [] = []
  every zero (a ∷ f) = root a ∷ every (p - 1) f
  every (suc j) (a ∷ f) = every j f

not_multiple : (p n j : ℕ) → (n + suc j) % p ≡ 0 → suc j < p → 0 < n % p
not_multiple p n j e l = ⊎_elim (λ z. absurd (let k : suc j ≡ 0 = at z in omega arith)) (λ h. h) (eq-zero-or-pos (n % p))
  where
    at : n % p ≡ 0 → suc j ≡ 0
    at z =
        sym (mod-eq_of_lt l) ∙ ap (λ m. m % p) (omega arith) ∙ ap (λ r. (r + suc j) % p) (sym z) ∙ mod-add-mod n p (suc j) ∙ e

-- a ring that a ring of characteristic p maps to has characteristic p
pub image_characteristic : {A B : Type 0} {o : Ops A} {q : Ops B} {k : A → B} → Homomorphism o q k → (p : ℕ)
    → times o p o.one ≡ o.zero → times q p q.one ≡ q.zero
image_characteristic {A} {B} {o} {q} {k} K p e = ap (times q p) (sym K.one) ∙ sym (times-map K p o.one) ∙ ap k e ∙ K.zero

module _ {A B : Type 0} {o : Ops A} {q : Ops B} (R : RingLaws o) (L : RingLaws q) {k : A → B} (K : Homomorphism o q k)
    (p : ℕ) (prime : IsPrime p) (characteristic : times o p o.one ≡ o.zero) (root : A → A) (rooted : (a : A) → power o (root a) p ≡ a) where
  open q use {zero as O, one as I, add as ◌⊕◌, mul as ◌⊗◌, neg}

  infixl 60 ◌⊕◌
  infixl 70 ◌⊗◌
  image : times q p I ≡ O
  image = image_characteristic K p characteristic

  zero_coefficient : (n j : ℕ) (a : A) → (n + suc j) % p ≡ 0 → suc j < p → times o n a ≡ o.zero → a ≡ o.zero
  zero_coefficient n j a e l h =
      Frobenius.zero_from_times R p prime characteristic (n % p) a (not_multiple p n j e l) (mod-lt n (omega arith))
      (sym (Frobenius.times_remainder R p prime characteristic n a) ∙ h)

  module _ (x : B) where
    start : (a : B) (v g : B) → v ≡ power q x (p - 1) ⊗ power q g p → power q a p ⊕ x ⊗ v ≡ I ⊗ power q (a ⊕ x ⊗ g) p
    start a v g e =
        ap (λ w. power q a p ⊕ x ⊗ w) e
        ∙ ap (λ w. power q a p ⊕ w) (turn x (power q x (p - 1)) (power q g p) ∙ ap (λ m. power q x m ⊗ power q g p) last ∙ sym (Powers.power_product L x g p))
        ∙ sym (Frobenius.power_of_sum L p prime image a (x ⊗ g))
        ∙ sym (L.one_mul (power q (a ⊕ x ⊗ g) p))
      where
        turn : (x y z : B) → x ⊗ (y ⊗ z) ≡ y ⊗ x ⊗ z
        turn x y z = simp (sorted, L)

        last : suc (p - 1) ≡ p
        last = let h : 1 < p = prime.above_one in omega arith

    step : (z v : B) (j : ℕ) (g : B) → z ≡ O → v ≡ power q x j ⊗ g → z ⊕ x ⊗ v ≡ power q x (suc j) ⊗ g
    step z v j g e h = ap₂ (λ s t. s ⊕ x ⊗ t) e h ∙ L.zero_add (x ⊗ (power q x j ⊗ g)) ∙ turn x (power q x j) g
      where
        turn : (x y z : B) → x ⊗ (y ⊗ z) ≡ y ⊗ x ⊗ z
        turn x y z = simp (sorted, L)

    power_from_multiples : (n j : ℕ) (f : List A) → (n + j) % p ≡ 0 → j < p → ((i : ℕ) → slice_index_or (multiples_from o n f) i o.zero ≡ o.zero)
        → evaluate q (map k f) x ≡ power q x j ⊗ power q (evaluate q (map k (every p root j f)) x) p
    power_from_multiples n j [] e l h =
        sym (ap (λ w. power q x j ⊗ w) (Frobenius.power_of_zero L p prime image) ∙ Rings.mul_zero L (power q x j))
    power_from_multiples n zero (a ∷ f) e l h =
        let next : suc n + (p - 1) ≡ n + p = omega arith in
        let further = power_from_multiples (suc n) (p - 1) f
        (ap (λ m. m % p) next ∙ add-mod_right n p ∙ ap (λ m. m % p) (sym (add-zero n)) ∙ e) (omega arith) (λ i. h (suc i)) in
        ap (λ w. w ⊕ x ⊗ evaluate q (map k f) x) (ap k (sym (rooted a)) ∙ power-map K (root a) p)
        ∙ start (k (root a)) (evaluate q (map k f) x) (evaluate q (map k (every p root (p - 1) f)) x) further
    power_from_multiples n (suc j) (a ∷ f) e l h =
        let next : suc n + j ≡ n + suc j = omega arith in
        step (k a) (evaluate q (map k f) x) j (power q (evaluate q (map k (every p root j f)) x) p)
        (ap k (zero_coefficient n j a e l (h 0)) ∙ K.zero)
        (power_from_multiples (suc n) j f (ap (λ m. m % p) next ∙ e) (omega arith) (λ i. h (suc i)))

    -- **what has derivative zero is a power p**
    pub power_from_derivative : (f : List A) → ((i : ℕ) → slice_index_or (raw_derivative o f) i o.zero ≡ o.zero)
        → evaluate q (map k f) x ≡ power q (evaluate q (map k (every p root 0 f)) x) p
    power_from_derivative f h =
        power_from_multiples 0 0 f (zero-mod p) (let l : 1 < p = prime.above_one in omega arith) (from_start f h)
        ∙ L.one_mul (power q (evaluate q (map k (every p root 0 f)) x) p)
      where
        from_start : (f : List A) → ((i : ℕ) → slice_index_or (raw_derivative o f) i o.zero ≡ o.zero)
            → (i : ℕ) → slice_index_or (multiples_from o 0 f) i o.zero ≡ o.zero
        from_start [] h i = refl
        from_start (a ∷ f) h zero = refl
        from_start (a ∷ f) h (suc i) = h i
