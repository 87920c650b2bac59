-- The orbit of a under a -> a^q, where q = p^m is the number of members of a field B below: it has
-- as many different members as
-- the least power of Frobenius over B that brings a back, and the product of x - b over its
-- members b has coefficients in B.
--     orbit o q d a         a, a^q, .., d of them
--     Period o q a d        d powers of a -> a^q bring a back, and no fewer
--     Orbit H q a           the period of a, and the polynomial over B whose roots are the orbit
use Rattle.std.proofs.Common.{◌≡◌, ◌≢◌, ◌⊎◌, ⊎_elim, ℕ, zero, suc, ◌-◌, ◌*◌, ◌%◌, ◌^◌, ◌<◌, ◌≤◌, List, [], ◌∷◌, ◌++◌, length, map, slice_index_or, refl, ap, ap₂, sym, ◌∙◌, arith, mod-lt}
use Rattle.std.proofs.Math.Nat.{mul_comm}
use Rattle.std.proofs.lemmas.Bool.{cases_lt}
use Rattle.std.proofs.lemmas.List.{length-map}
use Rattle.std.specs.List.{range_with_len}
use Rattle.std.proofs.lemmas.List.FromFn.{fill_by_all}
use Rattle.alg_model.specs.Coefficients.{Ops, power}
use Rattle.alg_model.specs.Polynomials.{evaluate, leading, product, scale, shift}
use Rattle.alg_rings.specs.Laws.{RingLaws}
use Rattle.alg_rings.proofs.Rings
use Rattle.alg_rings.proofs.Lists
use Rattle.alg_rings.proofs.Trims
use Rattle.alg_rings.proofs.Homomorphisms.{Homomorphism, product-map, leading-map}
use Rattle.alg_rings.proofs.Evaluation
use Rattle.alg_rings.proofs.Decisions.{Least, search_below}
use Rattle.alg_rings.proofs.Rings.{equal_or_not}
use Rattle.alg_fields.proofs.Roots.{linear, linear_product, linear_product_is, value_of_linear}
use Rattle.alg_finite.proofs.Enumerations.{Distinct}
use Rattle.alg_finite.proofs.FieldMaps.{injective}
use Rattle.alg_finite.proofs.FiniteField.{FiniteField, frobenius, frobenius_none, frobenius_next, frobenius_add, frobenius_of_power, frobenius_multiple, frobenius_remainder, frobenius_homomorphism, frobenius_cancel, root_bound_at, above_one}
use Rattle.alg_finite.proofs.Extensions.{fixed_is_image, frobenius_of_value}

-- a, a^q, .., d of them
abbrev pub orbit : {A : Type 0} → Ops A → ℕ → ℕ → A → List A
orbit o q zero a = []
orbit o q (suc d) a = a ∷ orbit o q d (power o a q)

pub record Period {A : Type 0} (o : Ops A) (q : ℕ) (a : A) (d : ℕ) : Type 0 where
  pub positive : 0 < d
  pub returns : frobenius o q d a ≡ a
  pub least : (j : ℕ) → 0 < j → frobenius o q j a ≡ a → d ≤ j

-- ---- products of x - a
-- a map that keeps the operations keeps them
pub linear_product-map : {A B : Type 0} {o : Ops A} {k : Ops B} {T : A → B} → Homomorphism o k T
    → (roots : List A) → map T (linear_product o roots) ≡ linear_product k (map T roots)
linear_product-map {A} {B} {o} {k} {T} H [] = ap (λ t. t ∷ []) H.one
linear_product-map {A} {B} {o} {k} {T} H (a ∷ roots) =
    product-map H (linear o a) (linear_product o roots)
    ∙ ap₂ (product k) (ap₂ (λ s t. s ∷ t ∷ []) (H.neg a) H.one) (linear_product-map H roots)

module _ {A : Type 0} {o : Ops A} (R : RingLaws o) where
  -- a product of n factors x - a has n + 1 coefficients
  pub length_linear_product : (roots : List A)
      → length (linear_product o roots) ≡ suc (length roots)
  length_linear_product [] = refl
  length_linear_product (a ∷ roots) =
      let f = linear_product o roots in
      omega (
        arith,
        length_linear_product roots,
        ap length (linear_product_is R a f),
        Lists.length_sum o (scale o (o.neg a) f) (shift o f),
        Lists.length_scale o (o.neg a) f,
        Lists.length_shift o f (omega (arith, length_linear_product roots)),
      )

  -- it is monic
  pub leading_linear_product : (roots : List A) → leading o (linear_product o roots) ≡ o.one
  leading_linear_product [] = refl
  leading_linear_product (a ∷ roots) =
      let f = linear_product o roots in
      ap (leading o) (linear_product_is R a f)
      ∙ Trims.leading_sum_longer o (scale o (o.neg a) f) (shift o f)
      (omega (
        arith,
        length_linear_product roots,
        Lists.length_scale o (o.neg a) f,
        Lists.length_shift o f (omega (arith, length_linear_product roots)),
      ))
      ∙ Trims.leading_shift o f ∙ leading_linear_product roots

  -- the last factor may stand first
  pub linear_product_last : (roots : List A) (a : A)
      → linear_product o (roots ++ a ∷ []) ≡ linear_product o (a ∷ roots)
  linear_product_last [] a = refl
  linear_product_last (b ∷ roots) a =
      ap (product o (linear o b)) (linear_product_last roots a)
      ∙ Lists.product_left_comm R (linear o b) (linear o a) (linear_product o roots)

  -- each a is a root of a product with the factor x - a
  pub root_of_first : (a : A) (roots : List A)
      → evaluate o (linear_product o (a ∷ roots)) a ≡ o.zero
  root_of_first a roots =
      Evaluation.value_of_product R (linear o a) (linear_product o roots) a
      ∙ ap (λ t. o.mul t (evaluate o (linear_product o roots) a))
      (value_of_linear R a a ∙ R.add_neg a)
      ∙ Rings.zero_mul R (evaluate o (linear_product o roots) a)

  -- ---- the members of an orbit
  pub length_orbit : (q d : ℕ) (a : A) → length (orbit o q d a) ≡ d
  length_orbit q zero a = refl
  length_orbit q (suc d) a = ap suc (length_orbit q d (power o a q))

  -- the i-th member is a^(q^i)
  pub orbit_at : (q d : ℕ) (a : A) (i : ℕ) (e : A) → i < d
      → slice_index_or (orbit o q d a) i e ≡ frobenius o q i a
  orbit_at q zero a i e l = absurd (omega arith)
  orbit_at q (suc d) a zero e l = sym (frobenius_none R q a)
  orbit_at q (suc d) a (suc i) e l = orbit_at q d (power o a q) i e (omega arith)
      ∙ sym (frobenius_next R q i a)

  -- the orbit as the list of its members by number
  pub orbit_is : (q d : ℕ) (a : A)
      → orbit o q d a ≡ map (λ i. frobenius o q i a) (range_with_len 0 d)
  orbit_is q d a =
      fill_by_all (λ i. frobenius o q i a) (orbit o q d a) d a (length_orbit q d a)
      (λ i l. orbit_at q d a i a l)

  orbit_last : (q d : ℕ) (a : A) → orbit o q (suc d) a ≡ orbit o q d a ++ frobenius o q d a ∷ []
  orbit_last q zero a = ap (λ t. t ∷ []) (sym (frobenius_none R q a))
  orbit_last q (suc d) a =
      ap (λ t. a ∷ t) (orbit_last q d (power o a q)
      ∙ ap (λ t. orbit o q d (power o a q) ++ t ∷ []) (sym (frobenius_next R q d a)))

  orbit_power : (q d : ℕ) (a : A)
      → map (λ b. power o b q) (orbit o q d a) ≡ orbit o q d (power o a q)
  orbit_power q zero a = refl
  orbit_power q (suc d) a = ap (λ t. power o a q ∷ t) (orbit_power q d (power o a q))

  -- **the product over an orbit is kept by a -> a^q**
  orbit_polynomial_fixed : (q d : ℕ) (a : A) → Homomorphism o o (λ b. power o b q)
      → frobenius o q (suc d) a ≡ a
      → map (λ b. power o b q) (linear_product o (orbit o q (suc d) a))
      ≡ linear_product o (orbit o q (suc d) a)
  orbit_polynomial_fixed q d a T e =
      linear_product-map T (orbit o q (suc d) a)
      ∙ ap (linear_product o) (orbit_power q (suc d) a ∙ orbit_last q d (power o a q))
      ∙ linear_product_last (orbit o q d (power o a q)) (frobenius o q d (power o a q))
      ∙ ap (λ t. linear_product o (t ∷ orbit o q d (power o a q)))
      (sym (frobenius_next R q d a) ∙ e)

-- ---- periods
module _ {A : Type 0} {o : Ops A} {p n : ℕ} (F : FiniteField o p n) (m : ℕ) (a : A) where
  return_or_not : (i : ℕ) → (frobenius o (p ^ m) (suc i) a ≡ a)
      ⊎ (frobenius o (p ^ m) (suc i) a ≢ a)
  return_or_not i = equal_or_not F.field.ring (frobenius o (p ^ m) (suc i) a) a

  last_returns : (i : ℕ) → suc i ≡ n → frobenius o (p ^ m) (suc i) a ≡ a
  last_returns i e =
      ap (λ j. frobenius o (p ^ m) j a) e ∙ frobenius_of_power F.field.ring p m n a
      ∙ ap (λ j. frobenius o p j a) (mul_comm m n)
      ∙ frobenius_multiple F.field.ring p n a (F.fixed a) m

  -- each a has a period
  pub period_exists : (d : ℕ) × Period o (p ^ m) a d
  period_exists = ⊎_elim
      (λ (f : Least (λ i. frobenius o (p ^ m) (suc i) a ≡ a) n). (
        suc f.number,
        record {
          positive = omega arith;
          returns = f.holds;
          least = λ j l e. above f.number f.least j l e;
        },
      ))
      (λ none. let l : 0 < n = F.positive in
      absurd (none (n - 1) (omega arith) (last_returns (n - 1) (omega arith))))
      (search_below (λ i. frobenius o (p ^ m) (suc i) a ≡ a) n (λ i l. return_or_not i))
    where
      above : (i : ℕ) → ((j : ℕ) → j < i → frobenius o (p ^ m) (suc j) a ≡ a → ⊥) → (j : ℕ) → 0 < j
          → frobenius o (p ^ m) j a ≡ a → suc i ≤ j
      above i none zero l e = absurd (omega arith)
      above i none (suc j) l e = ⊎_elim (λ s. absurd (none j s e)) (λ s. omega arith) (cases_lt j i)

  module _ (d : ℕ) (D : Period o (p ^ m) a d) where
    -- **the members of an orbit are different**
    pub orbit_distinct : Distinct (λ i. frobenius o (p ^ m) i a) d
    orbit_distinct i j l h e =
        let back : frobenius o (p ^ m) (j - i) a ≡ a =
        frobenius_cancel F.field F.prime F.characteristic m i (frobenius o (p ^ m) (j - i) a) a
        (sym (frobenius_add F.field.ring (p ^ m) i (j - i) a)
        ∙ ap (λ k. frobenius o (p ^ m) k a) (omega arith) ∙ sym e) in
        let s : d ≤ j - i = D.least (j - i) (omega arith) back in omega arith

    -- **what brings a back is a multiple of the period**
    pub period_divides : (j : ℕ) → frobenius o (p ^ m) j a ≡ a → j % d ≡ 0
    period_divides j e = ⊎_elim
        (λ l. let s : d ≤ j % d =
        D.least (j % d) l (sym (frobenius_remainder F.field.ring (p ^ m) d a D.returns j) ∙ e) in
        let r : j % d < d = mod-lt j D.positive in absurd (omega arith))
        (λ l. omega arith) (cases_lt 0 (j % d))

-- ---- the polynomial of an orbit
pub record Orbit {A B : Type 0} (o : Ops A) (h : B → A) (q : ℕ) (a : A) : Type 0 where
  pub size : ℕ
  pub period : Period o q a size
  pub polynomial : List B
  pub image : map h polynomial ≡ linear_product o (orbit o q size a)

module _ {A B : Type 0} {k : Ops B} {o : Ops A} {h : B → A} (H : Homomorphism k o h) {p m n : ℕ}
    (K : FiniteField k p m) (F : FiniteField o p n) where
  fixed_list : (f : List A) → map (λ a. power o a (p ^ m)) f ≡ f → (g : List B) × (map h g ≡ f)
  fixed_list [] e = ([], refl)
  fixed_list (a ∷ f) e =
      let head : power o a (p ^ m) ≡ a = cc in
      let tail : map (λ a. power o a (p ^ m)) f ≡ f = cc in
      let b : (b : B) × (h b ≡ a) = fixed_is_image H K F.field (above_one K) a head in
      let g : (g : List B) × (map h g ≡ f) = fixed_list f tail in
      (b.0 ∷ g.0, ap₂ ◌∷◌ b.1 g.1)

  -- **the product of x - b over an orbit has coefficients in B**
  pub orbit_of : (a : A) → Orbit o h (p ^ m) a
  orbit_of a = of_period (period_exists F m a)
    where
      of_period : (d : ℕ) × Period o (p ^ m) a d → Orbit o h (p ^ m) a
      of_period (zero, D) = absurd (let l : 0 < 0 = D.positive in omega arith)
      of_period (suc d, D) =
          let g : (g : List B) × (map h g ≡ linear_product o (orbit o (p ^ m) (suc d) a)) =
          fixed_list (linear_product o (orbit o (p ^ m) (suc d) a))
          (orbit_polynomial_fixed F.field.ring (p ^ m) d a
          (frobenius_homomorphism F.field F.prime F.characteristic m) D.returns) in
          record { size = suc d; period = D; polynomial = g.0; image = g.1 }

  module _ (a : A) (O : Orbit o h (p ^ m) a) where
    -- its degree is the size of the orbit
    pub length_orbit_polynomial : length O.polynomial ≡ suc O.size
    length_orbit_polynomial = omega (
      arith,
      length-map O.polynomial h,
      ap length O.image,
      length_linear_product F.field.ring (orbit o (p ^ m) O.size a),
      length_orbit F.field.ring (p ^ m) O.size a,
    )

    -- it is monic
    pub leading_orbit_polynomial : leading k O.polynomial ≡ k.one
    leading_orbit_polynomial = injective K.field.ring F.field.ring H (leading k O.polynomial) k.one
        (leading-map H O.polynomial ∙ ap (leading o) O.image
        ∙ leading_linear_product F.field.ring (orbit o (p ^ m) O.size a) ∙ sym H.one)

    -- it vanishes at a
    pub orbit_polynomial_vanishes : evaluate o (map h O.polynomial) a ≡ o.zero
    orbit_polynomial_vanishes = ap (λ f. evaluate o f a) O.image ∙ at O.size O.period.positive
      where
        at : (d : ℕ) → 0 < d → evaluate o (linear_product o (orbit o (p ^ m) d a)) a ≡ o.zero
        at zero l = absurd (omega arith)
        at (suc d) l = root_of_first F.field.ring a (orbit o (p ^ m) d (power o a (p ^ m)))

    -- **a polynomial over B that is zero at a is zero on the orbit, so has more coefficients than
    -- the orbit has members**
    pub zero_on_orbit : (f : List B) → evaluate o (map h f) a ≡ o.zero → (i : ℕ)
        → evaluate o (map h f) (frobenius o (p ^ m) i a) ≡ o.zero
    zero_on_orbit f e i =
        frobenius_of_value H K F.field
        (frobenius_homomorphism F.field F.prime F.characteristic m) f i a
        ∙ ap (frobenius o (p ^ m) i) e ∙ frobenius_of_power F.field.ring p m i o.zero
        ∙ (frobenius_homomorphism F.field F.prime F.characteristic (m * i)).zero

    -- so it has more coefficients than the orbit has members
    pub vanishing_is_long : (f : List B) → leading k f ≢ k.zero → evaluate o (map h f) a ≡ o.zero
        → O.size < length f
    vanishing_is_long f l e =
        omega (
          arith,
          length-map f h,
          root_bound_at F.field (map h f)
              (λ z. l (injective K.field.ring F.field.ring H (leading k f) k.zero
              (leading-map H f ∙ z ∙ sym H.zero)))
              (λ i. frobenius o (p ^ m) i a) O.size (orbit_distinct F m a O.size O.period)
              (λ i _. zero_on_orbit f e i),
        )
