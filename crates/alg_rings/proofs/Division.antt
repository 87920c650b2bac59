-- Polynomials over a field: products of polynomials that aren't zero, and division with remainder.
use Rattle.std.proofs.Common.{◌≡◌, ◌≢◌, ◌↔◌, IsTrue, ℕ, ◌+◌, ◌-◌, ◌<◌, ◌≤◌, List, [], ◌∷◌, map, length, slice_index_or, refl, ap, ap₂, sym, ◌∙◌, arith, inl, inr, ⊎_elim}
use Rattle.std.proofs.lemmas.Bool.{cases_lt}
use Rattle.std.proofs.lemmas.List.{get_or_past}
use Rattle.alg_model.specs.Coefficients.{Ops}
use Rattle.alg_model.specs.Polynomials.{sum, scale, shift, product, cons_trimmed, trim, poly_sum, poly_product, leading}
use Rattle.alg_rings.specs.Laws.{RingLaws, FieldLaws}
use Rattle.alg_rings.proofs.Rings
use Rattle.alg_rings.proofs.Lists
use Rattle.alg_rings.proofs.Trims

module _ {A : Type 0} {o : Ops A} (R : RingLaws o) where
  open o use {zero as O, add as ◌⊕◌, mul as ◌⊗◌}

  infixl 60 ◌⊕◌
  infixl 70 ◌⊗◌
  pub leading_scale : (c : A) (f : List A) → leading o (scale o c f) ≡ c ⊗ leading o f
  leading_scale c [] = sym (Rings.mul_zero R c)
  leading_scale c (x ∷ []) = refl
  leading_scale c (x ∷ y ∷ ys) = leading_scale c (y ∷ ys)

  -- the last coefficient of a product of lists with zeros kept is the product of the last coefficients
  pub leading_product : (f : List A) (y : A) (ys : List A) → leading o (product o f (y ∷ ys)) ≡ leading o f ⊗ leading o (y ∷ ys)
  leading_product [] y ys = sym (Rings.zero_mul R (leading o (y ∷ ys)))
  leading_product (x ∷ []) y ys =
      ap (leading o) (Lists.sum_nil o (scale o x (y ∷ ys))) ∙ leading_scale x (y ∷ ys)
  leading_product (x ∷ z ∷ zs) y ys =
      Trims.leading_sum_longer o (scale o x (y ∷ ys)) (shift o (product o (z ∷ zs) (y ∷ ys)))
      (let P = product o (z ∷ zs) (y ∷ ys) in
      let l : length P ≡ length zs + length ys + 1 = Lists.length_product o z zs y ys in
      omega (arith, l, Lists.length_scale o x (y ∷ ys), Lists.length_shift o P (omega (arith, l))))
      ∙ Trims.leading_shift o (product o (z ∷ zs) (y ∷ ys))
      ∙ leading_product (z ∷ zs) y ys

module _ {A : Type 0} {o : Ops A} (F : FieldLaws o) where
  open o use {zero as O, one as I, add as ◌⊕◌, mul as ◌⊗◌, neg}

  infixl 60 ◌⊕◌
  infixl 70 ◌⊗◌
  R : RingLaws o
  R = F.ring

  Z : (x : A) → IsTrue (o.is_zero x) ↔ (x ≡ O)
  Z = F.ring.zero_test

  -- ---- no zero divisors
  pub zero_from_product : (x y : A) → x ⊗ y ≡ O → x ≢ O → y ≡ O
  zero_from_product x y e h =
      let i = F.inverse x h in
      sym (F.ring.one_mul y) ∙ ap (λ w. w ⊗ y) (sym i.1 ∙ F.ring.mul_comm x i.0) ∙ F.ring.mul_assoc i.0 x y
      ∙ ap (λ w. i.0 ⊗ w) e ∙ Rings.mul_zero F.ring i.0

  pub product_not_zero : (x y : A) → x ≢ O → y ≢ O → x ⊗ y ≢ O
  product_not_zero x y hx hy e = hy (zero_from_product x y e hx)

  -- the product of trimmed lists that aren't empty is trimmed already
  pub product_trimmed : (x : A) (xs : List A) (y : A) (ys : List A) → trim o (x ∷ xs) ≡ x ∷ xs → trim o (y ∷ ys) ≡ y ∷ ys
      → poly_product o (x ∷ xs) (y ∷ ys) ≡ product o (x ∷ xs) (y ∷ ys)
  product_trimmed x xs y ys ef eg = Trims.trimmed_from_leading o Z (product o (x ∷ xs) (y ∷ ys))
      (λ z. product_not_zero (leading o (x ∷ xs)) (leading o (y ∷ ys))
      (Trims.leading_of_trimmed o Z x xs ef) (Trims.leading_of_trimmed o Z y ys eg)
      (sym (leading_product F.ring (x ∷ xs) y ys) ∙ z))

  pub length_poly_product : (f g : List A) → trim o f ≡ f → trim o g ≡ g → f ≢ [] → g ≢ []
      → length (poly_product o f g) + 1 ≡ length f + length g
  length_poly_product [] g ef eg hf hg = absurd (hf refl)
  length_poly_product (x ∷ xs) [] ef eg hf hg = absurd (hg refl)
  length_poly_product (x ∷ xs) (y ∷ ys) ef eg hf hg =
      omega (arith, ap length (product_trimmed x xs y ys ef eg), Lists.length_product o x xs y ys)

  pub leading_poly_product : (f g : List A) → trim o f ≡ f → trim o g ≡ g
      → leading o (poly_product o f g) ≡ leading o f ⊗ leading o g
  leading_poly_product [] g ef eg = sym (Rings.zero_mul F.ring (leading o g))
  leading_poly_product (x ∷ xs) [] ef eg =
      ap (λ w. leading o (trim o w)) (Lists.product_nil o (x ∷ xs)) ∙ sym (Rings.mul_zero F.ring (leading o (x ∷ xs)))
  leading_poly_product (x ∷ xs) (y ∷ ys) ef eg =
      ap (leading o) (product_trimmed x xs y ys ef eg) ∙ leading_product F.ring (x ∷ xs) y ys

  -- ---- division with remainder
  -- what is at most as long as d, less the multiple of d that takes its highest place away
  record Step (s d : List A) : Type 0 where
    factor : A
    rest : List A
    trimmed : trim o rest ≡ rest
    smaller : length rest < length d
    identity : trim o (sum o (scale o factor d) rest) ≡ trim o s

  module _ (s d : List A) (e : trim o d ≡ d) (l : 0 < length d) (m : length s ≤ length d) where
    top : A
    top = slice_index_or d (length d - 1) O

    top_not_zero : top ≢ O
    unfolding top
    top_not_zero = Trims.last_not_zero o Z d e l

    multiple : A
    multiple = slice_index_or s (length d - 1) O ⊗ (F.inverse top top_not_zero).0

    difference : List A
    difference = sum o s (map neg (scale o multiple d))

    difference_at : (k : ℕ) → slice_index_or difference k O ≡ slice_index_or s k O ⊕ neg (multiple ⊗ slice_index_or d k O)
    unfolding difference
    difference_at k = Lists.sum_at F.ring s (map neg (scale o multiple d)) k
        ∙ ap (λ w. slice_index_or s k O ⊕ w)
        (Lists.negatives_at F.ring (scale o multiple d) k ∙ ap neg (Lists.scale_at F.ring multiple d k))

    multiple_top : multiple ⊗ slice_index_or d (length d - 1) O ≡ slice_index_or s (length d - 1) O
    unfolding multiple top
    multiple_top = let i = F.inverse top top_not_zero in
        F.ring.mul_assoc (slice_index_or s (length d - 1) O) i.0 top
        ∙ ap (λ w. slice_index_or s (length d - 1) O ⊗ w) (F.ring.mul_comm i.0 top ∙ i.1)
        ∙ Rings.mul_one F.ring (slice_index_or s (length d - 1) O)

    difference_ends : (k : ℕ) → length d - 1 ≤ k → slice_index_or difference k O ≡ O
    difference_ends k h = ⊎_elim
        (λ j. difference_at k ∙ ap₂ (λ u v. u ⊕ neg (multiple ⊗ v)) (get_or_past s k O (omega arith)) (get_or_past d k O j)
        ∙ ap (λ w. O ⊕ neg w) (Rings.mul_zero F.ring multiple) ∙ F.ring.add_neg O)
        (λ j. let at : k ≡ length d - 1 = omega arith in
        difference_at k ∙ ap (λ i. slice_index_or s i O ⊕ neg (multiple ⊗ slice_index_or d i O)) at
        ∙ ap (λ w. slice_index_or s (length d - 1) O ⊕ neg w) multiple_top ∙ F.ring.add_neg (slice_index_or s (length d - 1) O))
        (⊎_elim (λ j. inr j) (λ j. inl j) (cases_lt k (length d)))

    step : Step s d
    step = record {
      factor = multiple;
      rest = trim o difference;
      trimmed = Trims.trim_trim o Z difference;
      smaller = omega (arith, Trims.length_trim_below o Z difference (length d - 1) difference_ends);
      identity =
          Trims.trim_sum_second F.ring (scale o multiple d) difference
          ∙ Trims.trim_same o Z (sum o (scale o multiple d) difference) s
          (λ k. Lists.sum_at F.ring (scale o multiple d) difference k
          ∙ ap₂ ◌⊕◌ (Lists.scale_at F.ring multiple d k) (difference_at k)
          ∙ Rings.add_difference F.ring (multiple ⊗ slice_index_or d k O) (slice_index_or s k O));
    }

  -- f = q * d + r with r shorter than d
  pub record Division (f d q r : List A) : Type 0 where
    pub quotient : trim o q ≡ q
    pub remainder : trim o r ≡ r
    pub identity : poly_sum o (poly_product o q d) r ≡ trim o f
    pub smaller : length r < length d

  record Quotient (f d : List A) : Type 0 where
    quotient : List A
    rest : List A
    trimmed : trim o rest ≡ rest
    identity : trim o (sum o (product o quotient d) rest) ≡ trim o f
    smaller : length rest < length d

  quotient : (f d : List A) → trim o d ≡ d → 0 < length d → Quotient f d
  quotient [] d e l = record { quotient = []; rest = []; trimmed = refl; identity = refl; smaller = l }
  quotient (c ∷ f) d e l =
      let D = quotient f d e l in
      let S = step (c ∷ D.rest) d e l D.smaller in
      record {
        quotient = S.factor ∷ D.quotient;
        rest = S.rest;
        trimmed = S.trimmed;
        smaller = S.smaller;
        identity = next c f d D.quotient D.rest S.factor S.rest D.identity S.identity;
      }
    where
      next : (c : A) (f d q r : List A) (t : A) (s : List A) → trim o (sum o (product o q d) r) ≡ trim o f
          → trim o (sum o (scale o t d) s) ≡ trim o (c ∷ r)
          → trim o (sum o (product o (t ∷ q) d) s) ≡ trim o (c ∷ f)
      next c f d q r t s e h =
          ap (trim o) (Lists.sum_assoc F.ring (scale o t d) (shift o (product o q d)) s
          ∙ Lists.sum_left_comm F.ring (scale o t d) (shift o (product o q d)) s
          ∙ Lists.sum_comm F.ring (shift o (product o q d)) (sum o (scale o t d) s))
          ∙ Trims.trim_sum_same F.ring (sum o (scale o t d) s) (c ∷ r) (shift o (product o q d)) (shift o (product o q d)) h refl
          ∙ ap (trim o) (Lists.sum_cons_shift F.ring c r (product o q d) ∙ ap (λ w. c ∷ w) (Lists.sum_comm F.ring r (product o q d)))
          ∙ ap (cons_trimmed o c) e

  pub division : (f d : List A) → trim o d ≡ d → 0 < length d → (q : List A) × (r : List A) × Division f d q r
  division f d e l =
      let D = quotient f d e l in (
        trim o D.quotient,
        D.rest,
        record {
          quotient = Trims.trim_trim o Z D.quotient;
          remainder = D.trimmed;
          identity =
              ap (λ w. poly_sum o w D.rest) (Trims.trim_product_first F.ring D.quotient d)
              ∙ Trims.trim_sum_first F.ring (product o D.quotient d) D.rest ∙ D.identity;
          smaller = D.smaller;
        },
      )
