-- Lists of elements of a ring by their places, zero past the end: what sums, products and divisions
-- do place by place.
use Rattle.std.proofs.Common.{◌≡◌, ◌≢◌, ℕ, zero, suc, ◌+◌, ◌-◌, ◌<◌, ◌≤◌, List, [], ◌∷◌, ◌++◌, length, slice_index_or, take, drop, set, replicate, All, refl, ap, ap₂, sym, ◌∙◌, subst, arith, ⊎_elim, length-take, get_or-take}
use Rattle.std.proofs.Math.Seq.{take-append_seam}
use Rattle.std.proofs.lemmas.Bool.{cases_lt, cases_eq}
use Rattle.std.proofs.lemmas.List.{get_or_past, get_or-set_same, get_or-set_other, get_or-replicate, length-replicate, drop_more, get_or_read_under}
use Rattle.std.proofs.lemmas.List.Elements.{All-nil, All-take, All-drop, All-append, All-replicate, All-set}
use Rattle.std.specs.List.{refill}
use Rattle.alg_model.specs.Coefficients.{Ops, Carrier}
use Rattle.alg_model.specs.Polynomials.{sum, poly_sum, poly_negative, scale, shift, product, trim, leading}
use Rattle.alg_model.specs.Factors.{IsPolynomial}
use Rattle.alg_model.specs.Fields.{IsRing}
use Rattle.alg_rings.specs.Laws.{RingLaws, IsPropositional}
use Rattle.alg_rings.proofs.Rings
use Rattle.alg_rings.proofs.Lists.{shift_at_zero, shift_at}
use Rattle.alg_rings.proofs.Trims.{leading_at}
use Rattle.alg_rings.proofs.Elements.{underlying, underlying_injective, element_ops, element_laws}
use Rattle.alg_rings.proofs.Validity.{place_valid, sum_valid, scale_valid, shift_valid, product_valid}
use Rattle.alg_rings.proofs.LongDivision.{IsStep, division_step}
use Rattle.alg_rings.proofs.CarrierPolynomials.{trim_same, trimmed_from_leading, sum_at, scale_at, negatives_at, trim_sum_first, trim_product_first}

-- a slice that was written whole
pub refill_whole : {A : Type 0} (xs ws : List A) → length ws ≡ length xs
    → refill (length xs) xs ws ≡ ws
refill_whole xs ws e =
    ap (λ n. take n (ws ++ drop (length ws) xs)) (sym e) ∙ take-append_seam ws (drop (length ws) xs)

-- zeros at each place
pub blank_at : {A : Type 0} (x : A) (n k : ℕ) → slice_index_or (replicate n x) k x ≡ x
blank_at x n k = ⊎_elim (λ h. get_or-replicate n k x x h)
    (λ h. get_or_past (replicate n x) k x (omega (arith, length-replicate n x))) (cases_lt k n)

module _ {A : Type 0} (o : Ops A) (L : RingLaws o) where
  open o use {zero as O, one as I, add as ◌⊕◌, mul as ◌⊗◌, neg}

  infixl 60 ◌⊕◌
  infixl 70 ◌⊗◌
  gone : (x l i : A) → l ⊗ i ≡ I → x ⊕ neg (x ⊗ i) ⊗ l ≡ O
  gone x l i e =
      ap (λ w. x ⊕ w) (Rings.neg_mul L (x ⊗ i) l
      ∙ ap neg (Rings.mul_assoc L x i l ∙ ap (λ w. x ⊗ w) (Rings.mul_comm L i l ∙ e) ∙ Rings.mul_one L x))
      ∙ Rings.add_neg L x

module _ {A : Type 0} (c : Carrier A) where
  open c.ops use {zero as O}

  -- what the division of f by d keeps while the places of the quotient from `at` on are known
  pub record Divided (degree at : ℕ) (q d r f : List A) : Type 0 where
    pub quotient : All c.Valid q
    pub rest : All c.Valid r
    pub blank : (k : ℕ) → k < at → slice_index_or q k O ≡ O
    pub cleared : (k : ℕ) → at + degree ≤ k → slice_index_or r k O ≡ O
    pub division : trim c.ops (sum c.ops (product c.ops q d) r) ≡ trim c.ops f

module _ {A : Type 0} {c : Carrier A} (P : IsPropositional c) (R : IsRing c) where
  open c.ops use {zero as O, one as I, add as ◌⊕◌, mul as ◌⊗◌, neg}

  infixl 60 ◌⊕◌
  infixl 70 ◌⊗◌
  -- the multiple of l that takes x away, where i is the inverse of l
  pub top_gone : (x l i : A) → c.Valid x → c.Valid l → c.Valid i → l ⊗ i ≡ I
      → x ⊕ neg (x ⊗ i) ⊗ l ≡ O
  top_gone x l i vx vl vi e =
      ap (underlying c) (gone (element_ops R) (element_laws P R) (x, vx) (l, vl) (i, vi)
      (underlying_injective P _ _ e))

  -- a multiple of the negative is the negative of the multiple
  pub negative_multiple : (t y : A) → c.Valid t → c.Valid y → neg t ⊗ y ≡ neg (t ⊗ y)
  negative_multiple t y vt vy =
      ap (underlying c) (Rings.neg_mul (element_laws P R) (t, vt) (y, vy))

  -- multiples by -1 are the negatives
  pub negated : (g : List A) (k : ℕ) → All c.Valid g
      → neg I ⊗ slice_index_or g k O ≡ slice_index_or (poly_negative c.ops g) k O
  negated g k vg =
      ap (underlying c) (Rings.neg_one_mul (element_laws P R)
      (slice_index_or g k O, place_valid R g k vg))
      ∙ sym (negatives_at P R g k vg)

  -- a multiple of zero adds nothing
  pub unchanged : (x t : A) → c.Valid x → c.Valid t → x ⊕ t ⊗ O ≡ x
  unchanged x t vx vt =
      ap (λ w. x ⊕ w) (ap (underlying c) (Rings.mul_zero (element_laws P R) (t, vt)))
      ∙ ap (underlying c) (Rings.add_zero (element_laws P R) (x, vx))

  -- the last coefficient, as an index reads it
  pub last_read : (f g : List A) (x : A) → g ≡ f → 0 < length g
      → x ≡ slice_index_or g (length g - 1) x → leading c.ops f ≡ x
  last_read f g x e l r =
      leading_at c.ops f ∙ ap (λ xs. slice_index_or xs (length xs - 1) O) (sym e)
      ∙ sym (get_or_read_under g (length g - 1) (length g) x O r (omega arith) refl)

  -- zeros after a list change no place
  pub padded_at : (xs : List A) (n k : ℕ)
      → slice_index_or (xs ++ replicate n O) k O ≡ slice_index_or xs k O
  padded_at [] n k = blank_at O n k
  padded_at (x ∷ xs) n zero = refl
  padded_at (x ∷ xs) n (suc k) = padded_at xs n k

  -- they are elements
  pub padded_valid : (xs : List A) (n : ℕ) → All c.Valid xs → All c.Valid (xs ++ replicate n O)
  padded_valid xs n v =
      All-append c.Valid xs (replicate n O) v (All-replicate c.Valid n O R.zero_valid)

  -- the list up to its last element that isn't zero is the list without zeros at its end
  pub trim_is_take : (n : ℕ) (f : List A) → All c.Valid f → 0 < n → n ≤ length f
      → slice_index_or f (n - 1) O ≢ O → ((k : ℕ) → n ≤ k → slice_index_or f k O ≡ O)
      → take n f ≡ trim c.ops f
  trim_is_take n f vf above within last past =
      let len : length (take n f) ≡ n = omega (arith, length-take n f) in
      let kept : slice_index_or (take n f) (n - 1) O ≡ slice_index_or f (n - 1) O =
      get_or-take n f (n - 1) O (omega arith) in
      let end : leading c.ops (take n f) ≡ slice_index_or f (n - 1) O =
      leading_at c.ops (take n f)
      ∙ ap (λ m. slice_index_or (take n f) (m - 1) O) len ∙ kept in
      let vt = All-take c.Valid n f vf in
      sym (trimmed_from_leading P R (take n f) vt (λ z. last (sym end ∙ z)))
      ∙ trim_same P R (take n f) f vt vf
      (λ k. ⊎_elim (λ l. get_or-take n f k O l)
      (λ l. get_or_past (take n f) k O (omega arith) ∙ sym (past k l)) (cases_lt k n))

  -- a list of zeros alone is nothing without them
  pub trim_blank : (f : List A) → All c.Valid f → ((k : ℕ) → slice_index_or f k O ≡ O)
      → trim c.ops f ≡ []
  trim_blank f vf h = trim_same P R f [] vf (All-nil c.Valid) h

  -- **one row of a product more**: from the product of the places of f above i to that with i
  pub product_step : (i : ℕ) (f g before after : List A) → i < length f
      → All c.Valid f → All c.Valid g → All c.Valid before
      → slice_index_or before i O ≡ O
      → ((k : ℕ) → slice_index_or before (i + 1 + k) O
      ≡ slice_index_or (product c.ops (drop (i + 1) f) g) k O)
      → ((k : ℕ) → slice_index_or after (i + k) O ≡ slice_index_or before (i + k) O
      ⊕ slice_index_or f i O ⊗ slice_index_or g k O)
      → (k : ℕ) → slice_index_or after (i + k) O ≡ slice_index_or (product c.ops (drop i f) g) k O
  product_step i f g before after l vf vg vb low high above k =
      above k ∙ there k
      ∙ ap (λ w. slice_index_or (product c.ops w g) k O) (sym (drop_more f i O l))
    where
      x : A
      x = slice_index_or f i O

      rest : List A
      rest = product c.ops (drop (i + 1) f) g

      vx : c.Valid (slice_index_or f i O)
      vx = place_valid R f i vf

      vr : All c.Valid (product c.ops (drop (i + 1) f) g)
      vr = product_valid R (drop (i + 1) f) g (All-drop c.Valid (i + 1) f vf) vg

      row : (k : ℕ) → slice_index_or (product c.ops (slice_index_or f i O ∷ drop (i + 1) f) g) k O
          ≡ slice_index_or f i O ⊗ slice_index_or g k O
          ⊕ slice_index_or (shift c.ops (product c.ops (drop (i + 1) f) g)) k O
      row k = sum_at P R (scale c.ops x g) (shift c.ops rest) k (scale_valid R x g vx vg)
          (shift_valid R rest vr)
          ∙ ap (λ w. w ⊕ slice_index_or (shift c.ops rest) k O) (scale_at P R x g k vx vg)

      earlier : (k : ℕ) → slice_index_or before (i + k) O
          ≡ slice_index_or (shift c.ops (product c.ops (drop (i + 1) f) g)) k O
      earlier zero = let e : i + 0 ≡ i = omega arith in
          ap (λ j. slice_index_or before j O) e ∙ low ∙ sym (shift_at_zero c.ops rest)
      earlier (suc k) = let e : i + suc k ≡ i + 1 + k = omega arith in
          ap (λ j. slice_index_or before j O) e ∙ high k ∙ sym (shift_at c.ops rest k)

      there : (k : ℕ) → slice_index_or before (i + k) O
          ⊕ slice_index_or f i O ⊗ slice_index_or g k O
          ≡ slice_index_or (product c.ops (slice_index_or f i O ∷ drop (i + 1) f) g) k O
      there k = let m = x ⊗ slice_index_or g k O in
          R.add_comm (slice_index_or before (i + k) O) (x ⊗ slice_index_or g k O)
          (place_valid R before (i + k) vb) (R.mul_valid x _ vx (place_valid R g k vg))
          ∙ ap (λ w. x ⊗ slice_index_or g k O ⊕ w) (earlier k)
          ∙ sym (row k)

  -- **sums**: multiples by t of the places of g, which are the places of h, on those of f
  pub added : (n : ℕ) (t : A) (f g h after : List A) → All c.Valid f → All c.Valid h
      → All c.Valid after
      → ((k : ℕ) → slice_index_or after (0 + k) O
      ≡ slice_index_or (f ++ replicate n O) (0 + k) O ⊕ t ⊗ slice_index_or g k O)
      → ((k : ℕ) → t ⊗ slice_index_or g k O ≡ slice_index_or h k O)
      → trim c.ops after ≡ poly_sum c.ops f h
  added n t f g h after vf vh va places multiples =
      trim_same P R after (sum c.ops f h) va (sum_valid R f h vf vh)
      (λ k. let e : 0 + k ≡ k = omega arith in
      ap (λ j. slice_index_or after j O) (sym e) ∙ places k
      ∙ ap₂ ◌⊕◌ (ap (λ j. slice_index_or (f ++ replicate n O) j O) e ∙ padded_at f n k) (multiples k)
      ∙ sym (sum_at P R f h k vf vh))

  -- a polynomial with zeros after it
  pub trim_padded : (f : List A) (n : ℕ) → IsPolynomial c f → trim c.ops (f ++ replicate n O) ≡ f
  trim_padded f n vf =
      trim_same P R (f ++ replicate n O) f (padded_valid f n vf.0) vf.0 (padded_at f n) ∙ vf.1

  -- **a division starts** with a quotient of zeros
  pub division_start : (degree at : ℕ) (q d f : List A) → All c.Valid q → All c.Valid d
      → All c.Valid f → ((k : ℕ) → slice_index_or q k O ≡ O) → length f ≤ at + degree
      → Divided c degree at q d f f
  division_start degree at q d f vq vd vf blank room = record {
    quotient = vq;
    rest = vf;
    blank = λ k l. blank k;
    cleared = λ k l. get_or_past f k O (omega arith);
    division = sym (trim_sum_first P R (product c.ops q d) f (product_valid R q d vq vd) vf)
        ∙ ap (λ w. trim c.ops (sum c.ops w f))
        (sym (trim_product_first P R q d vq vd)
        ∙ ap (λ w. trim c.ops (product c.ops w d)) (trim_blank q vq blank));
  }

  -- **one round**: t at the place `at` of the quotient, and t * x^at * d off the rest, where i is
  -- the inverse of the last coefficient of d
  module _ (degree at : ℕ) (q d r after f : List A) (t i : A)
      (known : Divided c degree (at + 1) q d r f) (vd : All c.Valid d) (va : All c.Valid after)
      (vi : c.Valid i) (last : length d ≤ degree + 1)
      (inverse : slice_index_or d degree O ⊗ i ≡ I)
      (factor : t ≡ slice_index_or r (at + degree) O ⊗ i)
      (below : (k : ℕ) → k < at → slice_index_or after k O ≡ slice_index_or r k O)
      (above : (k : ℕ) → slice_index_or after (at + k) O
      ≡ slice_index_or r (at + k) O ⊕ neg t ⊗ slice_index_or d k O)
      (room : at < length q) where
    vtop : c.Valid (slice_index_or r (at + degree) O)
    vtop = place_valid R r (at + degree) known.rest

    vt : c.Valid t
    vt = subst c.Valid (sym factor) (R.mul_valid (slice_index_or r (at + degree) O) i vtop vi)

    next : List A
    next = set q at t

    vnext : All c.Valid (set q at t)
    vnext = All-set c.Valid q at t vt known.quotient

    step : IsStep P R q (set q at t) d r after t at
    step = (
      λ k n. get_or-set_other q at k t O n,
      get_or-set_same q at t O room ∙ sym (R.zero_add t vt)
          ∙ ap (λ w. w ⊕ t) (sym (known.blank at (omega arith))),
      below,
      λ k. above k ∙ ap (λ w. slice_index_or r (at + k) O ⊕ w)
          (negative_multiple t (slice_index_or d k O) vt (place_valid R d k vd)),
    )

    highest : slice_index_or after (at + degree) O ≡ O
    highest = above degree
        ∙ ap (λ w. slice_index_or r (at + degree) O ⊕ neg w ⊗ slice_index_or d degree O) factor
        ∙ top_gone (slice_index_or r (at + degree) O) (slice_index_or d degree O) i vtop
        (place_valid R d degree vd) vi inverse

    higher : (k : ℕ) → at + degree < k → slice_index_or after k O ≡ O
    higher k l =
        let e : at + (k - at) ≡ k = omega arith in
        let past : slice_index_or d (k - at) O ≡ O = get_or_past d (k - at) O (omega arith) in
        let gone : slice_index_or r k O ≡ O = known.cleared k (omega arith) in
        subst (λ j. slice_index_or after j O
        ≡ slice_index_or r j O ⊕ neg t ⊗ slice_index_or d (k - at) O) e (above (k - at))
        ∙ ap₂ (λ v w. v ⊕ neg t ⊗ w) gone past
        ∙ unchanged O (neg t) R.zero_valid (R.neg_valid t vt)

    pub division_round : Divided c degree at (set q at t) d after f
    division_round = record {
      quotient = vnext;
      rest = va;
      blank = λ k l. get_or-set_other q at k t O (omega arith) ∙ known.blank k (omega arith);
      cleared = λ k l. ⊎_elim
          (λ e. ap (λ j. slice_index_or after j O) e ∙ highest)
          (λ n. higher k (omega arith)) (cases_eq k (at + degree));
      division = division_step P R q (set q at t) d r after t at known.quotient vnext vd known.rest
          va vt step ∙ known.division;
    }
