-- Euclid's algorithm for polynomials over a carrier, one division after another.
use Rattle.std.proofs.Common.{◌≡◌, ◌≢◌, ◌⊎◌, ℕ, ◌+◌, ◌-◌, ◌<◌, ◌≤◌, max, List, [], ◌∷◌, length, ap, ap₂, sym, ◌∙◌, subst, arith, inl, inr, ⊎_elim}
use Rattle.std.proofs.lemmas.Bool.{cases_eq}
use Rattle.std.proofs.lemmas.List.{nil_from_length}
use Rattle.std.proofs.lemmas.List.Elements.{All-nil, All-cons}
use Rattle.alg_model.specs.Coefficients.{Ops, Carrier}
use Rattle.alg_model.specs.Polynomials.{trim, poly_sum, poly_difference, poly_product, leading}
use Rattle.alg_model.specs.Factors.{IsPolynomial, IsMonic, Divides, IsDivision, IsGreatestCommonDivisor}
use Rattle.alg_model.specs.Fields.{IsRing, IsField}
use Rattle.alg_rings.specs.Laws.{RingLaws, IsPropositional}
use Rattle.alg_rings.proofs.Rings
use Rattle.alg_rings.proofs.Lists.{nil_or_not, length_not_nil, not_nil_from_length, sum_nil, product_nil}
use Rattle.alg_rings.proofs.Trims.{length_poly_difference}
use Rattle.alg_rings.proofs.CarrierPolynomials.{trim_polynomial, poly_product_polynomial, poly_sum_comm, poly_product_assoc, one_poly_product}
use Rattle.alg_rings.proofs.Elements.{underlying, element_laws}
use Rattle.alg_rings.proofs.Validity.{leading_valid}
use Rattle.alg_rings.proofs.Divisors.{Polynomial, polynomial_ops, polynomial_laws, same_polynomial, divides_nil, divides_sum, divides_product, divides_difference, divides_transitive, divides_multiple, length_poly_product, leading_poly_product}
use Rattle.alg_rings.proofs.CarrierPolynomials.{constant_trimmed, leading_not_zero}

-- u * a + w * b = g
pub record Combines {A : Type 0} (o : Ops A) (a b u w g : List A) : Type 0 where
  pub identity : poly_sum o (poly_product o u a) (poly_product o w b) ≡ g

module _ {A : Type 0} (o : Ops A) (L : RingLaws o) where
  open o use {add as ◌⊕◌, mul as ◌⊗◌, neg}

  infixl 60 ◌⊕◌
  infixl 70 ◌⊗◌
  combined : (a b u w v x q : A) → (u ⊕ neg (q ⊗ v)) ⊗ a ⊕ (w ⊕ neg (q ⊗ x)) ⊗ b ≡ (u ⊗ a ⊕ w ⊗ b) ⊕ neg (q ⊗ (v ⊗ a ⊕ x ⊗ b))
  combined a b u w v x q = simp (Rings.expanded, Rings.mul_neg, Rings.neg_sum, L)

  multiplied : (a b u w k : A) → k ⊗ u ⊗ a ⊕ k ⊗ w ⊗ b ≡ k ⊗ (u ⊗ a ⊕ w ⊗ b)
  multiplied a b u w k = simp (Rings.expanded, L)

module _ {A : Type 0} {c : Carrier A} (P : IsPropositional c) (R : IsRing c) where
  -- what a sum has beside its first member is the difference
  pub difference_is : (a m r : List A) → IsPolynomial c a → IsPolynomial c m → IsPolynomial c r
      → poly_sum c.ops m r ≡ a → r ≡ poly_difference c.ops a m
  difference_is a m r va vm vr e =
      ap (λ (f : Polynomial c). f.0) (Rings.sum_to_difference (polynomial_laws P R) (r, vr) (m, vm) (a, va)
      (same_polynomial P R _ _ (poly_sum_comm P R r m vr.0 vm.0 ∙ e)))

  -- what is left is the dividend less the multiple of the divisor
  pub remainder_is : (a b q r : List A) → IsPolynomial c a → IsPolynomial c b → IsDivision c a b q r
      → r ≡ poly_difference c.ops a (poly_product c.ops q b)
  remainder_is a b q r va vb D =
      difference_is a (poly_product c.ops q b) r va (poly_product_polynomial P R q b D.quotient vb) D.remainder D.identity

  -- the divisor and the remainder have the common divisors that dividend and divisor have
  pub gcd_step : (a b q r g : List A) → IsPolynomial c a → IsPolynomial c b → IsDivision c a b q r
      → IsGreatestCommonDivisor c b r g → IsGreatestCommonDivisor c a b g
  gcd_step a b q r g va vb D G = record {
    polynomial = G.polynomial;
    monic_or_zero = G.monic_or_zero;
    divides_first = subst (Divides c g) D.identity
        (divides_sum P R g (poly_product c.ops q b) r G.polynomial
        (divides_product P R g b q G.polynomial D.quotient G.divides_first) G.divides_second);
    divides_second = G.divides_first;
    greatest = λ h vh first second. G.greatest h vh second
        (subst (Divides c h) (sym (remainder_is a b q r va vb D))
        (divides_difference P R h a (poly_product c.ops q b) vh first (divides_product P R h b q vh D.quotient second)));
  }

  -- with zero, what divides a and is divided by it serves
  pub gcd_with_nil : (a g : List A) → IsPolynomial c g → IsMonic c g ⊎ (g ≡ []) → Divides c g a → Divides c a g
      → IsGreatestCommonDivisor c a [] g
  gcd_with_nil a g vg m first back = record {
    polynomial = vg;
    monic_or_zero = m;
    divides_first = first;
    divides_second = divides_nil P R g;
    greatest = λ h vh e f. divides_transitive P R h a g vh e back;
  }

  pub combines_step : (a b u w g v x h q r : List A)
      → IsPolynomial c a → IsPolynomial c b → IsPolynomial c u → IsPolynomial c w → IsPolynomial c v → IsPolynomial c x → IsPolynomial c g → IsPolynomial c h
      → Combines c.ops a b u w g → Combines c.ops a b v x h → IsDivision c g h q r
      → Combines c.ops a b (poly_difference c.ops u (poly_product c.ops q v)) (poly_difference c.ops w (poly_product c.ops q x)) r
  combines_step a b u w g v x h q r va vb vu vw vv vx vg vh k l D = record {
    identity =
        ap (λ (f : Polynomial c). f.0)
        (combined (polynomial_ops P R) (polynomial_laws P R) (a, va) (b, vb) (u, vu) (w, vw) (v, vv) (x, vx) (q, D.quotient))
        ∙ ap₂ (λ s t. poly_difference c.ops s (poly_product c.ops q t)) k.identity l.identity
        ∙ sym (remainder_is g h q r vg vh D);
  }

  pub combines_multiple : (a b u w g k : List A)
      → IsPolynomial c a → IsPolynomial c b → IsPolynomial c u → IsPolynomial c w → IsPolynomial c k → Combines c.ops a b u w g
      → Combines c.ops a b (poly_product c.ops k u) (poly_product c.ops k w) (poly_product c.ops k g)
  combines_multiple a b u w g k va vb vu vw vk h = record {
    identity =
        ap (λ (f : Polynomial c). f.0) (multiplied (polynomial_ops P R) (polynomial_laws P R) (a, va) (b, vb) (u, vu) (w, vw) (k, vk))
        ∙ ap (poly_product c.ops k) h.identity;
  }

  pub combines_first : (a b : List A) → IsPolynomial c a → Combines c.ops a b (trim c.ops (c.ops.one ∷ [])) [] a
  combines_first a b va = record {
    identity = ap (λ w. poly_sum c.ops w []) (one_poly_product P R a va) ∙ ap (trim c.ops) (sum_nil c.ops a) ∙ va.1;
  }

  pub combines_second : (a b : List A) → IsPolynomial c b → Combines c.ops a b [] (trim c.ops (c.ops.one ∷ [])) b
  combines_second a b vb = record {
    identity = ap (poly_sum c.ops []) (one_poly_product P R b vb) ∙ vb.1;
  }

-- ---- over a field
module _ {A : Type 0} {c : Carrier A} (P : IsPropositional c) (F : IsField c) where
  -- how long quotient and remainder are
  pub record Sizes (a b q r : List A) : Type 0 where
    pub quotient : length q ≤ length a + 1 - length b
    pub remainder : length r ≤ length a

  pub division_sizes : (a b q r : List A) → IsPolynomial c a → IsPolynomial c b → IsDivision c a b q r → Sizes a b q r
  division_sizes a b q r va vb D = ⊎_elim none some (nil_or_not q)
    where
      none : q ≡ [] → Sizes a b q r
      none e =
          let same : r ≡ a = sym D.remainder.1 ∙ sym (ap (λ s. poly_sum c.ops (poly_product c.ops s b) r) e) ∙ D.identity in
          record { quotient = omega (arith, ap length e); remainder = omega (arith, ap length same) }

      some : q ≢ [] → Sizes a b q r
      some h =
          let m = poly_product c.ops q b in
          let vm = poly_product_polynomial P F.ring q b D.quotient vb in
          let product : length m + 1 ≡ length q + length b =
          length_poly_product P F q b D.quotient vb h (not_nil_from_length b (omega (arith, D.smaller))) in
          let difference : m ≡ poly_difference c.ops a r =
          ap (λ (f : Polynomial c). f.0) (Rings.sum_to_difference (polynomial_laws P F.ring) (m, vm) (r, D.remainder) (a, va)
          (same_polynomial P F.ring _ _ D.identity)) in
          let bound : length m ≤ max (length a) (length r) = omega (arith, ap length difference, length_poly_difference c.ops a r) in
          let some : 0 < length q = length_not_nil q h in
          record { quotient = omega (arith, D.smaller); remainder = omega (arith, D.smaller) }

  pub length_product_le : (f g : List A) → IsPolynomial c f → IsPolynomial c g → length (poly_product c.ops f g) ≤ length f + length g - 1
  length_product_le f g vf vg = ⊎_elim
      (λ e. omega (arith, ap (λ w. length (poly_product c.ops w g)) e))
      (λ hf. ⊎_elim
      (λ e. omega (arith, ap (λ w. length (poly_product c.ops f w)) e, ap (λ w. length (trim c.ops w)) (product_nil c.ops f)))
      (λ hg. omega (arith, length_poly_product P F f g vf vg hf hg))
      (nil_or_not g))
      (nil_or_not f)

  pub length_nil_product : (f g : List A) → length f ≡ 0 → length (poly_product c.ops f g) ≡ 0
  length_nil_product f g h = ap (λ w. length (poly_product c.ops w g)) (nil_from_length f h)

  pub length_product_nil : (f g : List A) → length g ≡ 0 → length (poly_product c.ops f g) ≡ 0
  length_product_nil f g h =
      ap (λ w. length (poly_product c.ops f w)) (nil_from_length g h) ∙ ap (λ w. length (trim c.ops w)) (product_nil c.ops f)

  -- times the inverse of its last coefficient a polynomial is monic, and has the same divisors and multiples
  module _ (g k : List A) (i : A) (vg : IsPolynomial c g) (not_zero : g ≢ []) (vi : c.Valid i)
      (inverse : c.ops.mul (leading c.ops g) i ≡ c.ops.one) (constant : k ≡ trim c.ops (i ∷ [])) where
    l : A
    l = leading c.ops g

    vl : c.Valid (leading c.ops g)
    vl = leading_valid F.ring g vg.0

    i_not_zero : i ≢ c.ops.zero
    i_not_zero z = F.one_not_zero (sym inverse ∙ ap (c.ops.mul (leading c.ops g)) z
        ∙ ap (underlying c) (Rings.mul_zero (element_laws P F.ring) (leading c.ops g, vl)))

    k_is : k ≡ i ∷ []
    k_is = constant ∙ constant_trimmed P F.ring i vi i_not_zero

    one_place : (x : A) → c.Valid x → IsPolynomial c (trim c.ops (x ∷ []))
    one_place x v = trim_polynomial P F.ring (x ∷ []) (All-cons c.Valid x [] v (All-nil c.Valid))

    pub multiplier_polynomial : IsPolynomial c k
    multiplier_polynomial = subst (IsPolynomial c) (sym constant) (one_place i vi)

    pub multiple_monic : IsMonic c (poly_product c.ops k g)
    multiple_monic = leading_poly_product P F k g multiplier_polynomial vg ∙ ap (λ w. c.ops.mul (leading c.ops w) (leading c.ops g)) k_is
        ∙ F.ring.mul_comm i (leading c.ops g) vi vl ∙ inverse

    inverse_is : trim c.ops (leading c.ops g ∷ []) ≡ leading c.ops g ∷ []
    inverse_is = constant_trimmed P F.ring (leading c.ops g) vl (leading_not_zero P F.ring g vg not_zero)

    unit : poly_product c.ops (leading c.ops g ∷ []) k ≡ trim c.ops (c.ops.one ∷ [])
    unit = ap (poly_product c.ops (leading c.ops g ∷ [])) k_is ∙ ap (λ w. trim c.ops (w ∷ [])) inverse

    v : IsPolynomial c (leading c.ops g ∷ [])
    v = subst (IsPolynomial c) inverse_is (one_place (leading c.ops g) vl)

    pub multiple_divides : Divides c (poly_product c.ops k g) g
    multiple_divides = (
      leading c.ops g ∷ [],
      v,
      sym (poly_product_assoc P F.ring (leading c.ops g ∷ []) k g v.0 multiplier_polynomial.0 vg.0)
          ∙ ap (λ w. poly_product c.ops w g) unit ∙ one_poly_product P F.ring g vg,
    )

    -- so it is the greatest common divisor with zero
    pub multiple_gcd : IsGreatestCommonDivisor c g [] (poly_product c.ops k g)
    multiple_gcd = gcd_with_nil P F.ring g (poly_product c.ops k g) (poly_product_polynomial P F.ring k g multiplier_polynomial vg)
        (inl multiple_monic) multiple_divides (divides_multiple P F.ring k g multiplier_polynomial)

-- ---- how long the factors get that make the remainders of a and b: u and w for one remainder, v and x for the next
pub record Short (a b u w g v x h : ℕ) : Type 0 where
  pub first : u ≤ max 1 (b - g)
  pub second : w ≤ max 1 (a - g)
  pub first_before : u ≤ b + 1 - h
  pub second_before : w ≤ a + 1 - h
  pub first_after : v ≤ b + 1 - g
  pub second_after : x ≤ a + 1 - g
  pub falling : (h < g) ⊎ ((v ≤ 1) × (x ≤ 1))

pub short_start : (a b u w g v x h : ℕ) → u ≡ 1 → w ≡ 0 → g ≡ a → v ≡ 0 → x ≡ 1 → h ≡ b → Short a b u w g v x h
short_start a b u w g v x h eu ew eg ev ex eh = record {
  first = omega arith;
  second = omega arith;
  first_before = omega arith;
  second_before = omega arith;
  first_after = omega arith;
  second_after = omega arith;
  falling = inr (omega arith, omega arith);
}

-- q times v is as long as this says, and so is q times x
pub record Times (q v m : ℕ) : Type 0 where
  pub bound : m ≤ q + v - 1
  pub nil_first : q ≡ 0 → m ≡ 0
  pub nil_second : v ≡ 0 → m ≡ 0

pub short_step : (a b u w g v x h q r m n y z : ℕ) → Short a b u w g v x h → 0 < h → q ≤ g + 1 - h → r < h → r ≤ g
    → Times q v m → Times q x n → y ≤ max u m → z ≤ max w n → Short a b v x h y z r
short_step a b u w g v x h q r m n y z k above quotient smaller shorter tm tn ym zn = record {
  first = ⊎_elim (λ f. omega (arith, k.first_after)) (λ f. omega (arith, f.0)) k.falling;
  second = ⊎_elim (λ f. omega (arith, k.second_after)) (λ f. omega (arith, f.1)) k.falling;
  first_before = omega (arith, k.first_after);
  second_before = omega (arith, k.second_after);
  first_after = bound b u v m y k.first_before k.first_after tm ym;
  second_after = bound a w x n z k.second_before k.second_after tn zn;
  falling = inl smaller;
}
  where
    bound : (b u v m y : ℕ) → u ≤ b + 1 - h → v ≤ b + 1 - g → Times q v m → y ≤ max u m → y ≤ b + 1 - h
    bound b u v m y before after t l =
        let multiple : m ≤ b + 1 - h = ⊎_elim
        (λ e. omega (arith, t.nil_first e))
        (λ some_quotient. ⊎_elim
        (λ e. omega (arith, t.nil_second e))
        (λ some_factor. omega (arith, t.bound))
        (cases_eq v 0))
        (cases_eq q 0) in
        omega arith

pub short_room : (n a b u w g v x h : ℕ) → Short a b u w g v x h → 0 < h → a ≤ n → b ≤ n → g ≤ n
    → (g + 1 - h + v ≤ n + 1) × (g + 1 - h + x ≤ n + 1)
short_room n a b u w g v x h k above la lb lg = (omega (arith, k.first_after), omega (arith, k.second_after))
