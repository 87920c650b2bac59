-- Divisors of polynomials: over a ring they behave as in any ring; over a field division with remainder has one result, and d
-- divides f exactly if the remainder is empty.
use Rattle.std.proofs.Common.{◌≡◌, ◌≢◌, ◌⊎◌, ◌↔◌, ℕ, zero, suc, ◌+◌, ◌<◌, ◌≤◌, List, [], ◌∷◌, map, length, refl, ap, ap₂, sym, ◌∙◌, subst, arith, inl, inr, ⊎_elim}
use Rattle.std.proofs.lemmas.List.{length-map}
use Rattle.alg_model.specs.Coefficients.{Ops, Carrier, power}
use Rattle.alg_model.specs.Polynomials.{trim, poly_sum, poly_negative, poly_difference, poly_product, poly_power, leading}
use Rattle.alg_model.specs.Factors.{IsPolynomial, Divides, IsDivision}
use Rattle.alg_model.specs.Fields.{IsRing, IsField}
use Rattle.alg_rings.specs.Laws.{RingLaws, IsPropositional, polynomials}
use Rattle.alg_rings.proofs.Rings
use Rattle.alg_rings.proofs.Lists.{sum_nil, product_nil, nil_or_not, length_not_nil, not_nil_from_length}
use Rattle.alg_rings.proofs.Trims.{length_poly_difference}
use Rattle.alg_rings.proofs.Division
use Rattle.alg_rings.proofs.Homomorphisms.{poly_sum-map, poly_product-map, trim-map, leading-map}
use Rattle.alg_rings.proofs.CarrierPolynomials.{nil_polynomial, one_polynomial, one_poly_product, poly_product_polynomial, poly_product_assoc, poly_sum_polynomial, poly_negative_polynomial, trimmed_elements, polynomials_ring, polynomials_propositional, poly_difference_polynomial}
use Rattle.alg_rings.proofs.Elements.{Element, underlying, element_ops, underlying_homomorphism, underlying_injective, on_valid₂, underlying_valid, element_laws, element_field}

-- the polynomials over c with their validity: every law of a ring holds of them with no premise
abbrev pub Polynomial : {A : Type 0} → Carrier A → Type 0
Polynomial c = Element (polynomials c)

module _ {A : Type 0} {c : Carrier A} (P : IsPropositional c) (R : IsRing c) where
  abbrev pub polynomial_ops : Ops (Polynomial c)
  polynomial_ops = element_ops (polynomials_ring P R)

  abbrev pub polynomial_laws : RingLaws (element_ops (polynomials_ring P R))
  polynomial_laws = element_laws (polynomials_propositional P) (polynomials_ring P R)

  abbrev value_of : Polynomial c → List A
  value_of f = f.0

  pub same_polynomial : (f g : Polynomial c) → f.0 ≡ g.0 → f ≡ g
  same_polynomial f g e = underlying_injective (polynomials_propositional P) f g e

  -- powers in the ring of polynomials
  pub power_is : (f : Polynomial c) (n : ℕ) → (power polynomial_ops f n).0 ≡ poly_power c.ops f.0 n
  power_is f zero = refl
  power_is f (suc n) = ap (λ w. poly_product c.ops w f.0) (power_is f n)

  -- ---- divisors in a ring
  pub divides_itself : (f : List A) → IsPolynomial c f → Divides c f f
  divides_itself f vf = (trim c.ops (c.ops.one ∷ []), one_polynomial P R, one_poly_product P R f vf)

  pub divides_nil : (f : List A) → Divides c f []
  divides_nil f = ([], nil_polynomial P R, refl)

  pub divides_multiple : (h f : List A) → IsPolynomial c h → Divides c f (poly_product c.ops h f)
  divides_multiple h f vh = (h, vh, refl)

  pub divides_transitive : (f g h : List A) → IsPolynomial c f → Divides c f g → Divides c g h → Divides c f h
  divides_transitive f g h vf d e = (
    poly_product c.ops e.0 d.0,
    poly_product_polynomial P R e.0 d.0 e.1 d.1,
    poly_product_assoc P R e.0 d.0 f e.1.0 d.1.0 vf.0 ∙ ap (poly_product c.ops e.0) d.2 ∙ e.2,
  )

  pub divides_product : (d f h : List A) → IsPolynomial c d → IsPolynomial c h → Divides c d f → Divides c d (poly_product c.ops h f)
  divides_product d f h vd vh e = divides_transitive d f (poly_product c.ops h f) vd e (divides_multiple h f vh)

  pub divides_sum : (d f g : List A) → IsPolynomial c d → Divides c d f → Divides c d g → Divides c d (poly_sum c.ops f g)
  divides_sum d f g vd e e' = (
    poly_sum c.ops e.0 e'.0,
    poly_sum_polynomial P R e.0 e'.0 e.1 e'.1,
    ap value_of (Rings.add_mul polynomial_laws (e.0, e.1) (e'.0, e'.1) (d, vd)) ∙ ap₂ (poly_sum c.ops) e.2 e'.2,
  )

  pub divides_negative : (d f : List A) → IsPolynomial c d → Divides c d f → Divides c d (poly_negative c.ops f)
  divides_negative d f vd e = (
    poly_negative c.ops e.0,
    poly_negative_polynomial P R e.0 e.1,
    ap value_of (Rings.neg_mul polynomial_laws (e.0, e.1) (d, vd)) ∙ ap (poly_negative c.ops) e.2,
  )

  pub divides_difference : (d f g : List A) → IsPolynomial c d → Divides c d f → Divides c d g → Divides c d (poly_difference c.ops f g)
  divides_difference d f g vd e e' = divides_sum d f (poly_negative c.ops g) vd e (divides_negative d g vd e')

  pub divided_is_polynomial : (d f : List A) → IsPolynomial c d → Divides c d f → IsPolynomial c f
  divided_is_polynomial d f vd e = subst (IsPolynomial c) e.2 (poly_product_polynomial P R e.0 d e.1 vd)

-- the polynomials over a carrier as one value, of which a section opens what it speaks of under
-- short names
pub record OnPolynomials {A : Type 0} (c : Carrier A) : Type 0 where
  pub ops : Ops (Polynomial c)
  pub laws : RingLaws ops

abbrev pub on_polynomials : {A : Type 0} {c : Carrier A} → IsPropositional c → IsRing c
    → OnPolynomials c
on_polynomials P R = record { ops = polynomial_ops P R; laws = polynomial_laws P R }

-- ---- over a field
module _ {A : Type 0} {c : Carrier A} (P : IsPropositional c) (F : IsField c) where
  pub length_poly_product : (f g : List A) → IsPolynomial c f → IsPolynomial c g → f ≢ [] → g ≢ []
      → length (poly_product c.ops f g) + 1 ≡ length f + length g
  length_poly_product f g vf vg = on_valid₂ c (λ f g. trim c.ops f ≡ f → trim c.ops g ≡ g → f ≢ [] → g ≢ []
      → length (poly_product c.ops f g) + 1 ≡ length f + length g)
      (λ X Y ex ey hx hy. let H = underlying_homomorphism F.ring in
      omega (
        arith,
        Division.length_poly_product (element_field P F) X Y (trimmed_elements P F.ring X ex) (trimmed_elements P F.ring Y ey)
            (λ z. hx (ap (map (underlying c)) z)) (λ z. hy (ap (map (underlying c)) z)),
        ap length (poly_product-map H X Y),
        length-map X (underlying c),
        length-map Y (underlying c),
        length-map (poly_product (element_ops F.ring) X Y) (underlying c),
      ))
      f g vf.0 vg.0 vf.1 vg.1

  pub leading_poly_product : (f g : List A) → IsPolynomial c f → IsPolynomial c g
      → leading c.ops (poly_product c.ops f g) ≡ c.ops.mul (leading c.ops f) (leading c.ops g)
  leading_poly_product f g vf vg = on_valid₂ c (λ f g. trim c.ops f ≡ f → trim c.ops g ≡ g
      → leading c.ops (poly_product c.ops f g) ≡ c.ops.mul (leading c.ops f) (leading c.ops g))
      (λ X Y ex ey. let H = underlying_homomorphism F.ring in
      ap (leading c.ops) (sym (poly_product-map H X Y)) ∙ sym (leading-map H (poly_product (element_ops F.ring) X Y))
      ∙ ap (underlying c) (Division.leading_poly_product (element_field P F) X Y (trimmed_elements P F.ring X ex) (trimmed_elements P F.ring Y ey))
      ∙ ap₂ c.ops.mul (leading-map H X) (leading-map H Y))
      f g vf.0 vg.0 vf.1 vg.1

  pub nil_from_product : (f g : List A) → IsPolynomial c f → IsPolynomial c g → poly_product c.ops f g ≡ [] → (f ≡ []) ⊎ (g ≡ [])
  nil_from_product f g vf vg e = ⊎_elim (λ z. inl z)
      (λ hf. ⊎_elim (λ z. inr z)
      (λ hg. absurd (omega (arith, length_poly_product f g vf vg hf hg, ap length e, length_not_nil f hf, length_not_nil g hg)))
      (nil_or_not g))
      (nil_or_not f)

  -- a divisor isn't longer than what it divides
  pub length_divisor : (d f : List A) → IsPolynomial c d → f ≢ [] → Divides c d f → length d ≤ length f
  length_divisor d f vd h e =
      let hq : e.0 ≢ [] = λ z. h (sym e.2 ∙ ap (λ w. poly_product c.ops w d) z) in
      let hd : d ≢ [] = λ z. h (sym e.2 ∙ ap (poly_product c.ops e.0) z ∙ ap (trim c.ops) (product_nil c.ops e.0)) in
      omega (arith, length_poly_product e.0 d e.1 vd hq hd, ap length e.2, length_not_nil e.0 hq)

  -- ---- division with remainder
  division_values : (X D Q S : List (Element c)) → trim c.ops (map (underlying c) X) ≡ map (underlying c) X
      → Division.Division (element_field P F) X D Q S → IsDivision c (map (underlying c) X) (map (underlying c) D) (map (underlying c) Q) (map (underlying c) S)
  division_values X D Q S e d = let H = underlying_homomorphism F.ring in record {
    quotient = (underlying_valid c Q, sym (trim-map H Q) ∙ ap (map (underlying c)) d.quotient);
    remainder = (underlying_valid c S, sym (trim-map H S) ∙ ap (map (underlying c)) d.remainder);
    identity =
        ap (λ w. poly_sum c.ops w (map (underlying c) S)) (sym (poly_product-map H Q D))
        ∙ sym (poly_sum-map H (poly_product (element_ops F.ring) Q D) S)
        ∙ ap (map (underlying c)) d.identity ∙ trim-map H X ∙ e;
    smaller = omega (arith, d.smaller, length-map D (underlying c), length-map S (underlying c));
  }

  pub division : (f d : List A) → IsPolynomial c f → IsPolynomial c d → d ≢ [] → (q : List A) × (r : List A) × IsDivision c f d q r
  division f d vf vd h = on_valid₂ c
      (λ f d. trim c.ops f ≡ f → trim c.ops d ≡ d → 0 < length d → (q : List A) × (r : List A) × IsDivision c f d q r)
      (λ X D ex ed l.
      let d = Division.division (element_field P F) X D (trimmed_elements P F.ring D ed) (omega (arith, length-map D (underlying c))) in
      (map (underlying c) d.0, map (underlying c) d.1, division_values X D d.0 d.1 ex d.2))
      f d vf.0 vd.0 vf.1 vd.1 (length_not_nil d h)

  -- a multiple of d that is the difference of two lists shorter than d is zero
  short_multiple : (m d r r' : List A) → IsPolynomial c m → IsPolynomial c d → length r < length d → length r' < length d
      → poly_product c.ops m d ≡ poly_difference c.ops r' r → m ≡ []
  short_multiple m d r r' vm vd l l' e = ⊎_elim (λ z. z)
      (λ h. absurd (omega (
        arith,
        length_poly_product m d vm vd h (not_nil_from_length d (omega arith)),
        ap length e,
        length_poly_difference c.ops r' r,
        length_not_nil m h,
      )))
      (nil_or_not m)

  pub division_unique : (f d q r q' r' : List A) → IsPolynomial c d → IsDivision c f d q r → IsDivision c f d q' r'
      → (q ≡ q') × (r ≡ r')
  division_unique f d q r q' r' vd D D' =
      let L = polynomial_laws P F.ring in
      let m : poly_product c.ops (poly_difference c.ops q q') d ≡ poly_difference c.ops r' r =
      ap (underlying (polynomials c)) (Rings.difference_of_multiples L (q, D.quotient) (q', D'.quotient) (d, vd) (r, D.remainder) (r', D'.remainder)
      (same_polynomial P F.ring _ _ (D.identity ∙ sym D'.identity))) in
      let z : poly_difference c.ops q q' ≡ [] =
      short_multiple (poly_difference c.ops q q') d r r' (poly_difference_polynomial P F.ring q q' D.quotient D'.quotient) vd
      D.smaller D'.smaller m in (
        same_from_nil q q' D.quotient D'.quotient z,
        sym (same_from_nil r' r D'.remainder D.remainder (sym m ∙ ap (λ w. poly_product c.ops w d) z)),
      )
    where
      same_from_nil : (f g : List A) → IsPolynomial c f → IsPolynomial c g → poly_difference c.ops f g ≡ [] → f ≡ g
      same_from_nil f g vf vg e = ap (underlying (polynomials c))
          (Rings.same_from_difference (polynomial_laws P F.ring) (f, vf) (g, vg) (same_polynomial P F.ring _ _ e))

  no_remainder : (f d q : List A) → IsPolynomial c d → IsPolynomial c q
      → poly_sum c.ops (poly_product c.ops q d) [] ≡ poly_product c.ops q d
  no_remainder f d q vd vq =
      ap (trim c.ops) (sum_nil c.ops (poly_product c.ops q d)) ∙ (poly_product_polynomial P F.ring q d vq vd).1

  -- d divides f exactly if the remainder is empty
  pub divides_iff_no_remainder : (f d q r : List A) → IsPolynomial c d → IsDivision c f d q r → Divides c d f ↔ (r ≡ [])
  divides_iff_no_remainder f d q r vd D = (
    (λ e. (division_unique f d q r e.0 [] vd D (record {
      quotient = e.1;
      remainder = nil_polynomial P F.ring;
      identity = no_remainder f d e.0 vd e.1 ∙ e.2;
      smaller = omega (arith, D.smaller);
    })).1),
    (λ e. (
      q,
      D.quotient,
      sym (no_remainder f d q vd D.quotient) ∙ ap (poly_sum c.ops (poly_product c.ops q d)) (sym e) ∙ D.identity,
    )),
  )
