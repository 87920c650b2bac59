-- Polynomials over a carrier c at the members of a field A that c's elements map to.
--     coefficients f        the coefficients of f as elements
--     evaluate_by c h o f a      the value of f at a, with coefficients taken to A by h
--     polynomial_of F       the polynomial with the coefficients F
use Rattle.std.proofs.Common.{◌≡◌, ◌≢◌, List, length, map, ap, ap₂, sym, ◌∙◌}
use Rattle.std.proofs.lemmas.List.{length-map}
use Rattle.alg_model.specs.Coefficients.{Ops, Carrier}
use Rattle.alg_model.specs.Polynomials.{evaluate, leading, poly_sum, poly_product, sum, product}
use Rattle.alg_model.specs.Fields.{IsRing}
use Rattle.alg_rings.specs.Laws.{RingLaws, IsPropositional}
use Rattle.alg_rings.proofs.Trims
use Rattle.alg_rings.proofs.Elements.{Element, underlying, element_ops, element_laws, underlying_lists_injective, elements, elements_are, underlying_valid, on_elements}
use Rattle.alg_rings.proofs.Homomorphisms.{Homomorphism, trim-map, poly_sum-map, poly_product-map, leading-map}
use Rattle.alg_rings.proofs.Divisors.{Polynomial, on_polynomials}
use Rattle.alg_rings.proofs.Evaluation

-- the coefficients with their validity
abbrev pub coefficients : {A : Type 0} (c : Carrier A) → Polynomial c → List (Element c)
coefficients c f = elements c f.0 f.1.0

-- the value at a of f's coefficients, taken to A
abbrev pub evaluate_by : {X A : Type 0} (c : Carrier X) (h : Element c → A) (o : Ops A) → Polynomial c
    → A → A
evaluate_by c h o f a = evaluate o (map h (coefficients c f)) a

module _ {X : Type 0} {c : Carrier X} (P : IsPropositional c) (R : IsRing c) where
  open on_elements P R use {ops as E, value as V}
  open on_polynomials P R use {ops as Q}

  -- as many as the polynomial has
  pub length_coefficients : (f : Polynomial c) → length (coefficients c f) ≡ length f.0
  length_coefficients f = sym (length-map (coefficients c f) (underlying c))
      ∙ ap length (elements_are c f.0 f.1.0)

  -- the last of them is the polynomial's
  pub leading_coefficients : (f : Polynomial c)
      → (leading (element_ops R) (coefficients c f)).0 ≡ leading c.ops f.0
  leading_coefficients f = leading-map V (coefficients c f)
      ∙ ap (leading c.ops) (elements_are c f.0 f.1.0)

  -- a sum has the sums of coefficients
  pub coefficients_sum : (f g : Polynomial c)
      → coefficients c (Q.add f g) ≡ poly_sum (element_ops R) (coefficients c f) (coefficients c g)
  coefficients_sum f g = underlying_lists_injective P _ _
      (elements_are c _ _ ∙ sym (poly_sum-map V (coefficients c f) (coefficients c g)
      ∙ ap₂ (poly_sum c.ops) (elements_are c f.0 f.1.0) (elements_are c g.0 g.1.0)))

  -- a product has the coefficients of the product
  pub coefficients_product : (f g : Polynomial c)
      → coefficients c (Q.mul f g)
      ≡ poly_product (element_ops R) (coefficients c f) (coefficients c g)
  coefficients_product f g = underlying_lists_injective P _ _
      (elements_are c _ _ ∙ sym (poly_product-map V (coefficients c f) (coefficients c g)
      ∙ ap₂ (poly_product c.ops) (elements_are c f.0 f.1.0) (elements_are c g.0 g.1.0)))

  -- ---- the polynomial with given coefficients, the last of them not zero
  module _ (F : List (Element c)) (l : leading (element_ops R) F ≢ (element_ops R).zero) where
    -- as a polynomial
    abbrev pub polynomial_of : Polynomial c
    polynomial_of = (
      map (underlying c) F,
      (
        underlying_valid c F,
        sym (trim-map V F)
            ∙ ap (map (underlying c)) (Trims.trimmed_from_leading E (element_laws P R).zero_test F l),
      ),
    )

    -- which has them for its coefficients
    pub coefficients_of : coefficients c polynomial_of ≡ F
    coefficients_of = underlying_lists_injective P _ _ (elements_are c polynomial_of.0 polynomial_of.1.0)

  -- ---- values
  module _ {A : Type 0} {o : Ops A} (L : RingLaws o) {h : Element c → A}
      (H : Homomorphism (element_ops R) o h) (a : A) where
    -- the value of a sum is the sum of values
    pub evaluate_sum : (f g : Polynomial c)
        → evaluate_by c h o (Q.add f g) a ≡ o.add (evaluate_by c h o f a) (evaluate_by c h o g a)
    evaluate_sum f g =
        ap (λ w. evaluate o (map h w) a) (coefficients_sum f g)
        ∙ ap (λ w. evaluate o w a) (poly_sum-map H (coefficients c f) (coefficients c g))
        ∙ Evaluation.value_of_trim L (sum o (map h (coefficients c f)) (map h (coefficients c g))) a
        ∙ Evaluation.value_of_sum L (map h (coefficients c f)) (map h (coefficients c g)) a

    -- the value of a product is the product of values
    pub evaluate_product : (f g : Polynomial c)
        → evaluate_by c h o (Q.mul f g) a ≡ o.mul (evaluate_by c h o f a) (evaluate_by c h o g a)
    evaluate_product f g =
        ap (λ w. evaluate o (map h w) a) (coefficients_product f g)
        ∙ ap (λ w. evaluate o w a) (poly_product-map H (coefficients c f) (coefficients c g))
        ∙ Evaluation.value_of_trim L (product o (map h (coefficients c f)) (map h (coefficients c g))) a
        ∙ Evaluation.value_of_product L (map h (coefficients c f)) (map h (coefficients c g)) a
