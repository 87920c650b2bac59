-- Each polynomial is the value at x of its own coefficients, taken as constants.
use Rattle.std.proofs.Common.{◌≡◌, List, [], ◌∷◌, map, All, refl, ap, ap₂, sym, ◌∙◌}
use Rattle.alg_model.specs.Coefficients.{Ops, Carrier}
use Rattle.alg_model.specs.Polynomials.{sum, scale, shift, product, trim, poly_sum, poly_product, evaluate}
use Rattle.alg_model.specs.Fields.{IsRing}
use Rattle.alg_rings.specs.Laws.{RingLaws, IsPropositional}
use Rattle.alg_rings.proofs.Lists
use Rattle.alg_rings.proofs.Trims
use Rattle.alg_rings.proofs.Homomorphisms.{trim-map, poly_sum-map, poly_product-map}
use Rattle.alg_rings.proofs.Elements.{Element, underlying, underlying_valid, elements, elements_are, on_elements}
use Rattle.alg_rings.proofs.Divisors.{Polynomial, same_polynomial, on_polynomials}
use Rattle.alg_fields.proofs.Classes.{class_of}
use Rattle.alg_fields.proofs.Constants.{constant}

module _ {A : Type 0} {o : Ops A} (R : RingLaws o) where
  open o use {zero as O, one as I}

  -- x * f
  pub product_with_x : (f : List A) → product o (O ∷ I ∷ []) f ≡ shift o f
  product_with_x f =
      ap (λ w. sum o (scale o O f) (shift o w)) (Lists.one_product R f) ∙ Lists.sum_zeros R f (shift o f) (Lists.length_le_shift o f)

  trim_cons : (a : A) (f : List A) → trim o (a ∷ f) ≡ poly_sum o (trim o (a ∷ [])) (poly_product o (trim o (O ∷ I ∷ [])) (trim o f))
  trim_cons a f =
      sym (Trims.trim_sum_same R (trim o (a ∷ [])) (a ∷ []) (poly_product o (trim o (O ∷ I ∷ [])) (trim o f)) (product o (O ∷ I ∷ []) f)
      (Trims.trim_trim o R.zero_test (a ∷ []))
      (Trims.trim_trim o R.zero_test (product o (trim o (O ∷ I ∷ [])) (trim o f))
      ∙ Trims.trim_product_same R (trim o (O ∷ I ∷ [])) (O ∷ I ∷ []) (trim o f) f (Trims.trim_trim o R.zero_test (O ∷ I ∷ [])) (Trims.trim_trim o R.zero_test f))
      ∙ ap (λ w. trim o (sum o (a ∷ []) w)) (product_with_x f)
      ∙ ap (trim o) (Lists.sum_cons_shift R a [] f))

module _ {A : Type 0} {c : Carrier A} (P : IsPropositional c) (R : IsRing c) where
  open on_elements P R use {ops as E, laws as L, value as H}
  open on_polynomials P R use {ops as Q}

  -- the polynomial of a list of elements
  abbrev polynomial_from : List (Element c) → Polynomial c
  polynomial_from F = class_of P R (map (underlying c) F) (underlying_valid c F)

  abbrev pub generator : Polynomial c
  generator = class_of P R (c.ops.zero ∷ c.ops.one ∷ []) (underlying_valid c (E.zero ∷ E.one ∷ []))

  polynomial_from_cons : (a : Element c) (F : List (Element c)) → polynomial_from (a ∷ F) ≡ Q.add (constant P R a) (Q.mul generator (polynomial_from F))
  polynomial_from_cons a F = same_polynomial P R (polynomial_from (a ∷ F)) (Q.add (constant P R a) (Q.mul generator (polynomial_from F)))
      (sym (trim-map H (a ∷ F)) ∙ ap (map (underlying c)) (trim_cons L a F)
      ∙ poly_sum-map H (trim E (a ∷ [])) (poly_product E (trim E (E.zero ∷ E.one ∷ [])) (trim E F))
      ∙ ap₂ (poly_sum c.ops) (trim-map H (a ∷ []))
      (poly_product-map H (trim E (E.zero ∷ E.one ∷ [])) (trim E F)
      ∙ ap₂ (poly_product c.ops) (trim-map H (E.zero ∷ E.one ∷ [])) (trim-map H F)))

  -- **the polynomial of a list of coefficients is their value at x**
  pub value_at_generator : (F : List (Element c)) (v : All c.Valid (map (underlying c) F))
      → evaluate Q (map (constant P R) F) generator ≡ class_of P R (map (underlying c) F) v
  value_at_generator [] v = same_polynomial P R Q.zero (class_of P R [] v) refl
  value_at_generator (a ∷ F) v =
      ap (λ w. Q.add (constant P R a) (Q.mul generator w)) (value_at_generator F (underlying_valid c F)) ∙ sym (polynomial_from_cons a F)
      ∙ same_polynomial P R (polynomial_from (a ∷ F)) (class_of P R (map (underlying c) (a ∷ F)) v) refl

  -- **f is the value at x of its coefficients**
  pub polynomial_is_value : (f : Polynomial c) → evaluate Q (map (constant P R) (elements c f.0 f.1.0)) generator ≡ f
  polynomial_is_value f =
      value_at_generator (elements c f.0 f.1.0) (underlying_valid c (elements c f.0 f.1.0))
      ∙ same_polynomial P R (polynomial_from (elements c f.0 f.1.0)) f (ap (trim c.ops) (elements_are c f.0 f.1.0) ∙ f.1.1)
