-- The derivative on the polynomials over a carrier, and powers p in characteristic p: what has derivative zero is a power p,
-- where each element has a root p.
use Rattle.std.proofs.Common.{◌≡◌, ℕ, ◌<◌, List, [], ◌∷◌, map, refl, ap, ap₂, sym, ◌∙◌, arith}
use Rattle.alg_model.specs.Coefficients.{Carrier, times, power}
use Rattle.alg_model.specs.Polynomials.{poly_sum, poly_product, derivative, evaluate}
use Rattle.alg_model.specs.Fields.{IsRing}
use Rattle.alg_model.specs.Coefficients.{IsPrime}
use Rattle.alg_rings.specs.Laws.{IsPropositional}
use Rattle.alg_rings.proofs.Homomorphisms.{poly_sum-map, poly_product-map, derivative-map}
use Rattle.alg_rings.proofs.Elements.{Element, underlying, element_ops, on_valid₂, elements, elements_are, on_elements}
use Rattle.alg_rings.proofs.CarrierPolynomials.{derivative_polynomial}
use Rattle.alg_rings.proofs.Divisors.{Polynomial, polynomial_ops, polynomial_laws, same_polynomial, on_polynomials}
use Rattle.alg_rings.proofs.Trims
use Rattle.alg_fields.proofs.Derivatives
use Rattle.alg_fields.proofs.Derivatives.{raw_derivative}
use Rattle.alg_fields.proofs.Squares
use Rattle.alg_fields.proofs.Squares.{ProductRule}
use Rattle.alg_fields.proofs.PowerRoots
use Rattle.alg_fields.proofs.PowerRoots.{every}
use Rattle.alg_fields.proofs.Generator.{generator, polynomial_is_value}
use Rattle.alg_fields.proofs.Frobenius
use Rattle.alg_fields.proofs.Derivatives.{raw_derivative}
use Rattle.alg_fields.proofs.Constants.{constant, constant_homomorphism}

module _ {A : Type 0} {c : Carrier A} (P : IsPropositional c) (R : IsRing c) where
  open on_elements P R use {ops as E, laws as L, value as H}
  open on_polynomials P R use {ops as Q}

  abbrev pub derivative_of : Polynomial c → Polynomial c
  derivative_of f = (derivative c.ops f.0, derivative_polynomial P R f.0 f.1)

  pub product_rule : ProductRule (polynomial_ops P R) derivative_of
  product_rule f g = same_polynomial P R (derivative_of (Q.mul f g)) (Q.add (Q.mul (derivative_of f) g) (Q.mul f (derivative_of g)))
      (on_valid₂ c (λ f g. derivative c.ops (poly_product c.ops f g)
      ≡ poly_sum c.ops (poly_product c.ops (derivative c.ops f) g) (poly_product c.ops f (derivative c.ops g))) at f.0 g.0 f.1.0 g.1.0)
    where
      at : (F G : List (Element c)) → derivative c.ops (poly_product c.ops (map (underlying c) F) (map (underlying c) G))
          ≡ poly_sum c.ops (poly_product c.ops (derivative c.ops (map (underlying c) F)) (map (underlying c) G))
          (poly_product c.ops (map (underlying c) F) (derivative c.ops (map (underlying c) G)))
      at F G =
          ap (derivative c.ops) (sym (poly_product-map H F G)) ∙ sym (derivative-map H (poly_product E F G))
          ∙ ap (map (underlying c)) (Derivatives.derivative_of_product L F G)
          ∙ poly_sum-map H (poly_product E (derivative E F) G) (poly_product E F (derivative E G))
          ∙ ap₂ (poly_sum c.ops)
          (poly_product-map H (derivative E F) G ∙ ap (λ d. poly_product c.ops d (map (underlying c) G)) (derivative-map H F))
          (poly_product-map H F (derivative E G) ∙ ap (poly_product c.ops (map (underlying c) F)) (derivative-map H G))

  elements_derivative : (f : Polynomial c) → derivative_of f ≡ Q.zero → derivative E (elements c f.0 f.1.0) ≡ []
  elements_derivative f e = nil_from_map (derivative E (elements c f.0 f.1.0))
      (derivative-map H (elements c f.0 f.1.0) ∙ ap (derivative c.ops) (elements_are c f.0 f.1.0) ∙ ap (λ g. g.0) e)
    where
      nil_from_map : (F : List (Element c)) → map (underlying c) F ≡ [] → F ≡ []
      nil_from_map [] e = refl
      nil_from_map (a ∷ F) e = cc

  module _ (p : ℕ) (prime : IsPrime p) (characteristic : times (element_ops R) p (element_ops R).one ≡ (element_ops R).zero) where
    pub polynomial_characteristic : times Q p Q.one ≡ Q.zero
    polynomial_characteristic = PowerRoots.image_characteristic (constant_homomorphism P R) p characteristic

    -- **f has derivative zero exactly if it is a power p**, where each element of the field has a root p
    pub root_from_derivative : (root : Element c → Element c) → ((a : Element c) → power (element_ops R) (root a) p ≡ a)
        → (f : Polynomial c) → derivative_of f ≡ Q.zero → (g : Polynomial c) × (power Q g p ≡ f)
    root_from_derivative root rooted f e =
        let F : List (Element c) = elements c f.0 f.1.0 in (
          evaluate Q (map (constant P R) (every p root 0 F)) (generator P R),
          sym (PowerRoots.power_from_derivative L (polynomial_laws P R) (constant_homomorphism P R) p prime characteristic root rooted (generator P R) F
              (λ i. Trims.places_of_trim E L.zero_test (raw_derivative E F) []
              (sym (Derivatives.derivative_is_trimmed L F) ∙ elements_derivative f e) i))
              ∙ polynomial_is_value P R f,
        )

    pub derivative_from_root : (f g : Polynomial c) → power Q g p ≡ f → derivative_of f ≡ Q.zero
    derivative_from_root f g e =
        ap derivative_of (sym e)
        ∙ Squares.derivative_of_power_characteristic (polynomial_laws P R) product_rule p (let l : 1 < p = prime.above_one in omega arith)
        (Frobenius.times_characteristic (polynomial_laws P R) p prime polynomial_characteristic) g
