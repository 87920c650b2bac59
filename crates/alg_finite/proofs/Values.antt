-- The values over a field c modulo an irreducible polynomial, as a quotient of the polynomials
-- over c: remainders, constants
-- and the generator.
use Rattle.std.proofs.Common.{◌≡◌, ◌<◌, List, [], ◌∷◌, length, map, refl, ap, ap₂, sym, ◌∙◌, All}
use Rattle.alg_model.specs.Coefficients.{Ops, Carrier}
use Rattle.alg_model.specs.Polynomials.{evaluate, trim, scale, product}
use Rattle.alg_model.specs.Factors.{IsMonic, IsIrreducible}
use Rattle.alg_model.specs.Values.{degree, padded, remainder, values}
use Rattle.alg_model.specs.Fields.{IsField}
use Rattle.alg_rings.specs.Laws.{IsPropositional, FieldLaws}
use Rattle.alg_rings.proofs.Elements.{Element, underlying, element_ops, element_field, underlying_injective, elements, elements_are, underlying_valid}
use Rattle.alg_rings.proofs.Divisors.{Polynomial, polynomial_ops, divides_itself}
use Rattle.alg_rings.proofs.Lists
use Rattle.alg_rings.proofs.Validity.{scale_valid, product_valid}
use Rattle.alg_fields.proofs.Classes
use Rattle.alg_fields.proofs.Classes.{class_of}
use Rattle.alg_fields.proofs.Constants.{constant, alone}
use Rattle.alg_fields.proofs.Generator
use Rattle.alg_fields.proofs.Remainders
use Rattle.alg_fields.proofs.ValueFields.{polynomial_of, values_propositional, values_ring, values_field}
use Rattle.alg_fields.proofs.ValueConstants.{constant_value, constant_valid}

-- a map that keeps zero, sums and products keeps the values of polynomials
pub kept_value : {A B : Type 0} (o : Ops A) (o' : Ops B) (h : A → B) → h o.zero ≡ o'.zero
    → ((x y : A) → h (o.add x y) ≡ o'.add (h x) (h y))
    → ((x y : A) → h (o.mul x y) ≡ o'.mul (h x) (h y)) → (f : List A) (a : A)
    → h (evaluate o f a) ≡ evaluate o' (map h f) (h a)
kept_value o o' h z add mul [] a = z
kept_value o o' h z add mul (x ∷ f) a =
    add x (o.mul a (evaluate o f a))
    ∙ ap (o'.add (h x)) (mul a (evaluate o f a)
    ∙ ap (o'.mul (h a)) (kept_value o o' h z add mul f a))

-- one map after another, member by member
pub map_twice : {A B C : Type 0} (g : B → C) (h : A → B) (k : A → C) → ((a : A) → g (h a) ≡ k a)
    → (f : List A) → map g (map h f) ≡ map k f
map_twice g h k e [] = refl
map_twice g h k e (a ∷ f) = ap₂ ◌∷◌ (e a) (map_twice g h k e f)

module _ {A : Type 0} {c : Carrier A} (P : IsPropositional c) (F : IsField c) (f : Polynomial c)
    (not_constant : 1 < length f.0) (monic : IsMonic c f.0) where
  abbrev Q : Ops (Polynomial c)
  Q = polynomial_ops P F.ring

  -- the operations of the values
  abbrev pub value_element_ops : Ops (Element (values c f.0))
  value_element_ops = element_ops (values_ring P F f not_constant monic)

  -- the values modulo an irreducible f as a field, with the ring of the values
  abbrev pub values_field_over : IsIrreducible c f.0 → IsField (values c f.0)
  values_field_over i = record {
    ring = values_ring P F f not_constant monic;
    one_not_zero = (values_field P F f not_constant monic i).one_not_zero;
    inverse = (values_field P F f not_constant monic i).inverse;
  }

  -- the laws of a field on them
  abbrev pub value_laws : IsIrreducible c f.0 → FieldLaws value_element_ops
  value_laws i = element_field (values_propositional P f.0) (values_field_over i)

  -- values with one list are equal
  pub same_value : (x y : Element (values c f.0)) → x.0 ≡ y.0 → x ≡ y
  same_value x y e = underlying_injective (values_propositional P f.0) x y e

  -- ---- remainders
  abbrev pub remainder_element : Polynomial c → Element (values c f.0)
  remainder_element a = (remainder c.ops f.0 a.0, Remainders.remainder_value P F f not_constant monic a)

  -- the remainder of a sum
  pub remainder_add : (a b : Polynomial c)
      → remainder_element (Q.add a b) ≡ value_element_ops.add (remainder_element a) (remainder_element b)
  remainder_add a b = same_value _ _ (Remainders.remainder_sum P F f not_constant monic a b)

  -- the remainder of a product
  pub remainder_mul : (a b : Polynomial c)
      → remainder_element (Q.mul a b) ≡ value_element_ops.mul (remainder_element a) (remainder_element b)
  remainder_mul a b = same_value _ _ (Remainders.remainder_product P F f not_constant monic a b)

  -- the remainder of zero
  pub remainder_zero : remainder_element Q.zero ≡ value_element_ops.zero
  remainder_zero = same_value _ _ refl

  -- ---- constants
  -- a constant is its own remainder
  pub remainder_constant : (a : Element c)
      → remainder_element (constant P F.ring a) ≡ constant_value P F f not_constant monic a
  remainder_constant a = same_value _ _
      (ap (remainder c.ops f.0) (sym
      (ap (λ g. g.0) (Classes.class_of_padded P F.ring (degree f.0) (a.0 ∷ []) (alone P F.ring a)
      (constant_valid P F f not_constant monic a).0)))
      ∙ Remainders.remainder_of_value P F f not_constant monic (padded c.ops (degree f.0) (a.0 ∷ []))
      (constant_valid P F f not_constant monic a))

  -- ---- the generator
  abbrev pub generator_element : Element (values c f.0)
  generator_element = remainder_element (Generator.generator P F.ring)

  abbrev coefficients : Polynomial c → List (Element c)
  coefficients g = elements c g.0 g.1.0

  -- **the remainder of g is the value of g at the generator**
  pub value_at_generator_element : (g : Polynomial c)
      → evaluate value_element_ops (map (constant_value P F f not_constant monic) (coefficients g))
      generator_element
      ≡ remainder_element g
  value_at_generator_element g =
      ap (λ w. evaluate value_element_ops w generator_element)
      (sym (map_twice remainder_element (constant P F.ring)
      (constant_value P F f not_constant monic) remainder_constant (coefficients g)))
      ∙ sym (kept_value Q value_element_ops remainder_element remainder_zero remainder_add remainder_mul
      (map (constant P F.ring) (coefficients g)) (Generator.generator P F.ring))
      ∙ ap remainder_element (Generator.polynomial_is_value P F.ring g)

  -- **the generator is a root of f**
  pub generator_is_root : evaluate value_element_ops
      (map (constant_value P F f not_constant monic) (coefficients f)) generator_element
      ≡ value_element_ops.zero
  generator_is_root = value_at_generator_element f
      ∙ same_value _ _ ((Remainders.divides_iff_remainder_zero P F f not_constant monic f).0
      (divides_itself P F.ring f.0 f.1))

  -- each value is a polynomial in the generator
  pub value_from_generator : (v : Element (values c f.0))
      → (g : List (Element c))
      × (evaluate value_element_ops (map (constant_value P F f not_constant monic) g)
      generator_element ≡ v)
  value_from_generator v =
      let g : Polynomial c = polynomial_of P F f not_constant monic v.0 v.1 in (
        coefficients g,
        value_at_generator_element g
            ∙ same_value _ _ (Remainders.remainder_of_value P F f not_constant monic v.0 v.1),
      )

  -- a constant times a value is the value's multiple, place by place
  pub constant_times : (a : Element c) (v : Element (values c f.0))
      → (value_element_ops.mul (constant_value P F f not_constant monic a) v).0
      ≡ scale c.ops a.0 v.0
  constant_times a v =
      ap (λ w. w.0) (ap₂ value_element_ops.mul (sym (remainder_constant a)) (sym v_is)
      ∙ sym (remainder_mul (constant P F.ring a) V))
      ∙ ap (remainder c.ops f.0)
      (ap (λ g. g.0) (sym (Classes.class_of_product P F.ring (a.0 ∷ []) v.0
      (alone P F.ring a) v.1.0 product_is_valid))
      ∙ ap (trim c.ops) (Lists.sum_nil c.ops (scale c.ops a.0 v.0)))
      ∙ Remainders.remainder_of_value P F f not_constant monic (scale c.ops a.0 v.0)
      (scale_valid F.ring a.0 v.0 a.1 v.1.0, Lists.length_scale c.ops a.0 v.0 ∙ v.1.1)
    where
      V : Polynomial c
      V = polynomial_of P F f not_constant monic v.0 v.1

      v_is : remainder_element V ≡ v
      v_is = same_value _ _ (Remainders.remainder_of_value P F f not_constant monic v.0 v.1)

      product_is_valid : All c.Valid (product c.ops (a.0 ∷ []) v.0)
      product_is_valid = product_valid F.ring (a.0 ∷ []) v.0 (alone P F.ring a) v.1.0

  -- the value of its own coefficients at the generator
  pub value_is_own_coefficients : (v : Element (values c f.0))
      → evaluate value_element_ops
      (map (constant_value P F f not_constant monic) (elements c v.0 v.1.0)) generator_element
      ≡ v
  value_is_own_coefficients v = value_at_generator_list (elements c v.0 v.1.0)
      ∙ same_value _ _ (ap (λ w. remainder c.ops f.0 (trim c.ops w)) (elements_are c v.0 v.1.0)
      ∙ Remainders.remainder_of_value P F f not_constant monic v.0 v.1)
    where
      value_at_generator_list : (G : List (Element c))
          → evaluate value_element_ops (map (constant_value P F f not_constant monic) G)
          generator_element
          ≡ remainder_element (class_of P F.ring (map (underlying c) G) (underlying_valid c G))
      value_at_generator_list G =
          ap (λ w. evaluate value_element_ops w generator_element)
          (sym (map_twice remainder_element (constant P F.ring)
          (constant_value P F f not_constant monic) remainder_constant G))
          ∙ sym (kept_value Q value_element_ops remainder_element remainder_zero remainder_add remainder_mul
          (map (constant P F.ring) G) (Generator.generator P F.ring))
          ∙ ap remainder_element (Generator.value_at_generator P F.ring G (underlying_valid c G))
