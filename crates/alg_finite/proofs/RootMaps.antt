-- A root of f in a field A gives a map of the values modulo f into A that keeps the operations: v
-- goes to the value of its own
-- coefficients at the root.
--     root_map h o a v     the value of v's coefficients at a
use Rattle.std.proofs.Common.{◌≡◌, ◌<◌, List, [], ◌∷◌, length, map, ap, ap₂, sym, ◌∙◌}
use Rattle.alg_model.specs.Coefficients.{Ops, Carrier}
use Rattle.alg_model.specs.Polynomials.{evaluate, trim}
use Rattle.alg_model.specs.Factors.{IsMonic, IsIrreducible}
use Rattle.alg_model.specs.Values.{values}
use Rattle.alg_model.specs.Fields.{IsField}
use Rattle.alg_rings.specs.Laws.{FieldLaws, IsPropositional}
use Rattle.alg_rings.proofs.Rings
use Rattle.alg_rings.proofs.Elements.{Element, underlying, element_ops, underlying_lists_injective, elements, elements_are, underlying_homomorphism}
use Rattle.alg_rings.proofs.Homomorphisms.{Homomorphism, trim-map}
use Rattle.alg_rings.proofs.Divisors.{Polynomial, polynomial_ops}
use Rattle.alg_rings.proofs.Modulo.{Same}
use Rattle.alg_fields.proofs.Generator
use Rattle.alg_fields.proofs.Remainders
use Rattle.alg_rings.proofs.Evaluation
use Rattle.alg_fields.proofs.Quotients.{IsQuotient}
use Rattle.alg_fields.proofs.ValueFields.{polynomial_of, values_quotient}
use Rattle.alg_finite.proofs.FieldMaps.{field_homomorphism}
use Rattle.alg_finite.proofs.Evaluation.{coefficients, evaluate_by, evaluate_sum, evaluate_product}
use Rattle.alg_finite.proofs.Values

module _ {X : Type 0} {c : Carrier X} (P : IsPropositional c) (Fc : IsField c) (f : Polynomial c)
    (not_constant : 1 < length f.0) (monic : IsMonic c f.0)
    {A : Type 0} {o : Ops A} (L : FieldLaws o) {h : Element c → A}
    (H : Homomorphism (element_ops Fc.ring) o h) (a : A) (root : evaluate_by c h o f a ≡ o.zero) where
  abbrev Q : Ops (Polynomial c)
  Q = polynomial_ops P Fc.ring

  abbrev V : IsQuotient (values c f.0) (polynomial_ops P Fc.ring) f
      (polynomial_of P Fc f not_constant monic)
  V = values_quotient P Fc f not_constant monic

  abbrev class : (x : List X) → (values c f.0).Valid x → Polynomial c
  class x v = polynomial_of P Fc f not_constant monic x v

  -- the value of v's coefficients at a
  abbrev pub root_map : Element (values c f.0) → A
  root_map v = evaluate o (map h (elements c v.0 v.1.0)) a

  trimmed_value : (F G : List (Element c)) → map (underlying c) G ≡ trim c.ops (map (underlying c) F)
      → evaluate o (map h G) a ≡ evaluate o (map h F) a
  trimmed_value F G e =
      ap (λ w. evaluate o (map h w) a)
      (underlying_lists_injective P G (trim (element_ops Fc.ring) F)
      (e ∙ sym (trim-map (underlying_homomorphism Fc.ring) F)))
      ∙ ap (λ w. evaluate o w a) (trim-map H F) ∙ Evaluation.value_of_trim L.ring (map h F) a

  by_class : (v : Element (values c f.0)) (w : (values c f.0).Valid v.0)
      → evaluate_by c h o (class v.0 w) a ≡ root_map v
  by_class v w = trimmed_value (elements c v.0 v.1.0) (coefficients c (class v.0 w))
      (elements_are c (class v.0 w).0 (class v.0 w).1.0
      ∙ ap (trim c.ops) (sym (elements_are c v.0 v.1.0)))

  value_of_one : evaluate_by c h o Q.one a ≡ o.one
  value_of_one = trimmed_value ((element_ops Fc.ring).one ∷ []) (coefficients c Q.one)
      (elements_are c Q.one.0 Q.one.1.0)
      ∙ Evaluation.value_of_constant L.ring (h (element_ops Fc.ring).one) a ∙ H.one

  -- polynomials that are the same modulo f have one value at a
  same_value : (x y : Polynomial c) → Same Q f x y → evaluate_by c h o x a ≡ evaluate_by c h o y a
  same_value x y s =
      ap (λ g. evaluate_by c h o g a) s.identity
      ∙ evaluate_sum P Fc.ring L.ring H a (Q.mul s.quotient f) y
      ∙ ap (λ t. o.add t (evaluate_by c h o y a)) (evaluate_product P Fc.ring L.ring H a s.quotient f
      ∙ ap (o.mul (evaluate_by c h o s.quotient a)) root
      ∙ Rings.mul_zero L.ring (evaluate_by c h o s.quotient a))
      ∙ L.ring.zero_add (evaluate_by c h o y a)

  -- **the map that sends the generator to a root keeps the operations**
  pub root_homomorphism : IsIrreducible c f.0
      → Homomorphism (Values.value_element_ops P Fc f not_constant monic) o root_map
  root_homomorphism i = field_homomorphism (Values.value_laws P Fc f not_constant monic i) L
      (sym (by_class W.one V.one_valid) ∙ same_value (class W.one.0 V.one_valid) Q.one V.one
      ∙ value_of_one)
      (λ v w. let s : (values c f.0).Valid (W.add v w).0 = V.add_valid v.0 w.0 v.1 w.1 in
      sym (by_class (W.add v w) s)
      ∙ same_value (class (W.add v w).0 s) (Q.add (class v.0 v.1) (class w.0 w.1))
      (V.add v.0 w.0 v.1 w.1)
      ∙ evaluate_sum P Fc.ring L.ring H a (class v.0 v.1) (class w.0 w.1)
      ∙ ap₂ o.add (by_class v v.1) (by_class w w.1))
      (λ v w. let s : (values c f.0).Valid (W.mul v w).0 = V.mul_valid v.0 w.0 v.1 w.1 in
      sym (by_class (W.mul v w) s)
      ∙ same_value (class (W.mul v w).0 s) (Q.mul (class v.0 v.1) (class w.0 w.1))
      (V.mul v.0 w.0 v.1 w.1)
      ∙ evaluate_product P Fc.ring L.ring H a (class v.0 v.1) (class w.0 w.1)
      ∙ ap₂ o.mul (by_class v v.1) (by_class w w.1))
    where
      W : Ops (Element (values c f.0))
      W = Values.value_element_ops P Fc f not_constant monic

  -- **a polynomial and its remainder modulo f have one value at a root of f**
  pub value_of_remainder : (g : Polynomial c)
      → root_map (Values.remainder_element P Fc f not_constant monic g) ≡ evaluate_by c h o g a
  value_of_remainder g =
      let r = Values.remainder_element P Fc f not_constant monic g in
      sym (by_class r r.1)
      ∙ same_value (class r.0 r.1) g (Remainders.same_as_value P Fc f not_constant monic g)

  -- **and that sends the generator to the root**
  pub root_map_generator : root_map (Values.generator_element P Fc f not_constant monic) ≡ a
  root_map_generator =
      sym (by_class x x.1)
      ∙ same_value (class x.0 x.1) own (Remainders.same_as_value P Fc f not_constant monic own)
      ∙ trimmed_value (E.zero ∷ E.one ∷ []) (coefficients c own) (elements_are c own.0 own.1.0)
      ∙ ap₂ (λ s t. o.add s (o.mul a t)) H.zero
      (Evaluation.value_of_constant L.ring (h E.one) a ∙ H.one)
      ∙ L.ring.zero_add (o.mul a o.one) ∙ Rings.mul_one L.ring a
    where
      E : Ops (Element c)
      E = element_ops Fc.ring

      own : Polynomial c
      own = Generator.generator P Fc.ring

      x : Element (values c f.0)
      x = Values.generator_element P Fc f not_constant monic
