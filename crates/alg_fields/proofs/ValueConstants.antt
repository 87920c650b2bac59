-- The elements of a field c as constants among the values over it.
use Rattle.std.proofs.Common.{◌≡◌, ℕ, zero, suc, ◌-◌, ◌<◌, Bool, true, ◌&&◌, List, [], ◌∷◌, length, replicate, refl, ap, ap₂, sym, ◌∙◌, arith}
use Rattle.std.proofs.Math.Bool.{and-true}
use Rattle.std.proofs.lemmas.List.{length-replicate}
use Rattle.std.proofs.lemmas.List.Elements.{All-append, All-replicate}
use Rattle.std.specs.List.{list_all}
use Rattle.alg_model.specs.Coefficients.{Ops, Carrier, times}
use Rattle.alg_model.specs.Factors.{IsMonic}
use Rattle.alg_model.specs.Values.{degree, padded, values}
use Rattle.alg_model.specs.Fields.{IsField}
use Rattle.alg_rings.specs.Laws.{IsPropositional}
use Rattle.alg_rings.proofs.Homomorphisms.{Homomorphism}
use Rattle.alg_rings.proofs.Elements.{Element, element_ops, underlying_injective}
use Rattle.alg_rings.proofs.Divisors.{Polynomial, polynomial_ops}
use Rattle.alg_rings.proofs.Modulo
use Rattle.alg_rings.proofs.Modulo.{Same}
use Rattle.alg_divisors.proofs.EuclideanPolynomials.{over_field}
use Rattle.alg_fields.proofs.Quotients.{IsQuotient}
use Rattle.alg_fields.proofs.Classes
use Rattle.alg_fields.proofs.Constants.{constant, alone, constant_homomorphism}
use Rattle.alg_fields.proofs.PowerRoots.{image_characteristic}
use Rattle.alg_fields.proofs.ValueFields.{polynomial_of, values_quotient, values_ring, values_propositional}

zeros_pass : {A : Type 0} (test : A → Bool) (z : A) → test z ≡ true → (n : ℕ) → list_all test (replicate n z) ≡ true
zeros_pass test z e zero = refl
zeros_pass test z e (suc n) = ap₂ ◌&&◌ e (zeros_pass test z e n)

module _ {A : Type 0} {c : Carrier A} (P : IsPropositional c) (F : IsField c) (f : Polynomial c) (not_constant : 1 < length f.0) (monic : IsMonic c f.0) where
  open over_field P F use {ops as Q, laws as E}

  abbrev V : IsQuotient (values c f.0) (polynomial_ops P F.ring) f (polynomial_of P F f not_constant monic)
  V = values_quotient P F f not_constant monic

  abbrev W : Ops (Element (values c f.0))
  W = element_ops (values_ring P F f not_constant monic)

  abbrev list_of : Element c → List A
  list_of a = padded c.ops (degree f.0) (a.0 ∷ [])

  -- an element of c, with zeros after it, is a value
  pub constant_valid : (a : Element c) → (values c f.0).Valid (padded c.ops (degree f.0) (a.0 ∷ []))
  constant_valid a = (
    All-append c.Valid (a.0 ∷ []) (replicate (degree f.0 - 1) c.ops.zero) (alone P F.ring a) (All-replicate c.Valid (degree f.0 - 1) c.ops.zero F.ring.zero_valid),
    omega (arith, length-replicate (degree f.0 - 1) c.ops.zero),
  )

  abbrev pub constant_value : Element c → Element (values c f.0)
  constant_value a = (padded c.ops (degree f.0) (a.0 ∷ []), constant_valid a)

  same_constant : (a : Element c) → Same Q f (polynomial_of P F f not_constant monic (padded c.ops (degree f.0) (a.0 ∷ [])) (constant_valid a)) (constant P F.ring a)
  same_constant a = Modulo.same_from_equal E.ring (Classes.class_of_padded P F.ring (degree f.0) (a.0 ∷ []) (alone P F.ring a) (constant_valid a).0)

  equal : (a : Element c) (y : List A) (v : (values c f.0).Valid y) → Same Q f (constant P F.ring a) (polynomial_of P F f not_constant monic y v)
      → padded c.ops (degree f.0) (a.0 ∷ []) ≡ y
  equal a y v s = V.equal (padded c.ops (degree f.0) (a.0 ∷ [])) y (constant_valid a) v (Modulo.same_trans E.ring (same_constant a) s)

  same_value : (x y : Element (values c f.0)) → x.0 ≡ y.0 → x ≡ y
  same_value x y e = underlying_injective (values_propositional P f.0) x y e

  -- what is made of constants is the constant of the result
  back : {a : Polynomial c} {b d : Polynomial c} → Same Q f d b → a ≡ b → Same Q f a d
  back s e = Modulo.same_trans E.ring (Modulo.same_from_equal E.ring e) (Modulo.same_back E.ring s)

  -- **constants keep the operations**
  pub constant_value_homomorphism : Homomorphism (element_ops F.ring) (element_ops (values_ring P F f not_constant monic)) constant_value
  constant_value_homomorphism = record {
    zero = same_value _ _ (equal (c.ops.zero, F.ring.zero_valid) (replicate (degree f.0) c.ops.zero) V.zero_valid
        (back (V.zero V.zero_valid) (constant_homomorphism P F.ring).zero));
    one = same_value _ _ refl;
    add = λ a b. same_value _ _ (equal ((element_ops F.ring).add a b) _ (V.add_valid (list_of a) (list_of b) (constant_valid a) (constant_valid b))
        (back (Modulo.same_trans E.ring (V.add (list_of a) (list_of b) (constant_valid a) (constant_valid b)) (Modulo.same_sum E.ring (same_constant a) (same_constant b)))
        ((constant_homomorphism P F.ring).add a b)));
    mul = λ a b. same_value _ _ (equal ((element_ops F.ring).mul a b) _ (V.mul_valid (list_of a) (list_of b) (constant_valid a) (constant_valid b))
        (back (Modulo.same_trans E.ring (V.mul (list_of a) (list_of b) (constant_valid a) (constant_valid b)) (Modulo.same_product E.ring (same_constant a) (same_constant b)))
        ((constant_homomorphism P F.ring).mul a b)));
    neg = λ a. same_value _ _ (equal ((element_ops F.ring).neg a) _ (V.neg_valid (list_of a) (constant_valid a))
        (back (Modulo.same_trans E.ring (V.neg (list_of a) (constant_valid a)) (Modulo.same_negative E.ring (same_constant a)))
        ((constant_homomorphism P F.ring).neg a)));
    is_zero = λ a. sym (ap (λ b. c.ops.is_zero a.0 && b)
        (zeros_pass c.ops.is_zero c.ops.zero ((F.ring.zero_test c.ops.zero F.ring.zero_valid).1 refl) (degree f.0 - 1)) ∙ and-true (c.ops.is_zero a.0));
  }

  -- **the values have the characteristic of the field that they stand over**
  pub values_characteristic : (p : ℕ) → times (element_ops F.ring) p (element_ops F.ring).one ≡ (element_ops F.ring).zero → times W p W.one ≡ W.zero
  values_characteristic p e = image_characteristic constant_value_homomorphism p e
