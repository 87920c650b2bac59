-- The laws of a commutative ring and of a field on a type whose every member is an element, so that
-- no lemma has a premise on validity. The theory stands over these; a carrier's elements form such
-- a type.
--     RingLaws o, FieldLaws o     the operations keep the laws on all of A
--     IsPropositional c           two elements are equal in one way, and valid in one way
--     polynomials c               the polynomials over c, with their sums and products
use Rattle.std.specs.Prelude.{◌≡◌, ◌≢◌, ◌↔◌, IsTrue, List, [], ◌∷◌, length, ◌==◌}
use Rattle.alg_model.specs.Coefficients.{Ops, Carrier}
use Rattle.alg_model.specs.Polynomials.{trim, poly_sum, poly_negative, poly_product}
use Rattle.alg_model.specs.Factors.{IsPolynomial}

pub record RingLaws {A : Type 0} (o : Ops A) : Type 0 where
  pub add_comm : (x y : A) → o.add x y ≡ o.add y x
  pub add_assoc : (x y z : A) → o.add (o.add x y) z ≡ o.add x (o.add y z)
  pub zero_add : (x : A) → o.add o.zero x ≡ x
  pub add_neg : (x : A) → o.add x (o.neg x) ≡ o.zero
  pub mul_comm : (x y : A) → o.mul x y ≡ o.mul y x
  pub mul_assoc : (x y z : A) → o.mul (o.mul x y) z ≡ o.mul x (o.mul y z)
  pub one_mul : (x : A) → o.mul o.one x ≡ x
  pub mul_add : (x y z : A) → o.mul x (o.add y z) ≡ o.add (o.mul x y) (o.mul x z)
  pub zero_test : (x : A) → IsTrue (o.is_zero x) ↔ (x ≡ o.zero)

pub record FieldLaws {A : Type 0} (o : Ops A) : Type 0 where
  pub ring : RingLaws o
  pub one_not_zero : o.one ≢ o.zero
  pub inverse : (x : A) → x ≢ o.zero → (y : A) × (o.mul x y ≡ o.one)

pub record IsPropositional {A : Type 0} (c : Carrier A) : Type 0 where
  pub set : IsSet A
  pub valid : (x : A) → IsProp (c.Valid x)

abbrev pub polynomials : {A : Type 0} → Carrier A → Carrier (List A)
polynomials c = record {
  ops = record {
    zero = [];
    one = trim c.ops (c.ops.one ∷ []);
    add = poly_sum c.ops;
    mul = poly_product c.ops;
    neg = poly_negative c.ops;
    is_zero = λ f. length f == 0;
  };
  Valid = IsPolynomial c;
}
