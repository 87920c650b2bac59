-- Commutative rings and fields: the laws that the operations of a carrier keep on its elements.
--     IsRing c      sums and products of elements are elements, with the laws of a commutative ring
--     IsField c     a ring in which one isn't zero and each element but zero has an inverse
use Rattle.std.specs.Prelude.{◌≡◌, ◌≢◌, ◌↔◌, IsTrue}
use Rattle.alg_model.specs.Coefficients.{Carrier}

pub record IsRing {A : Type 0} (c : Carrier A) : Type 0 where
  pub zero_valid : c.Valid c.ops.zero
  pub one_valid : c.Valid c.ops.one
  pub add_valid : (x y : A) → c.Valid x → c.Valid y → c.Valid (c.ops.add x y)
  pub mul_valid : (x y : A) → c.Valid x → c.Valid y → c.Valid (c.ops.mul x y)
  pub neg_valid : (x : A) → c.Valid x → c.Valid (c.ops.neg x)
  pub zero_test : (x : A) → c.Valid x → IsTrue (c.ops.is_zero x) ↔ (x ≡ c.ops.zero)
  pub add_comm : (x y : A) → c.Valid x → c.Valid y → c.ops.add x y ≡ c.ops.add y x
  pub add_assoc : (x y z : A) → c.Valid x → c.Valid y → c.Valid z
      → c.ops.add (c.ops.add x y) z ≡ c.ops.add x (c.ops.add y z)
  pub zero_add : (x : A) → c.Valid x → c.ops.add c.ops.zero x ≡ x
  pub add_neg : (x : A) → c.Valid x → c.ops.add x (c.ops.neg x) ≡ c.ops.zero
  pub mul_comm : (x y : A) → c.Valid x → c.Valid y → c.ops.mul x y ≡ c.ops.mul y x
  pub mul_assoc : (x y z : A) → c.Valid x → c.Valid y → c.Valid z
      → c.ops.mul (c.ops.mul x y) z ≡ c.ops.mul x (c.ops.mul y z)
  pub one_mul : (x : A) → c.Valid x → c.ops.mul c.ops.one x ≡ x
  pub mul_add : (x y z : A) → c.Valid x → c.Valid y → c.Valid z
      → c.ops.mul x (c.ops.add y z) ≡ c.ops.add (c.ops.mul x y) (c.ops.mul x z)

pub record IsField {A : Type 0} (c : Carrier A) : Type 0 where
  pub ring : IsRing c
  pub one_not_zero : c.ops.one ≢ c.ops.zero
  pub inverse : (x : A) → c.Valid x → x ≢ c.ops.zero
      → (y : A) × c.Valid y × (c.ops.mul x y ≡ c.ops.one)
