-- A carrier whose elements stand for the elements of a ring modulo f is a ring; it is a field where each element that f does
-- not divide is coprime to f.
--     IsQuotient v o f class     class gives the element of the ring that a valid x stands for; the operations of v are those
--                                of the ring modulo f, and what is the same modulo f is equal
use Rattle.std.proofs.Common.{subst, ◌≡◌, ◌⊎◌, ◌↔◌, IsTrue, sym, ⊎_elim}
use Rattle.alg_model.specs.Coefficients.{Ops, Carrier}
use Rattle.alg_model.specs.Fields.{IsRing, IsField}
use Rattle.alg_rings.specs.Laws.{RingLaws}
use Rattle.alg_rings.proofs.Divisibility.{Divides}
use Rattle.alg_divisors.proofs.Gcd.{Coprime}
use Rattle.alg_rings.proofs.Modulo
use Rattle.alg_rings.proofs.Modulo.{Same}

pub record IsQuotient {B P : Type 0} (v : Carrier B) (o : Ops P) (f : P) (class : (x : B) → v.Valid x → P) : Type 0 where
  pub zero_valid : v.Valid v.ops.zero
  pub one_valid : v.Valid v.ops.one
  pub add_valid : (x y : B) → v.Valid x → v.Valid y → v.Valid (v.ops.add x y)
  pub mul_valid : (x y : B) → v.Valid x → v.Valid y → v.Valid (v.ops.mul x y)
  pub neg_valid : (x : B) → v.Valid x → v.Valid (v.ops.neg x)
  pub zero_test : (x : B) → v.Valid x → IsTrue (v.ops.is_zero x) ↔ (x ≡ v.ops.zero)
  pub equal : (x y : B) (vx : v.Valid x) (vy : v.Valid y) → Same o f (class x vx) (class y vy) → x ≡ y
  pub zero : (h : v.Valid v.ops.zero) → Same o f (class v.ops.zero h) o.zero
  pub one : Same o f (class v.ops.one one_valid) o.one
  pub add : (x y : B) (vx : v.Valid x) (vy : v.Valid y) → Same o f (class (v.ops.add x y) (add_valid x y vx vy)) (o.add (class x vx) (class y vy))
  pub mul : (x y : B) (vx : v.Valid x) (vy : v.Valid y) → Same o f (class (v.ops.mul x y) (mul_valid x y vx vy)) (o.mul (class x vx) (class y vy))
  pub neg : (x : B) (vx : v.Valid x) → Same o f (class (v.ops.neg x) (neg_valid x vx)) (o.neg (class x vx))

module _ {B P : Type 0} {v : Carrier B} {o : Ops P} {f : P} {class : (x : B) → v.Valid x → P} (L : RingLaws o) (Q : IsQuotient v o f class) where
  open o use {zero as O, one as I, add as ◌⊕◌, mul as ◌⊗◌}

  infixl 60 ◌⊕◌
  infixl 70 ◌⊗◌
  join : {a b p q : P} → Same o f a p → p ≡ q → Same o f b q → Same o f a b
  join h e k = Modulo.same_trans L h (Modulo.same_trans L (Modulo.same_from_equal L e) (Modulo.same_back L k))

  add_left : (x y z : B) (vx : v.Valid x) (vy : v.Valid y) (vz : v.Valid z)
      → Same o f (class (v.ops.add (v.ops.add x y) z) (Q.add_valid (v.ops.add x y) z (Q.add_valid x y vx vy) vz)) (class x vx ⊕ class y vy ⊕ class z vz)
  add_left x y z vx vy vz =
      Modulo.same_trans L (Q.add (v.ops.add x y) z (Q.add_valid x y vx vy) vz)
      (Modulo.same_sum L (Q.add x y vx vy) (Modulo.same_itself L f (class z vz)))

  add_right : (x y z : B) (vx : v.Valid x) (vy : v.Valid y) (vz : v.Valid z)
      → Same o f (class (v.ops.add x (v.ops.add y z)) (Q.add_valid x (v.ops.add y z) vx (Q.add_valid y z vy vz))) (class x vx ⊕ (class y vy ⊕ class z vz))
  add_right x y z vx vy vz =
      Modulo.same_trans L (Q.add x (v.ops.add y z) vx (Q.add_valid y z vy vz))
      (Modulo.same_sum L (Modulo.same_itself L f (class x vx)) (Q.add y z vy vz))

  mul_left : (x y z : B) (vx : v.Valid x) (vy : v.Valid y) (vz : v.Valid z)
      → Same o f (class (v.ops.mul (v.ops.mul x y) z) (Q.mul_valid (v.ops.mul x y) z (Q.mul_valid x y vx vy) vz)) (class x vx ⊗ class y vy ⊗ class z vz)
  mul_left x y z vx vy vz =
      Modulo.same_trans L (Q.mul (v.ops.mul x y) z (Q.mul_valid x y vx vy) vz)
      (Modulo.same_product L (Q.mul x y vx vy) (Modulo.same_itself L f (class z vz)))

  mul_right : (x y z : B) (vx : v.Valid x) (vy : v.Valid y) (vz : v.Valid z)
      → Same o f (class (v.ops.mul x (v.ops.mul y z)) (Q.mul_valid x (v.ops.mul y z) vx (Q.mul_valid y z vy vz))) (class x vx ⊗ (class y vy ⊗ class z vz))
  mul_right x y z vx vy vz =
      Modulo.same_trans L (Q.mul x (v.ops.mul y z) vx (Q.mul_valid y z vy vz))
      (Modulo.same_product L (Modulo.same_itself L f (class x vx)) (Q.mul y z vy vz))

  pub quotient_ring : IsRing v
  quotient_ring = record {
    zero_valid = Q.zero_valid;
    one_valid = Q.one_valid;
    add_valid = Q.add_valid;
    mul_valid = Q.mul_valid;
    neg_valid = Q.neg_valid;
    zero_test = Q.zero_test;
    add_comm = λ x y vx vy. Q.equal _ _ (Q.add_valid x y vx vy) (Q.add_valid y x vy vx)
        (join (Q.add x y vx vy) (L.add_comm (class x vx) (class y vy)) (Q.add y x vy vx));
    add_assoc = λ x y z vx vy vz. Q.equal _ _ (Q.add_valid (v.ops.add x y) z (Q.add_valid x y vx vy) vz) (Q.add_valid x (v.ops.add y z) vx (Q.add_valid y z vy vz))
        (join (add_left x y z vx vy vz) (L.add_assoc (class x vx) (class y vy) (class z vz)) (add_right x y z vx vy vz));
    zero_add = λ x vx. Q.equal _ _ (Q.add_valid v.ops.zero x Q.zero_valid vx) vx
        (join (Modulo.same_trans L (Q.add v.ops.zero x Q.zero_valid vx) (Modulo.same_sum L (Q.zero Q.zero_valid) (Modulo.same_itself L f (class x vx))))
        (L.zero_add (class x vx)) (Modulo.same_itself L f (class x vx)));
    add_neg = λ x vx. Q.equal _ _ (Q.add_valid x (v.ops.neg x) vx (Q.neg_valid x vx)) Q.zero_valid
        (join (Modulo.same_trans L (Q.add x (v.ops.neg x) vx (Q.neg_valid x vx)) (Modulo.same_sum L (Modulo.same_itself L f (class x vx)) (Q.neg x vx)))
        (L.add_neg (class x vx)) (Q.zero Q.zero_valid));
    mul_comm = λ x y vx vy. Q.equal _ _ (Q.mul_valid x y vx vy) (Q.mul_valid y x vy vx)
        (join (Q.mul x y vx vy) (L.mul_comm (class x vx) (class y vy)) (Q.mul y x vy vx));
    mul_assoc = λ x y z vx vy vz. Q.equal _ _ (Q.mul_valid (v.ops.mul x y) z (Q.mul_valid x y vx vy) vz) (Q.mul_valid x (v.ops.mul y z) vx (Q.mul_valid y z vy vz))
        (join (mul_left x y z vx vy vz) (L.mul_assoc (class x vx) (class y vy) (class z vz)) (mul_right x y z vx vy vz));
    one_mul = λ x vx. Q.equal _ _ (Q.mul_valid v.ops.one x Q.one_valid vx) vx
        (join (Modulo.same_trans L (Q.mul v.ops.one x Q.one_valid vx) (Modulo.same_product L Q.one (Modulo.same_itself L f (class x vx))))
        (L.one_mul (class x vx)) (Modulo.same_itself L f (class x vx)));
    mul_add = λ x y z vx vy vz. Q.equal _ _ (Q.mul_valid x (v.ops.add y z) vx (Q.add_valid y z vy vz))
        (Q.add_valid (v.ops.mul x y) (v.ops.mul x z) (Q.mul_valid x y vx vy) (Q.mul_valid x z vx vz))
        (join
        (Modulo.same_trans L (Q.mul x (v.ops.add y z) vx (Q.add_valid y z vy vz))
        (Modulo.same_product L (Modulo.same_itself L f (class x vx)) (Q.add y z vy vz)))
        (L.mul_add (class x vx) (class y vy) (class z vz))
        (Modulo.same_trans L (Q.add (v.ops.mul x y) (v.ops.mul x z) (Q.mul_valid x y vx vy) (Q.mul_valid x z vx vz))
        (Modulo.same_sum L (Q.mul x y vx vy) (Q.mul x z vx vz))));
  }

  zero_class : (x : B) (vx : v.Valid x) → x ≡ v.ops.zero → Same o f (class x vx) O
  zero_class x vx e = subst (λ y. (h : v.Valid y) → Same o f (class y h) O) (sym e) Q.zero vx

  pub zero_from_divides : (x : B) (vx : v.Valid x) → Divides o f (class x vx) → x ≡ v.ops.zero
  zero_from_divides x vx d =
      Q.equal x v.ops.zero vx Q.zero_valid (Modulo.same_trans L (Modulo.same_zero L d) (Modulo.same_back L (Q.zero Q.zero_valid)))

  -- **a quotient by an element to which all that it does not divide is coprime is a field**
  pub quotient_field : ((a : P) → (x : B) × (vx : v.Valid x) × Same o f (class x vx) a) → (Divides o f I → ⊥)
      → ((a : P) → Coprime o f a ⊎ Divides o f a) → IsField v
  quotient_field of proper coprime = record {
    ring = quotient_ring;
    one_not_zero = λ e. proper (Modulo.divides_from_zero L (Modulo.same_trans L (Modulo.same_back L Q.one) (zero_class v.ops.one Q.one_valid e)));
    inverse = λ x vx n. ⊎_elim (inverse x vx) (λ d. absurd (n (zero_from_divides x vx d))) (coprime (class x vx));
  }
    where
      inverse : (x : B) (vx : v.Valid x) → Coprime o f (class x vx) → (y : B) × v.Valid y × (v.ops.mul x y ≡ v.ops.one)
      inverse x vx k =
          let (y, vy, h) = of k.second in
          let one : Same o f I (k.second ⊗ class x vx) = record { quotient = k.first; identity = sym k.identity } in (
            y,
            vy,
            Q.equal (v.ops.mul x y) v.ops.one (Q.mul_valid x y vx vy) Q.one_valid
                (join (Modulo.same_trans L (Q.mul x y vx vy) (Modulo.same_product L (Modulo.same_itself L f (class x vx)) h))
                (L.mul_comm (class x vx) k.second) (Modulo.same_trans L Q.one one)),
          )
