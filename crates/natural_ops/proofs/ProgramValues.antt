-- The values of x^2, 1 + x and x^p - x, and tables whose polynomials have one form.
use Rattle.std.specs.Prelude.{◌≡◌, ℕ, zero, suc, ◌+◌, ◌-◌, ◌%◌, ◌<◌, ◌==◌, cond, Bool, true, false, List, [], ◌∷◌, ◌++◌, length, replicate, map, take, slice_set, All, Contains, slice_index_or}
use Rattle.std.proofs.Common.{refl, sym, ap, ap₂, subst, ◌∙◌, arith}
use Rattle.std.proofs.lemmas.Bool.Decides.{nat_tests}
use Rattle.std.proofs.lemmas.List.Elements.{All-head, All-tail, All-take, All-set, All-replicate, All-contains, All-from_recursion}
use Rattle.alg_model.specs.Coefficients.{Ops, Carrier, power, mod_ops, primes, IsCharacteristic}
use Rattle.alg_model.specs.Fields.{IsRing}
use Rattle.alg_model.specs.Polynomials.{trim, evaluate}
use Rattle.alg_model.specs.Maps.{Field, IsFiniteField, field_values, degree_of, constant, constants}
use Rattle.std.proofs.Math.Nat.{mod-eq_of_lt, mod_self}
use Rattle.alg_rings.proofs.Validity.{power_valid}
use Rattle.alg_galois.proofs.Fields.{modulus_of, field_is}
use Rattle.ff_poly.specs.Polynomial.{Polynomial}
use Rattle.ff_field.specs.SmallFields.{IsSmallField}
use Rattle.natural_ops.specs.Operations.{IsOpTable, coefficients_for, value_at}

-- ---- tables
-- **what stands in a table of one form for a characteristic has that form**
pub coefficients_of_form : (form : ℕ → List ℕ) (table : List Polynomial) (p : ℕ)
    → All (λ f. f.coefficients ≡ form f.prime) table → Contains (map (λ f. f.prime) table) p
    → coefficients_for table p ≡ form p
coefficients_of_form form [] p a (k, l, e) = absurd (omega (arith, l))
coefficients_of_form form (f ∷ fs) p a (k, l, e) = of_either (f.prime == p) refl
    (coefficients_of_form form fs p (All-tail (λ f. f.coefficients ≡ form f.prime) f fs a)) k l e
  where
    same_number : (a n : ℕ) → (a == n) ≡ true → a ≡ n
    same_number a n e = grind (arith, nat_tests, e)

    of_either : (b : Bool) → (f.prime == p) ≡ b
        → (Contains (map (λ f. f.prime) fs) p → coefficients_for fs p ≡ form p)
        → (k : ℕ) → k < length (map (λ f. f.prime) (f ∷ fs))
        → slice_index_or (map (λ f. f.prime) (f ∷ fs)) k p ≡ p
        → cond b f.coefficients (coefficients_for fs p) ≡ form p
    of_either true h rest k l e =
        All-head (λ f. f.coefficients ≡ form f.prime) f fs a ∙ ap form (same_number f.prime p h)
    of_either false h rest zero l e = absurd (not_same f.prime p h e)
      where
        not_same : (a n : ℕ) → (a == n) ≡ false → a ≡ n → ⊥
        not_same a n e f = grind (arith, nat_tests, e, f)
    of_either false h rest (suc k) l e = rest (k, omega (arith, l), e)

-- ---- rings
-- b * 0 is twice itself
pub zero_times : {A : Type 0} {c : Carrier A} → IsRing c → (b : A) → c.Valid b
    → c.ops.mul c.ops.zero b ≡ c.ops.zero
zero_times {A} {c} R b vb =
    let z : A = c.ops.mul b c.ops.zero in
    let vz : c.Valid z = R.mul_valid b c.ops.zero vb R.zero_valid in
    let twice : c.ops.add z z ≡ z =
    sym (R.mul_add b c.ops.zero c.ops.zero vb R.zero_valid R.zero_valid)
    ∙ ap (c.ops.mul b) (R.zero_add c.ops.zero R.zero_valid) in
    R.mul_comm c.ops.zero b R.zero_valid vb
    ∙ sym (R.zero_add z vz) ∙ R.add_comm c.ops.zero z R.zero_valid vz
    ∙ ap (c.ops.add z) (sym (R.add_neg z vz))
    ∙ sym (R.add_assoc z z (c.ops.neg z) vz vz (R.neg_valid z vz))
    ∙ ap (λ w. c.ops.add w (c.ops.neg z)) twice ∙ R.add_neg z vz

-- what added to x gives zero is its negative
negative_one : {A : Type 0} {c : Carrier A} → IsRing c → (x y : A) → c.Valid x → c.Valid y
    → c.ops.add x y ≡ c.ops.zero → y ≡ c.ops.neg x
negative_one {A} {c} R x y vx vy e =
    let vn : c.Valid (c.ops.neg x) = R.neg_valid x vx in
    sym (R.zero_add y vy)
    ∙ ap (λ w. c.ops.add w y) (sym (R.add_comm (c.ops.neg x) x vn vx ∙ R.add_neg x vx))
    ∙ R.add_assoc (c.ops.neg x) x y vn vx vy ∙ ap (c.ops.add (c.ops.neg x)) e
    ∙ R.add_comm (c.ops.neg x) c.ops.zero vn R.zero_valid ∙ R.zero_add (c.ops.neg x) vn

times_minus_one : {A : Type 0} {c : Carrier A} → IsRing c → (x : A) → c.Valid x
    → c.ops.mul x (c.ops.neg c.ops.one) ≡ c.ops.neg x
times_minus_one {A} {c} R x vx =
    let vm : c.Valid (c.ops.neg c.ops.one) = R.neg_valid c.ops.one R.one_valid in
    negative_one R x (c.ops.mul x (c.ops.neg c.ops.one)) vx (R.mul_valid _ _ vx vm)
    (ap (λ w. c.ops.add w (c.ops.mul x (c.ops.neg c.ops.one)))
    (sym (R.mul_comm x c.ops.one vx R.one_valid ∙ R.one_mul x vx))
    ∙ sym (R.mul_add x c.ops.one (c.ops.neg c.ops.one) vx R.one_valid vm)
    ∙ ap (c.ops.mul x) (R.add_neg c.ops.one R.one_valid)
    ∙ R.mul_comm x c.ops.zero vx R.zero_valid ∙ zero_times R x vx)

-- ---- values
zeros : (n : ℕ) → 0 < n → ◌≡◌ {A = List ℕ} (0 ∷ replicate (n - 1) 0) (replicate n 0)
zeros zero l = absurd (omega (arith, l))
zeros (suc m) l = let e : suc m - 1 ≡ m = omega arith in ap (λ k. 0 ∷ replicate k 0) e

zeros_negated : (p n : ℕ) → map (λ c. (p - c) % p) (replicate n 0) ≡ replicate n 0
zeros_negated p zero = refl
zeros_negated p (suc n) =
    let whole : p - 0 ≡ p = omega arith in
    ap₂ (λ c cs. c ∷ cs) (ap (λ q. q % p) whole ∙ mod_self p) (zeros_negated p n)

module _ (K : Field) (W : IsFiniteField K) where
  ring : IsRing (field_values K)
  ring = (field_is K.characteristic W.characteristic K.polynomial (modulus_of K W)).ring

  zero_constant : constant K 0 ≡ (field_values K).ops.zero
  zero_constant = let h : 1 < length K.polynomial = W.irreducible.not_constant in
      zeros (degree_of K) (omega (arith, h))

  -- the greatest residue is minus one
  minus_one_constant : constant K (K.characteristic - 1)
      ≡ (field_values K).ops.neg (field_values K).ops.one
  minus_one_constant =
      let p : 1 < K.characteristic = W.characteristic.above_one in
      let top : K.characteristic - 1 ≡ (K.characteristic - 1) % K.characteristic =
      sym (mod-eq_of_lt (omega (arith, p))) in
      ap₂ (λ c cs. c ∷ cs) top (sym (zeros_negated K.characteristic (degree_of K - 1)))

  module _ (a : List ℕ) (va : (field_values K).Valid a) where
    abbrev ops : Ops (List ℕ)
    ops = (field_values K).ops

    value_of_one : evaluate ops (constants K (1 ∷ [])) a ≡ ops.one
    value_of_one = ap (ops.add ops.one)
        (ring.mul_comm a ops.zero va ring.zero_valid ∙ zero_times ring a va)
        ∙ ring.add_comm ops.one ops.zero ring.one_valid ring.zero_valid
        ∙ ring.zero_add ops.one ring.one_valid

    -- a zero below the other coefficients
    value_after_zero : (g : List ℕ) (b : List ℕ) → (field_values K).Valid b
        → evaluate ops (constants K g) a ≡ b
        → evaluate ops (constants K (0 ∷ g)) a ≡ ops.mul a b
    value_after_zero g b vb e = ap (λ w. ops.add w (ops.mul a (evaluate ops (constants K g) a)))
        zero_constant
        ∙ ap (λ w. ops.add ops.zero (ops.mul a w)) e
        ∙ ring.zero_add (ops.mul a b) (ring.mul_valid a b va vb)

    times_one : ops.mul a ops.one ≡ a
    times_one = ring.mul_comm a ops.one va ring.one_valid ∙ ring.one_mul a va

    -- **x^2 has the value a * a**
    pub value_of_square : evaluate ops (constants K (0 ∷ 0 ∷ 1 ∷ [])) a ≡ ops.mul a a
    value_of_square = value_after_zero (0 ∷ 1 ∷ []) a va
        (value_after_zero (1 ∷ []) ops.one ring.one_valid value_of_one ∙ times_one)

    -- **1 + x has the value a + 1**
    pub value_of_successor : evaluate ops (constants K (1 ∷ 1 ∷ [])) a ≡ ops.add a ops.one
    value_of_successor = ap (λ w. ops.add ops.one (ops.mul a w)) value_of_one
        ∙ ap (ops.add ops.one) times_one ∙ ring.add_comm ops.one a ring.one_valid va

    -- **x^n has the value a^n**
    pub value_of_power : (n : ℕ) → evaluate ops (constants K (replicate n 0 ++ 1 ∷ [])) a
        ≡ power ops a n
    value_of_power zero = value_of_one
    value_of_power (suc n) = value_after_zero (replicate n 0 ++ 1 ∷ []) (power ops a n)
        (power_valid ring a n va) (value_of_power n)
        ∙ ring.mul_comm a (power ops a n) va (power_valid ring a n va)

    -- **x^(n + 2) - x has the value a^(n + 2) - a**
    pub value_of_power_less : (n : ℕ)
        → evaluate ops (constants K (0 ∷ (K.characteristic - 1) ∷ replicate n 0 ++ 1 ∷ [])) a
        ≡ ops.add (power ops a (suc (suc n))) (ops.neg a)
    value_of_power_less n =
        let P : List ℕ = power ops a n in
        let vP : (field_values K).Valid P = power_valid ring a n va in
        let vQ : (field_values K).Valid (ops.mul P a) = ring.mul_valid P a vP va in
        let vm : (field_values K).Valid (ops.neg ops.one) = ring.neg_valid ops.one ring.one_valid in
        value_after_zero ((K.characteristic - 1) ∷ replicate n 0 ++ 1 ∷ [])
        (ops.add (ops.neg ops.one) (ops.mul P a)) (ring.add_valid (ops.neg ops.one) (ops.mul P a) vm vQ)
        (ap (λ w. ops.add w (ops.mul a (evaluate ops (constants K (replicate n 0 ++ 1 ∷ [])) a)))
        minus_one_constant
        ∙ ap (λ w. ops.add (ops.neg ops.one) (ops.mul a w)) (value_of_power n)
        ∙ ap (ops.add (ops.neg ops.one)) (ring.mul_comm a P va vP))
        ∙ ring.mul_add a (ops.neg ops.one) (ops.mul P a) va vm vQ
        ∙ ap (λ w. ops.add w (ops.mul a (ops.mul P a))) (times_minus_one ring a va)
        ∙ ring.add_comm (ops.neg a) (ops.mul a (ops.mul P a)) (ring.neg_valid a va)
        (ring.mul_valid a (ops.mul P a) va vQ)
        ∙ ap (λ w. ops.add w (ops.neg a)) (ring.mul_comm a (ops.mul P a) va vQ)

-- ---- operations
-- **a table whose polynomials have one form has the values of that form**
pub value_of_form : (form : ℕ → List ℕ) (table : List Polynomial) → IsOpTable table
    → All (λ f. f.coefficients ≡ form f.prime) table → (K : Field) → IsSmallField K → (a : List ℕ)
    → value_at table K a
    ≡ evaluate (field_values K).ops (constants K (form K.characteristic)) a
value_of_form form table t h K s a =
    ap (λ g. evaluate (field_values K).ops (constants K g) a)
    (coefficients_of_form form table K.characteristic h
    (subst (λ ps. Contains ps K.characteristic) (sym t.characteristics) s.characteristic))

-- **the operation of x^2**
pub value_at_square : (table : List Polynomial) → IsOpTable table
    → All (λ f. f.coefficients ≡ 0 ∷ 0 ∷ 1 ∷ []) table → (K : Field) → IsSmallField K → (a : List ℕ)
    → (field_values K).Valid a → value_at table K a ≡ (field_values K).ops.mul a a
value_at_square table t h K s a va =
    value_of_form (λ p. 0 ∷ 0 ∷ 1 ∷ []) table t h K s a ∙ value_of_square K s.finite a va

-- **the operation of x^p - x, for characteristics p = n + 2**
pub value_at_frobenius_less : (table : List Polynomial) → IsOpTable table
    → All (λ f. f.coefficients ≡ 0 ∷ (f.prime - 1) ∷ replicate (f.prime - 2) 0 ++ 1 ∷ []) table
    → (K : Field) → IsSmallField K → (a : List ℕ) → (field_values K).Valid a
    → value_at table K a
    ≡ (field_values K).ops.add (power (field_values K).ops a K.characteristic)
    ((field_values K).ops.neg a)
value_at_frobenius_less table t h K s a va =
    let l : 1 < K.characteristic = s.finite.characteristic.above_one in
    let e : suc (suc (K.characteristic - 2)) ≡ K.characteristic = omega (arith, l) in
    value_of_form (λ p. 0 ∷ (p - 1) ∷ replicate (p - 2) 0 ++ 1 ∷ []) table t h K s a
    ∙ value_of_power_less K s.finite a va (K.characteristic - 2)
    ∙ ap (λ p. (field_values K).ops.add (power (field_values K).ops a p)
    ((field_values K).ops.neg a)) e

-- **the operation of 1 + x**
pub value_at_successor : (table : List Polynomial) → IsOpTable table
    → All (λ f. f.coefficients ≡ 1 ∷ 1 ∷ []) table → (K : Field) → IsSmallField K → (a : List ℕ)
    → (field_values K).Valid a
    → value_at table K a ≡ (field_values K).ops.add a (field_values K).ops.one
value_at_successor table t h K s a va =
    value_of_form (λ p. 1 ∷ 1 ∷ []) table t h K s a ∙ value_of_successor K s.finite a va

-- ---- the coefficients of -x + x^p
-- among zeros
abbrev pub places_of : ℕ → List ℕ
places_of p = slice_set (slice_set (replicate 64 0) p 1) 1 (p - 1)

pub places_are_residues : (p : ℕ) → 1 < p
    → All (λ x. x < p) (take (p + 1) (places_of p))
places_are_residues p l = All-take (λ x. x < p) (p + 1) (places_of p)
    (All-set (λ x. x < p) (slice_set (replicate 64 0) p 1) 1 (p - 1) (omega (arith, l))
    (All-set (λ x. x < p) (replicate 64 0) p 1 l
    (All-replicate (λ x. x < p) 64 0 (omega (arith, l)))))

-- the places below p + 1 are the coefficients
abbrev IsTrimmed : ℕ → Type 0
IsTrimmed p = trim (mod_ops p) (take (p + 1) (places_of p))
    ≡ 0 ∷ (p - 1) ∷ replicate (p - 2) 0 ++ 1 ∷ []

-- **for each characteristic, by computation**
pub places_trimmed : (p : ℕ) → IsCharacteristic p
    → trim (mod_ops p) (take (p + 1) (places_of p)) ≡ 0 ∷ (p - 1) ∷ replicate (p - 2) 0 ++ 1 ∷ []
places_trimmed p c = All-contains IsTrimmed primes p (All-from_recursion IsTrimmed primes (
  refl,
  (
    refl,
    (
      refl,
      (
        refl,
        (
          refl,
          (
            refl,
            (
              refl,
              (
                refl,
                (
                  refl,
                  (
                    refl,
                    (
                      refl,
                      (
                        refl,
                        (
                          refl,
                          (refl, (refl, (refl, (refl, (refl, tt))))),
                        ),
                      ),
                    ),
                  ),
                ),
              ),
            ),
          ),
        ),
      ),
    ),
  ),
)) c
