-- From polynomials over a field to the values modulo a monic f: padding with zeros, and inverses.
-- Powers by squaring and conjugates, in any ring.
use Rattle.std.proofs.Common.{◌≡◌, ◌≢◌, ℕ, zero, suc, ◌+◌, ◌-◌, ◌*◌, ◌^◌, ◌<◌, ◌≤◌, List, [], ◌∷◌, ◌++◌, length, replicate, All, ap, ap₂, sym, ◌∙◌, subst, arith, ⊎_elim, eq-or-lt_of_le, pow-suc, pow-add}
use Rattle.std.proofs.lemmas.List.{length-replicate, length-append}
use Rattle.std.proofs.lemmas.List.Elements.{All-append, All-replicate, All-nil, All-cons, All-head, All-tail}
use Rattle.std.proofs.lemmas.List.FromFn.{map-range_with_len_more}
use native.Mathlib.Nat.{mul_comm, add-zero}
use Rattle.alg_model.specs.Coefficients.{Ops, Carrier, power}
use Rattle.alg_model.specs.Polynomials.{trim, poly_sum, poly_product, leading}
use Rattle.alg_model.specs.Factors.{IsPolynomial, IsMonic, IsDivision, IsGreatestCommonDivisor, IsIrreducible}
use Rattle.alg_model.specs.Values.{degree, padded, remainder, value_ops, values}
use Rattle.alg_model.specs.Fields.{IsRing, IsField}
use Rattle.alg_model.specs.Conjugates.{conjugates, sum_all, product_all}
use Rattle.alg_rings.specs.Laws.{IsPropositional}
use Rattle.alg_rings.proofs.Lists.{product_nil, length_not_nil}
use Rattle.alg_rings.proofs.Trims
use Rattle.alg_rings.proofs.Powers
use Rattle.alg_rings.proofs.Elements.{element_ops, element_laws, underlying_homomorphism}
use Rattle.alg_rings.proofs.Homomorphisms.{power-map}
use Rattle.alg_rings.proofs.CarrierPolynomials.{trim_polynomial}
use Rattle.alg_rings.proofs.Divisors.{Polynomial, polynomial_ops, same_polynomial, length_divisor}
use Rattle.alg_divisors.proofs.Euclidean
use Rattle.alg_divisors.proofs.EuclideanPolynomials.{polynomials_euclidean}
use Rattle.alg_rings.proofs.Modulo
use Rattle.alg_rings.proofs.Modulo.{Same}
use Rattle.alg_fields.proofs.Quotients.{IsQuotient}
use Rattle.alg_fields.proofs.Classes
use Rattle.alg_fields.proofs.ValueFields.{polynomial_of, values_quotient, values_ring}
use Rattle.alg_fields.proofs.Remainders

-- **powers by squaring**, in any ring
module _ {A : Type 0} {c : Carrier A} (P : IsPropositional c) (R : IsRing c) where
  -- the power of a sum of exponents
  pub power_sum : (a : A) → c.Valid a → (m n : ℕ)
      → power c.ops a (m + n) ≡ c.ops.mul (power c.ops a m) (power c.ops a n)
  power_sum a v m n =
      let H = underlying_homomorphism R in
      sym (power-map H (a, v) (m + n))
      ∙ ap (λ x. x.0) (Powers.power_add (element_laws P R) (a, v) m n)
      ∙ ap₂ c.ops.mul (power-map H (a, v) m) (power-map H (a, v) n)

  -- the power of a power
  pub power_of_power : (a : A) → c.Valid a → (m n : ℕ)
      → power c.ops (power c.ops a m) n ≡ power c.ops a (m * n)
  power_of_power a v m n =
      let H = underlying_homomorphism R in
      let o = element_ops R in
      ap (λ x. power c.ops x n) (sym (power-map H (a, v) m)) ∙ sym (power-map H (power o (a, v) m) n)
      ∙ ap (λ x. x.0) (Powers.power_power (element_laws P R) (a, v) m n)
      ∙ power-map H (a, v) (m * n)

  -- a power is an element
  pub power_valid : (a : A) → c.Valid a → (n : ℕ) → c.Valid (power c.ops a n)
  power_valid a v zero = R.one_valid
  power_valid a v (suc n) = R.mul_valid (power c.ops a n) a (power_valid a v n) v

  -- ---- sums and products with one member more
  pub sum_all_valid : (xs : List A) → All c.Valid xs → c.Valid (sum_all c.ops xs)
  sum_all_valid [] v = R.zero_valid
  sum_all_valid (x ∷ xs) v =
      R.add_valid x (sum_all c.ops xs) (All-head c.Valid x xs v)
      (sum_all_valid xs (All-tail c.Valid x xs v))

  product_all_valid : (xs : List A) → All c.Valid xs → c.Valid (product_all c.ops xs)
  product_all_valid [] v = R.one_valid
  product_all_valid (x ∷ xs) v =
      R.mul_valid x (product_all c.ops xs) (All-head c.Valid x xs v)
      (product_all_valid xs (All-tail c.Valid x xs v))

  sum_all_more : (xs : List A) (y : A) → All c.Valid xs → c.Valid y
      → sum_all c.ops (xs ++ y ∷ []) ≡ c.ops.add (sum_all c.ops xs) y
  sum_all_more [] y v vy = R.add_comm y c.ops.zero vy R.zero_valid
  sum_all_more (x ∷ xs) y v vy =
      let vx = All-head c.Valid x xs v in
      let vxs = All-tail c.Valid x xs v in
      ap (c.ops.add x) (sum_all_more xs y vxs vy)
      ∙ sym (R.add_assoc x (sum_all c.ops xs) y vx (sum_all_valid xs vxs) vy)

  product_all_more : (xs : List A) (y : A) → All c.Valid xs → c.Valid y
      → product_all c.ops (xs ++ y ∷ []) ≡ c.ops.mul (product_all c.ops xs) y
  product_all_more [] y v vy = R.mul_comm y c.ops.one vy R.one_valid
  product_all_more (x ∷ xs) y v vy =
      let vx = All-head c.Valid x xs v in
      let vxs = All-tail c.Valid x xs v in
      ap (c.ops.mul x) (product_all_more xs y vxs vy)
      ∙ sym (R.mul_assoc x (product_all c.ops xs) y vx (product_all_valid xs vxs) vy)

  conjugates_more : (q n : ℕ) (a : A)
      → conjugates c.ops q (n + 1) a ≡ conjugates c.ops q n a ++ power c.ops a (q ^ n) ∷ []
  conjugates_more q n a = map-range_with_len_more (λ i. power c.ops a (q ^ i)) 0 n n (omega arith)

  pub conjugates_valid : (q n : ℕ) (a : A) → c.Valid a → All c.Valid (conjugates c.ops q n a)
  conjugates_valid q zero a v = All-nil c.Valid
  conjugates_valid q (suc n) a v =
      let more : suc n ≡ n + 1 = omega arith in
      subst (All c.Valid) (sym (ap (λ m. conjugates c.ops q m a) more ∙ conjugates_more q n a))
      (All-append c.Valid (conjugates c.ops q n a) (power c.ops a (q ^ n) ∷ [])
      (conjugates_valid q n a v)
      (All-cons c.Valid (power c.ops a (q ^ n)) [] (power_valid a v (q ^ n)) (All-nil c.Valid)))

  -- **one conjugate more**
  pub sum_of_more : (q n : ℕ) (a : A) → c.Valid a
      → sum_all c.ops (conjugates c.ops q (n + 1) a)
      ≡ c.ops.add (sum_all c.ops (conjugates c.ops q n a)) (power c.ops a (q ^ n))
  sum_of_more q n a v = ap (sum_all c.ops) (conjugates_more q n a)
      ∙ sum_all_more (conjugates c.ops q n a) (power c.ops a (q ^ n)) (conjugates_valid q n a v)
      (power_valid a v (q ^ n))

  -- as a factor
  pub product_of_more : (q n : ℕ) (a : A) → c.Valid a
      → product_all c.ops (conjugates c.ops q (n + 1) a)
      ≡ c.ops.mul (product_all c.ops (conjugates c.ops q n a)) (power c.ops a (q ^ n))
  product_of_more q n a v = ap (product_all c.ops) (conjugates_more q n a)
      ∙ product_all_more (conjugates c.ops q n a) (power c.ops a (q ^ n)) (conjugates_valid q n a v)
      (power_valid a v (q ^ n))

  -- the power of a product
  power_of_product : (a b : A) → c.Valid a → c.Valid b → (n : ℕ)
      → power c.ops (c.ops.mul a b) n ≡ c.ops.mul (power c.ops a n) (power c.ops b n)
  power_of_product a b va vb n =
      let H = underlying_homomorphism R in
      let o = element_ops R in
      sym (power-map H (o.mul (a, va) (b, vb)) n)
      ∙ ap (λ x. x.0) (Powers.power_product (element_laws P R) (a, va) (b, vb) n)
      ∙ ap₂ c.ops.mul (power-map H (a, va) n) (power-map H (b, vb) n)

  power_of_one : (n : ℕ) → power c.ops c.ops.one n ≡ c.ops.one
  power_of_one n =
      let H = underlying_homomorphism R in
      sym (power-map H (c.ops.one, R.one_valid) n) ∙ ap (λ x. x.0) (Powers.power_of_one (element_laws P R) n)

  -- **the first h conjugates, and k more, which are powers of the first k**
  pub product_split : (q h k : ℕ) (a : A) → c.Valid a
      → product_all c.ops (conjugates c.ops q (h + k) a)
      ≡ c.ops.mul (product_all c.ops (conjugates c.ops q h a))
      (power c.ops (product_all c.ops (conjugates c.ops q k a)) (q ^ h))
  product_split q h zero a v =
      let x = product_all c.ops (conjugates c.ops q h a) in
      let vx = product_all_valid (conjugates c.ops q h a) (conjugates_valid q h a v) in
      ap (λ m. product_all c.ops (conjugates c.ops q m a)) (add-zero h)
      ∙ sym (R.one_mul x vx) ∙ R.mul_comm c.ops.one x R.one_valid vx
      ∙ ap (c.ops.mul x) (sym (power_of_one (q ^ h)))
  product_split q h (suc k) a v =
      let x = product_all c.ops (conjugates c.ops q h a) in
      let vx = product_all_valid (conjugates c.ops q h a) (conjugates_valid q h a v) in
      let y = product_all c.ops (conjugates c.ops q k a) in
      let vy = product_all_valid (conjugates c.ops q k a) (conjugates_valid q k a v) in
      let z = power c.ops a (q ^ k) in
      let vz = power_valid a v (q ^ k) in
      let more : h + suc k ≡ h + k + 1 = omega arith in
      let next : k + 1 ≡ suc k = omega arith in
      ap (λ m. product_all c.ops (conjugates c.ops q m a)) more
      ∙ product_of_more q (h + k) a v
      ∙ ap₂ c.ops.mul (product_split q h k a v)
      (ap (power c.ops a) (pow-add q h k ∙ mul_comm (q ^ h) (q ^ k)) ∙ sym (power_of_power a v (q ^ k) (q ^ h)))
      ∙ R.mul_assoc x (power c.ops y (q ^ h)) (power c.ops z (q ^ h)) vx (power_valid y vy (q ^ h)) (power_valid z vz (q ^ h))
      ∙ ap (c.ops.mul x) (sym (power_of_product y z vy vz (q ^ h))
      ∙ ap (λ w. power c.ops w (q ^ h)) (sym (product_of_more q k a v)
      ∙ ap (λ m. product_all c.ops (conjugates c.ops q m a)) next))

  -- the next conjugate
  pub next_conjugate : (q n : ℕ) (a : A) → c.Valid a
      → power c.ops (power c.ops a (q ^ n)) q ≡ power c.ops a (q ^ (n + 1))
  next_conjugate q n a v = let more : suc n ≡ n + 1 = omega arith in
      power_of_power a v (q ^ n) q ∙ ap (power c.ops a) (sym (pow-suc q n) ∙ ap (λ m. q ^ m) more)

module _ {A : Type 0} {c : Carrier A} (P : IsPropositional c) (F : IsField c) (f : Polynomial c)
    (not_constant : 1 < length f.0) (monic : IsMonic c f.0) where
  abbrev Q : Ops (Polynomial c)
  Q = polynomial_ops P F.ring

  abbrev E : Euclidean.EuclideanLaws (polynomial_ops P F.ring) (λ x. length x.0)
      (λ x. IsMonic c x.0)
  E = polynomials_euclidean P F

  abbrev V : IsQuotient (values c f.0) (polynomial_ops P F.ring) f
      (polynomial_of P F f not_constant monic)
  V = values_quotient P F f not_constant monic

  -- the polynomial of a value
  abbrev class : (a : List A) → (values c f.0).Valid a → Polynomial c
  class a v = (trim c.ops a, trim_polynomial P F.ring a v.0)

  -- at most as many elements as the degree, with zeros after them, are a value
  pub padded_valid : (xs : List A) → All c.Valid xs → length xs ≤ degree f.0
      → (values c f.0).Valid (padded c.ops (degree f.0) xs)
  padded_valid xs v l =
      let n = degree f.0 - length xs in (
        All-append c.Valid xs (replicate n c.ops.zero) v
            (All-replicate c.Valid n c.ops.zero F.ring.zero_valid),
        omega (arith, length-append xs (replicate n c.ops.zero), length-replicate n c.ops.zero),
      )

  -- **what a division leaves, with zeros after it, is the remainder**
  pub padded_rest : (g q r : List A) → IsPolynomial c g → IsDivision c g f.0 q r
      → padded c.ops (degree f.0) r ≡ remainder c.ops f.0 g
  padded_rest g q r v d =
      let short : length r ≤ degree f.0 = let l : length r < length f.0 = d.smaller in omega arith in
      let vp = padded_valid r d.remainder.0 short in
      let divided : Same Q f (g, v) (r, d.remainder) = record {
        quotient = (q, d.quotient);
        identity = same_polynomial P F.ring _ _ (sym d.identity);
      } in
      sym (Remainders.remainder_from_same P F f not_constant monic (g, v)
      (padded c.ops (degree f.0) r) vp
      (Modulo.same_trans E.ring
      (Modulo.same_from_equal E.ring
      (Classes.class_of_padded P F.ring (degree f.0) r d.remainder.0 vp.0
      ∙ Classes.class_of_polynomial P F.ring (r, d.remainder)))
      (Modulo.same_back E.ring divided)))

  -- ---- inverses
  trimmed_not_nil : (a : List A) → (values c f.0).Valid a → a ≢ (value_ops c.ops f.0).zero
      → trim c.ops a ≢ []
  trimmed_not_nil a v n e =
      n (sym (Remainders.remainder_of_value P F f not_constant monic a v)
      ∙ ap (remainder c.ops f.0) e)

  leading_alone : (g : List A) → length g ≡ 1 → leading c.ops g ≡ c.ops.one → g ≡ c.ops.one ∷ []
  leading_alone [] e m = absurd (omega arith)
  leading_alone (x ∷ []) e m = ap (λ y. y ∷ []) m
  leading_alone (x ∷ y ∷ g) e m = absurd (omega arith)

  module _ (irreducible : IsIrreducible c f.0) where
    -- an irreducible polynomial and a value that isn't zero have no divisor in common but one
    gcd_is_one : (a : List A) → (values c f.0).Valid a → a ≢ (value_ops c.ops f.0).zero
        → (g : List A) → IsGreatestCommonDivisor c (trim c.ops a) f.0 g → g ≡ c.ops.one ∷ []
    gcd_is_one a v n g d = ⊎_elim (λ e. leading_alone g (sym e) is_monic)
        (λ l. absurd (irreducible.no_factor g (record {
          polynomial = d.polynomial;
          monic = is_monic;
          not_constant = l;
          smaller = omega (arith, shorter, Trims.length_trim c.ops a, v.1);
          divides = d.divides_second;
        })))
        (eq-or-lt_of_le positive)
      where
        shorter : length g ≤ length (trim c.ops a)
        shorter =
            length_divisor P F g (trim c.ops a) d.polynomial (trimmed_not_nil a v n) d.divides_first

        not_nil : g ≢ []
        not_nil e =
            let s = sym d.divides_second.2 ∙ ap (poly_product c.ops d.divides_second.0) e
            ∙ ap (trim c.ops) (product_nil c.ops d.divides_second.0) in
            absurd (omega (arith, ap length s))

        positive : 1 ≤ length g
        positive = length_not_nil g not_nil

        is_monic : IsMonic c g
        is_monic = ⊎_elim (λ m. m) (λ e. absurd (not_nil e)) d.monic_or_zero

    -- **where u a + w f is the greatest common divisor of a and f, u is the inverse of a**
    pub inverse_from_bezout : (a : List A) → (values c f.0).Valid a
        → a ≢ (value_ops c.ops f.0).zero → (g u w : List A)
        → IsPolynomial c u → IsPolynomial c w → IsGreatestCommonDivisor c (trim c.ops a) f.0 g
        → poly_sum c.ops (poly_product c.ops u (trim c.ops a)) (poly_product c.ops w f.0) ≡ g
        → (value_ops c.ops f.0).mul a (remainder c.ops f.0 u) ≡ (value_ops c.ops f.0).one
    inverse_from_bezout a v n g u w vu vw d e =
        let X : Polynomial c = (u, vu) in
        let Y : Polynomial c = class a v in
        let W : Polynomial c = (w, vw) in
        let one : Q.one ≡ Q.add (Q.mul W f) (Q.mul X Y) =
        same_polynomial P F.ring _ _
        (ap (trim c.ops) (sym (gcd_is_one a v n g d)) ∙ d.polynomial.1 ∙ sym e)
        ∙ E.ring.add_comm (Q.mul X Y) (Q.mul W f) in
        let vr = Remainders.remainder_value P F f not_constant monic X in
        (values_ring P F f not_constant monic).mul_comm a (remainder c.ops f.0 u) v vr
        ∙ ap ((value_ops c.ops f.0).mul (remainder c.ops f.0 u))
        (sym (Remainders.remainder_of_value P F f not_constant monic a v))
        ∙ sym (Remainders.remainder_product P F f not_constant monic X Y)
        ∙ sym (Remainders.remainder_equal P F f not_constant monic Q.one (Q.mul X Y)
        (record { quotient = W; identity = one }))
        ∙ Remainders.remainder_one P F f not_constant monic
