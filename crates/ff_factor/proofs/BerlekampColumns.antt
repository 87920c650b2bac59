-- The matrix of v -> v^p - v modulo a monic f over a field of characteristic p whose elements are their own powers p: a
-- combination of its columns is the remainder of v^p - v, for the v with the combination's factors as coefficients.
use Rattle.std.proofs.Common.{◌≡◌, ℕ, suc, ◌+◌, ◌*◌, ◌<◌, List, [], ◌∷◌, map, length, All, refl, ap, ap₂, sym, ◌∙◌, add-one, mul_comm}
use Rattle.std.specs.List.{range_with_len}
use Rattle.std.proofs.lemmas.List.Elements.{All-nil, All-cons, All-head, All-tail}
use Rattle.alg_model.specs.Coefficients.{Ops, Carrier, times, power}
use Rattle.alg_model.specs.Polynomials.{sum, scale, product, trim, poly_power, poly_difference, evaluate}
use Rattle.alg_model.specs.Factors.{IsPolynomial, IsMonic}
use Rattle.alg_model.specs.Fields.{IsField}
use Rattle.alg_model.specs.Values.{degree, remainder, values}
use Rattle.alg_model.specs.Matrices.{combination}
use Rattle.alg_rings.specs.Laws.{RingLaws, IsPropositional}
use Rattle.alg_rings.proofs.Lists
use Rattle.alg_rings.proofs.Homomorphisms
use Rattle.alg_rings.proofs.Homomorphisms.{Homomorphism}
use Rattle.alg_rings.proofs.Elements.{Element, underlying, element_ops, underlying_homomorphism, on_valid, element_laws}
use Rattle.alg_rings.proofs.Validity.{scale_valid, product_valid}
use Rattle.alg_rings.proofs.CarrierPolynomials.{trimmed_from_leading}
use Rattle.alg_rings.proofs.Divisors.{Polynomial, polynomial_ops, same_polynomial}
use Rattle.alg_divisors.proofs.Euclidean
use Rattle.alg_divisors.proofs.EuclideanPolynomials.{polynomials_euclidean}
use Rattle.alg_rings.proofs.Powers
use Rattle.alg_rings.proofs.Rings
use Rattle.alg_model.specs.Coefficients.{IsPrime}
use Rattle.alg_rings.proofs.Modulo
use Rattle.alg_rings.proofs.Modulo.{Same}
use Rattle.alg_fields.proofs.Classes
use Rattle.alg_fields.proofs.Classes.{class_of}
use Rattle.alg_fields.proofs.Constants
use Rattle.alg_fields.proofs.Constants.{constant, alone}
use Rattle.alg_fields.proofs.Remainders
use Rattle.alg_fields.proofs.Remainders.{remainder_value, same_as_value, remainder_from_same, remainder_equal, remainder_of_value, same_from_remainder}
use Rattle.alg_fields.proofs.Generator.{generator, value_at_generator}
use Rattle.alg_rings.proofs.Divisors.{power_is}
use Rattle.ff_factor.specs.Certificates.{berlekamp_column}
use Rattle.ff_factor.proofs.Compositions
use Rattle.ff_factor.proofs.Compositions.{gaps}

shared_factor : {R : Type 0} {o : Ops R} (L : RingLaws o) (a y x v : R) → o.add (o.mul a y) (o.mul (o.mul y x) v) ≡ o.mul y (o.add a (o.mul x v))
shared_factor {o = o} L a y x v = ap₂ o.add (L.mul_comm a y) (L.mul_assoc y x v) ∙ sym (L.mul_add y a (o.mul x v))

-- the polynomial x
abbrev pub variable : {A : Type 0} → Ops A → List A
variable o = o.zero ∷ o.one ∷ []

module _ {A : Type 0} {c : Carrier A} (P : IsPropositional c) (F : IsField c) where
  abbrev E : Ops (Element c)
  E = element_ops F.ring

  abbrev Q : Ops (Polynomial c)
  Q = polynomial_ops P F.ring

  abbrev H : Homomorphism (element_ops F.ring) c.ops (underlying c)
  H = underlying_homomorphism F.ring

  abbrev U : Euclidean.EuclideanLaws (polynomial_ops P F.ring) (λ x. length x.0) (λ x. IsMonic c x.0)
  U = polynomials_euclidean P F

  variable_valid : All c.Valid (variable c.ops)
  variable_valid = All-cons c.Valid c.ops.zero (c.ops.one ∷ []) F.ring.zero_valid (All-cons c.Valid c.ops.one [] F.ring.one_valid (All-nil c.Valid))

  pub variable_polynomial : IsPolynomial c (variable c.ops)
  variable_polynomial = (variable_valid, trimmed_from_leading P F.ring (variable c.ops) variable_valid F.one_not_zero)

  -- the powers of x
  pub power_of_generator : (n : ℕ) → (power Q (generator P F.ring) n).0 ≡ poly_power c.ops (variable c.ops) n
  power_of_generator n = power_is P F.ring (generator P F.ring) n ∙ ap (λ w. poly_power c.ops w n) variable_polynomial.1

  scale_on_valid : (a : A) (xs : List A) → c.Valid a → All c.Valid xs → product c.ops (a ∷ []) xs ≡ scale c.ops a xs
  scale_on_valid a xs va v = on_valid c (λ xs. product c.ops (a ∷ []) xs ≡ scale c.ops a xs)
      (λ X. sym (Homomorphisms.product-map H ((a, va) ∷ []) X)
      ∙ ap (map (underlying c)) (Lists.constant_product (element_laws P F.ring) (a, va) X)
      ∙ Homomorphisms.scale-map H (a, va) X) xs v

  abbrev x : Polynomial c
  x = generator P F.ring

  module _ (p : ℕ) where
    -- x^(k p) - x^k
    abbrev gap : ℕ → Polynomial c
    gap k = Q.add (power Q (power Q x p) k) (Q.neg (power Q x k))

    gap_is : (k : ℕ) → (gap k).0 ≡ poly_difference c.ops (poly_power c.ops (variable c.ops) (k * p)) (poly_power c.ops (variable c.ops) k)
    gap_is k = ap₂ (poly_difference c.ops)
        (ap (λ w. w.0) (Powers.power_power U.ring x p k ∙ ap (power Q x) (mul_comm p k)) ∙ power_of_generator (k * p))
        (power_of_generator k)

    module _ (f : Polynomial c) (not_constant : 1 < length f.0) (monic : IsMonic c f.0) where
      column_is : (k : ℕ) → remainder c.ops f.0 (gap k).0 ≡ berlekamp_column c.ops p f.0 k
      column_is k = ap (remainder c.ops f.0) (gap_is k)

      -- the remainder of a multiple by a constant
      remainder_of_multiple : (a : Element c) (g : Polynomial c) → remainder c.ops f.0 (Q.mul (constant P F.ring a) g).0 ≡ scale c.ops a.0 (remainder c.ops f.0 g.0)
      remainder_of_multiple a g =
          let r = remainder c.ops f.0 g.0 in
          let vr = remainder_value P F f not_constant monic g in
          let vs = scale_valid F.ring a.0 r a.1 vr.0 in
          let vp = product_valid F.ring (a.0 ∷ []) r (alone P F.ring a) vr.0 in
          remainder_from_same P F f not_constant monic (Q.mul (constant P F.ring a) g) (scale c.ops a.0 r) (vs, Lists.length_scale c.ops a.0 r ∙ vr.1)
          (Modulo.same_trans U.ring
          (Modulo.same_from_equal U.ring
          (same_polynomial P F.ring (class_of P F.ring (scale c.ops a.0 r) vs) (class_of P F.ring (product c.ops (a.0 ∷ []) r) vp)
          (ap (trim c.ops) (sym (scale_on_valid a.0 r a.1 vr.0)))
          ∙ Classes.class_of_product P F.ring (a.0 ∷ []) r (alone P F.ring a) vr.0 vp))
          (Modulo.same_product U.ring (Modulo.same_itself U.ring f (constant P F.ring a)) (same_as_value P F f not_constant monic g)))

      combination_is : (j : ℕ) (X : List (Element c))
          → combination c.ops (degree f.0) (map (berlekamp_column c.ops p f.0) (range_with_len j (length (map (underlying c) X)))) (map (underlying c) X)
          ≡ remainder c.ops f.0 (gaps Q x (power Q x p) j (map (constant P F.ring) X)).0
      combination_is j [] = refl
      combination_is j (a ∷ X) =
          let rest : ℕ → Polynomial c = λ i. gaps Q x (power Q x p) i (map (constant P F.ring) X) in
          ap₂ (sum c.ops)
          (ap (scale c.ops a.0) (sym (column_is j)) ∙ sym (remainder_of_multiple a (gap j)))
          (combination_is (j + 1) X ∙ ap (λ i. remainder c.ops f.0 (rest i).0) (add-one j))
          ∙ sym (Remainders.remainder_sum P F f not_constant monic (Q.mul (constant P F.ring a) (gap j)) (rest (suc j)))

      -- ---- combinations of the powers x^j, x^(j + 1), ..
      abbrev powers : ℕ → List (Element c) → Polynomial c
      powers j [] = Q.zero
      powers j (a ∷ X) = Q.add (Q.mul (constant P F.ring a) (power Q x j)) (powers (suc j) X)

      powers_is : (j : ℕ) (X : List (Element c)) → powers j X ≡ Q.mul (power Q x j) (evaluate Q (map (constant P F.ring) X) x)
      powers_is j [] = sym (Rings.mul_zero U.ring (power Q x j))
      powers_is j (a ∷ X) =
          ap (Q.add (Q.mul (constant P F.ring a) (power Q x j))) (powers_is (suc j) X)
          ∙ shared_factor U.ring (constant P F.ring a) (power Q x j) x (evaluate Q (map (constant P F.ring) X) x)

      power_combination_is : (j : ℕ) (X : List (Element c))
          → combination c.ops (degree f.0) (map (λ k. remainder c.ops f.0 (poly_power c.ops (variable c.ops) k)) (range_with_len j (length (map (underlying c) X)))) (map (underlying c) X)
          ≡ remainder c.ops f.0 (powers j X).0
      power_combination_is j [] = refl
      power_combination_is j (a ∷ X) =
          ap₂ (sum c.ops)
          (ap (scale c.ops a.0) (ap (remainder c.ops f.0) (sym (power_of_generator j))) ∙ sym (remainder_of_multiple a (power Q x j)))
          (power_combination_is (j + 1) X ∙ ap (λ i. remainder c.ops f.0 (powers i X).0) (add-one j))
          ∙ sym (Remainders.remainder_sum P F f not_constant monic (Q.mul (constant P F.ring a) (power Q x j)) (powers (suc j) X))

      powers_combination : (j : ℕ) (xs : List A) (v : All c.Valid xs)
          → combination c.ops (degree f.0) (map (λ k. remainder c.ops f.0 (poly_power c.ops (variable c.ops) k)) (range_with_len j (length xs))) xs
          ≡ remainder c.ops f.0 (Q.mul (power Q x j) (class_of P F.ring xs v)).0
      powers_combination j xs v =
          on_valid c (λ xs. (v : All c.Valid xs)
          → combination c.ops (degree f.0) (map (λ k. remainder c.ops f.0 (poly_power c.ops (variable c.ops) k)) (range_with_len j (length xs))) xs
          ≡ remainder c.ops f.0 (Q.mul (power Q x j) (class_of P F.ring xs v)).0) at xs v v
        where
          at : (X : List (Element c)) (v : All c.Valid (map (underlying c) X))
              → combination c.ops (degree f.0) (map (λ k. remainder c.ops f.0 (poly_power c.ops (variable c.ops) k)) (range_with_len j (length (map (underlying c) X)))) (map (underlying c) X)
              ≡ remainder c.ops f.0 (Q.mul (power Q x j) (class_of P F.ring (map (underlying c) X) v)).0
          at X v = power_combination_is j X
              ∙ ap (λ g. remainder c.ops f.0 g.0) (powers_is j X ∙ ap (Q.mul (power Q x j)) (value_at_generator P F.ring X v))

      -- **the powers x^j, x^(j + 1), .. by the places of x^e add up to x^(e + j) modulo f**
      pub table_combination : (j e : ℕ) (xs : List A) (v : (values c f.0).Valid xs) → xs ≡ remainder c.ops f.0 (poly_power c.ops (variable c.ops) e)
          → combination c.ops (degree f.0) (map (λ k. remainder c.ops f.0 (poly_power c.ops (variable c.ops) k)) (range_with_len j (length xs))) xs
          ≡ remainder c.ops f.0 (poly_power c.ops (variable c.ops) (e + j))
      table_combination j e xs v same =
          powers_combination j xs v.0
          ∙ remainder_equal P F f not_constant monic (Q.mul (power Q x j) (class_of P F.ring xs v.0)) (power Q x (e + j))
          (Modulo.same_trans U.ring
          (Modulo.same_product U.ring (Modulo.same_itself U.ring f (power Q x j))
          (same_from_remainder P F f not_constant monic (class_of P F.ring xs v.0) (power Q x e)
          (remainder_of_value P F f not_constant monic xs v ∙ same ∙ ap (remainder c.ops f.0) (sym (power_of_generator e)))))
          (Modulo.same_from_equal U.ring (U.ring.mul_comm (power Q x j) (power Q x e) ∙ sym (Powers.power_add U.ring x e j))))
          ∙ ap (remainder c.ops f.0) (power_of_generator (e + j))

      module _ (prime : IsPrime p) (characteristic : times (polynomial_ops P F.ring) p (polynomial_ops P F.ring).one ≡ (polynomial_ops P F.ring).zero)
          (fixed : (a : Element c) → power (element_ops F.ring) a p ≡ a) where
        constants_fixed : (xs : List (Element c)) → All (λ a. power Q a p ≡ a) (map (constant P F.ring) xs)
        constants_fixed [] = All-nil (λ a. power Q a p ≡ a)
        constants_fixed (a ∷ xs) =
            All-cons (λ a. power Q a p ≡ a) (constant P F.ring a) (map (constant P F.ring) xs)
            (sym (Homomorphisms.power-map (Constants.constant_homomorphism P F.ring) a p) ∙ ap (constant P F.ring) (fixed a)) (constants_fixed xs)

        -- **the columns 1, 2, .. by the coefficients 1, 2, .. of v add up to v^p - v modulo f**
        pub columns_combination : (a : A) (xs : List A) (v : All c.Valid (a ∷ xs))
            → combination c.ops (degree f.0) (map (berlekamp_column c.ops p f.0) (range_with_len 1 (length xs))) xs
            ≡ remainder c.ops f.0 (Q.add (power Q (class_of P F.ring (a ∷ xs) v) p) (Q.neg (class_of P F.ring (a ∷ xs) v))).0
        columns_combination a xs v =
            on_valid c (λ xs. (v : All c.Valid (a ∷ xs)) → combination c.ops (degree f.0) (map (berlekamp_column c.ops p f.0) (range_with_len 1 (length xs))) xs
            ≡ remainder c.ops f.0 (Q.add (power Q (class_of P F.ring (a ∷ xs) v) p) (Q.neg (class_of P F.ring (a ∷ xs) v))).0)
            at xs (All-tail c.Valid a xs v) v
          where
            at : (X : List (Element c)) (v : All c.Valid (a ∷ map (underlying c) X))
                → combination c.ops (degree f.0) (map (berlekamp_column c.ops p f.0) (range_with_len 1 (length (map (underlying c) X)))) (map (underlying c) X)
                ≡ remainder c.ops f.0 (Q.add (power Q (class_of P F.ring (a ∷ map (underlying c) X) v) p) (Q.neg (class_of P F.ring (a ∷ map (underlying c) X) v))).0
            at X v =
                let b : Element c = (a, All-head c.Valid a (map (underlying c) X) v) in
                let cs = map (constant P F.ring) (b ∷ X) in
                combination_is 1 X
                ∙ ap (λ g. remainder c.ops f.0 g.0)
                (Compositions.gaps_without_constant U.ring x (power Q x p) (constant P F.ring b) (map (constant P F.ring) X)
                ∙ ap (λ w. Q.add w (Q.neg (evaluate Q cs x)))
                (sym (Compositions.power_of_value U.ring p prime characteristic cs (constants_fixed (b ∷ X)) x))
                ∙ ap (λ w. Q.add (power Q w p) (Q.neg w)) (value_at_generator P F.ring (b ∷ X) v))
