-- Berlekamp's facts on polynomials over a field with q elements: factors from fixed polynomials, and the certificate of
-- irreducibility.
use Rattle.std.proofs.Common.{ap₂, ◌∷◌, ◌≡◌, ◌≢◌, ◌⊎◌, ◌↔◌, pow-suc, ⊎_elim, inl, inr, ℕ, zero, suc, ◌^◌, ◌<◌, ◌≤◌, List, [], map, length, slice_index_or, All, AllPairs, Contains, refl, ap, sym, ◌∙◌, subst, arith}
use Rattle.std.proofs.lemmas.List.{length-map, get_or-map}
use Rattle.std.proofs.lemmas.List.Elements.{All-map, Contains-get_or}
use Rattle.alg_model.specs.Coefficients.{Carrier, times, power}
use Rattle.alg_model.specs.Polynomials.{derivative, poly_product, poly_difference, poly_power}
use Rattle.alg_model.specs.Factors.{IsPolynomial, IsMonic, Divides, IsGreatestCommonDivisor, IsProperFactor, IsIrreducible}
use Rattle.alg_model.specs.Fields.{IsField}
use Rattle.alg_model.specs.Coefficients.{IsPrime}
use Rattle.alg_rings.proofs.Powers
use Rattle.alg_rings.specs.Laws.{IsPropositional}
use Rattle.alg_rings.proofs.Homomorphisms.{power-map}
use Rattle.alg_rings.proofs.Trims
use Rattle.alg_rings.proofs.Elements.{Element, element_ops, element_laws}
use Rattle.alg_rings.proofs.Divisors.{Polynomial, polynomial_ops, same_polynomial, power_is}
use Rattle.alg_rings.proofs.Divisibility
use Rattle.alg_rings.proofs.Modulo
use Rattle.alg_rings.proofs.Modulo.{Same}
use Rattle.alg_rings.proofs.Rings
use Rattle.alg_divisors.proofs.LeastFactors.{contains_from_map}
use Rattle.alg_divisors.specs.Factorization.{AreCoprime, product_of}
use Rattle.alg_divisors.proofs.Euclidean
use Rattle.alg_divisors.proofs.Gcd
use Rattle.alg_divisors.proofs.Irreducible
use Rattle.alg_divisors.proofs.Factorization
use Rattle.alg_divisors.proofs.EuclideanPolynomials.{over_field}
use Rattle.alg_divisors.proofs.PolynomialFactors.{divides_to, divides_from, combination_to, combination_from, proper_to, irreducible_to, irreducible_from, gcd_to, gcd_unique, product_of-map}
use Rattle.alg_fields.specs.Fixed.{IsFixed, less_constant, IsCertified}
use Rattle.alg_fields.proofs.Berlekamp
use Rattle.alg_fields.proofs.Berlekamp.{Fixed, differences}
use Rattle.alg_fields.proofs.Constants
use Rattle.alg_fields.proofs.Constants.{constant, constant_homomorphism, constant_injective}
use Rattle.alg_fields.proofs.Derivatives
use Rattle.alg_fields.proofs.Derivations
use Rattle.alg_fields.proofs.Derivations.{derivative_of, product_rule}
use Rattle.alg_fields.proofs.FermatProduct
use Rattle.alg_fields.proofs.FiniteFields.{FieldOfSize}
use Rattle.alg_fields.proofs.Squares
use Rattle.alg_fields.proofs.Gcds

module _ {A : Type 0} {c : Carrier A} (P : IsPropositional c) (F : IsField c) where
  open over_field P F use {ops as Q, laws as E}

  pub fixed_to : (q : ℕ) (f v : Polynomial c) → Fixed (polynomial_ops P F.ring) q f v → IsFixed c q f.0 v.0
  fixed_to q f v h =
      subst (λ w. Divides c f.0 (poly_difference c.ops w v.0)) (power_is P F.ring v q)
      (divides_to P F f (Q.add (power Q v q) (Q.neg v)) (Modulo.divides_from_same E.ring h))

  pub fixed_from : (q : ℕ) (f v : Polynomial c) → IsFixed c q f.0 v.0 → Fixed (polynomial_ops P F.ring) q f v
  fixed_from q f v h =
      Modulo.same_from_divides E.ring (divides_from P F f (Q.add (power Q v q) (Q.neg v))
      (subst (λ w. Divides c f.0 (poly_difference c.ops w v.0)) (sym (power_is P F.ring v q)) h))

  -- ---- squares
  pub square_divides_derivative : (f g : List A) → IsPolynomial c f → IsPolynomial c g → Divides c (poly_product c.ops g g) f → Divides c g (derivative c.ops f)
  square_divides_derivative f g vf vg d =
      let x : Polynomial c = (f, vf) in
      let y : Polynomial c = (g, vg) in
      divides_to P F y (derivative_of P F.ring x)
      (Squares.square_divides_derivative E.ring (product_rule P F.ring) (divides_from P F (Q.mul y y) x d))

  pub square_free : (f g : List A) → IsPolynomial c f → IsPolynomial c g → AreCoprime c f (derivative c.ops f) → Divides c (poly_product c.ops g g) f
      → length g ≡ 1
  square_free f g vf vg k d =
      let x : Polynomial c = (f, vf) in
      let y : Polynomial c = (g, vg) in
      Squares.square_free E (product_rule P F.ring) (combination_from P F x (derivative_of P F.ring x) Q.one k) (divides_from P F (Q.mul y y) x d)

  -- f coprime to its derivative is a product of coprime factors alone
  pub coprime_factors : (f g h : List A) → IsPolynomial c f → IsPolynomial c g → IsPolynomial c h → AreCoprime c f (derivative c.ops f)
      → poly_product c.ops g h ≡ f → AreCoprime c g h
  coprime_factors f g h vf vg vh k e =
      let x : Polynomial c = (f, vf) in
      let y : Polynomial c = (g, vg) in
      let z : Polynomial c = (h, vh) in
      combination_to P F y z Q.one
      (Squares.coprime_factors E.ring (product_rule P F.ring) y z (combination_from P F x (derivative_of P F.ring x) Q.one k) (same_polynomial P F.ring (Q.mul y z) x e))

  -- a product of coprime factors that aren't constant has a fixed polynomial that isn't constant
  pub fixed_from_factors : (q : ℕ) (f g h : List A) → 0 < q → IsPolynomial c f → IsPolynomial c g → IsPolynomial c h → AreCoprime c g h
      → poly_product c.ops g h ≡ f → 1 < length g → 1 < length h
      → (v : List A) × IsPolynomial c v × (length v < length f) × IsFixed c q f v × (1 < length v)
  fixed_from_factors zero f g h l vf vg vh k e lg lh = absurd (omega arith)
  fixed_from_factors (suc n) f g h l vf vg vh k e lg lh =
      let x : Polynomial c = (f, vf) in
      let y : Polynomial c = (g, vg) in
      let z : Polynomial c = (h, vh) in
      let v : (v : Polynomial c) × (length v.0 < length f) × Fixed Q (suc n) x v × (1 < length v.0) =
      Berlekamp.fixed_from_factors E n (combination_from P F y z Q.one k) (same_polynomial P F.ring (Q.mul y z) x e) lg lh in
      (v.0.0, v.0.1, v.1, fixed_to (suc n) x v.0 v.2, v.3)

  -- **a certified polynomial is irreducible**
  pub irreducible_from_certificate : (q : ℕ) (f : List A) → 0 < q → IsPolynomial c f → 1 < length f → IsCertified c q f → IsIrreducible c f
  irreducible_from_certificate zero f l vf lf k = absurd (omega arith)
  irreducible_from_certificate (suc n) f l vf lf k =
      let x : Polynomial c = (f, vf) in
      irreducible_to P F x (Berlekamp.irreducible_from_certificate E (product_rule P F.ring) n lf
      (combination_from P F x (derivative_of P F.ring x) Q.one k.separable)
      (λ v m h. k.only_constants v.0 v.1 m (fixed_to (suc n) x v h)))

  module _ (q : ℕ) (K : FieldOfSize F.ring q) where
    zero_element : Element c
    zero_element = (c.ops.zero, F.ring.zero_valid)

    constants : List (Polynomial c)
    constants = map (constant P F.ring) K.members

    constants_distinct : AllPairs (λ a b. a ≢ b) constants
    unfolding constants
    constants_distinct i j d l h e =
        let m : j < length K.members = omega (arith, length-map K.members (constant P F.ring), h) in
        K.distinct i j zero_element l m
        (constant_injective P F.ring (slice_index_or K.members i zero_element) (slice_index_or K.members j zero_element)
        (sym (get_or-map (constant P F.ring) K.members i zero_element d (omega arith)) ∙ e ∙ get_or-map (constant P F.ring) K.members j zero_element d m))

    constants_fixed : All (λ a. power Q a q ≡ a) constants
    unfolding constants
    constants_fixed = All-map (λ a. power Q a q ≡ a) (constant P F.ring) K.members
        (λ i d l. let b = slice_index_or K.members i d in sym (power-map (constant_homomorphism P F.ring) b q) ∙ ap (constant P F.ring) (K.fixed b))

    length_constants : length constants ≡ q
    unfolding constants
    length_constants = length-map K.members (constant P F.ring) ∙ K.count

    product_of_differences : (v : Polynomial c) → Factorization.product Q (differences Q v constants) ≡ Q.add (power Q v q) (Q.neg v)
    product_of_differences v =
        FermatProduct.fermat_product E.ring (λ a b e n. Euclidean.factor_zero E a b n e) q K.above_one constants length_constants constants_distinct
        constants_fixed v

    constant_of : (a : Polynomial c) → Contains constants a → (b : Element c) × Contains K.members b × (constant P F.ring b ≡ a)
    unfolding constants
    constant_of a h = contains_from_map (constant P F.ring) zero_element K.members a h

    length_of_constant : (a : Polynomial c) → Contains constants a → length a.0 ≤ 1
    length_of_constant a h =
        let b = constant_of a h in omega (arith, Constants.length_constant P F.ring b.0, ap (λ g. length g.0) b.2)

    -- **a fixed v is a constant modulo f, or f has a proper factor in common with some v - a**
    pub fixed_splits : (f v : List A) → IsPolynomial c f → IsPolynomial c v → 1 < length f → IsFixed c q f v
        → (a : A) × c.Valid a × (Divides c f (less_constant c.ops v a)
        ⊎ ((g : List A) × IsGreatestCommonDivisor c f (less_constant c.ops v a) g × IsProperFactor c f g))
    fixed_splits f v vf vv l h = (
      b.0.0,
      b.0.1,
      ⊎_elim
          (λ s. inl (divides_to P F x (Q.add y (Q.neg (constant P F.ring b.0))) (Modulo.divides_from_same E.ring (subst (Same Q x y) (sym b.2) s))))
          (λ g. inr (
            g.0.0,
            gcd_to P F x (Q.add y (Q.neg (constant P F.ring b.0))) g.0 (inl g.2.monic) (subst (λ a. Gcd.Gcd Q x (Q.add y (Q.neg a)) g.0) (sym b.2) g.1),
            proper_to P F x g.0 g.2,
          ))
          r.2,
    )
      where
        x : Polynomial c
        x = (f, vf)

        y : Polynomial c
        y = (v, vv)

        r : (a : Polynomial c) × Contains constants a × (Same Q x y a
            ⊎ ((g : Polynomial c) × Gcd.Gcd Q x (Q.add y (Q.neg a)) g × Irreducible.ProperFactor Q (λ g. length g.0) (λ g. IsMonic c g.0) x g))
        r = Berlekamp.fixed_splits E q constants (product_of_differences y) l (fixed_from q x y h)

        b : (b : Element c) × Contains K.members b × (constant P F.ring b ≡ r.0)
        b = constant_of r.0 r.1

    -- differences of members are units, so all v - a are pairwise coprime
    member_difference : (a b : Polynomial c) → Contains constants a → Contains constants b → a ≢ b → Divisibility.Divides Q (Q.add b (Q.neg a)) Q.one
    member_difference a b ma mb n =
        let d : Polynomial c = Q.add b (Q.neg a) in
        let not_zero : d ≢ Q.zero = λ z. n (sym (Rings.same_from_difference E.ring b a z)) in
        let l : length d.0 ≤ 1 = omega (arith, Trims.length_poly_difference c.ops b.0 a.0, length_of_constant a ma, length_of_constant b mb) in
        Euclidean.inverse_of_unit E d (omega (arith, Euclidean.size_positive E d not_zero))

    differences_coprime : (y : Polynomial c) → AllPairs (λ a b. Gcd.Coprime Q a b) (differences Q y constants)
    differences_coprime y i j d l h =
        let less : Polynomial c → Polynomial c = λ a. Q.add y (Q.neg a) in
        let m : j < length constants = omega (arith, length-map constants less, h) in
        let a : Polynomial c = slice_index_or constants i Q.zero in
        let b : Polynomial c = slice_index_or constants j Q.zero in
        subst (λ t. Gcd.Coprime Q t (slice_index_or (differences Q y constants) j d)) (sym (get_or-map less constants i Q.zero d (omega arith)))
        (subst (λ t. Gcd.Coprime Q (less a) t) (sym (get_or-map less constants j Q.zero d m))
        (Gcds.coprime_differences E.ring y (member_difference a b (Contains-get_or constants i Q.zero (omega arith)) (Contains-get_or constants j Q.zero m)
        (constants_distinct i j Q.zero l m))))

    -- **a monic f is the product of its greatest common divisors with all v - a**, for a fixed v
    pub product_of_gcds : (f v : List A) → IsPolynomial c f → IsMonic c f → IsPolynomial c v → IsFixed c q f v
        → (gcd : Element c → List A) → ((a : Element c) → IsGreatestCommonDivisor c f (less_constant c.ops v a.0) (gcd a))
        → product_of c.ops (map gcd K.members) ≡ f
    unfolding constants
    product_of_gcds f v vf m vv h gcd is_gcd =
        ap (product_of c.ops) (sym (same K.members))
        ∙ sym (product_of-map P F (Gcds.gcds E x (differences Q y constants)))
        ∙ ap (λ g. g.0) (Gcds.product_of_gcds E x m (differences Q y constants) (differences_coprime y)
        (Berlekamp.fixed_divides_product E.ring q constants (product_of_differences y) (fixed_from q x y h)))
      where
        x : Polynomial c
        x = (f, vf)

        y : Polynomial c
        y = (v, vv)

        each : (a : Element c) → (Gcd.monic_gcd E x (Q.add y (Q.neg (constant P F.ring a)))).0.0 ≡ gcd a
        each a =
            let g = Gcd.monic_gcd E x (Q.add y (Q.neg (constant P F.ring a))) in
            gcd_unique P F
            (gcd_to P F x (Q.add y (Q.neg (constant P F.ring a))) g.0 (⊎_elim inl (λ e. inr (ap (λ h. h.0) e)) g.1) g.2) (is_gcd a)

        same : (ms : List (Element c)) → map (λ g. g.0) (Gcds.gcds E x (differences Q y (map (constant P F.ring) ms))) ≡ map gcd ms
        same [] = refl
        same (a ∷ ms) = ap₂ ◌∷◌ (each a) (same ms)

    -- what is fixed modulo an irreducible f and shorter is constant
    pub fixed_constant : (f v : List A) → IsIrreducible c f → IsPolynomial c v → length v < length f → IsFixed c q f v → length v ≤ 1
    fixed_constant f v i vv l h =
        let x : Polynomial c = (f, i.polynomial) in
        let y : Polynomial c = (v, vv) in
        length_of_constant y (Berlekamp.fixed_constant E q constants (irreducible_from P F x i) (product_of_differences y)
        (λ a m. omega (arith, Trims.length_poly_difference c.ops v a.0, length_of_constant a m, i.not_constant)) (fixed_from q x y h))

    module _ (p k : ℕ) (prime : IsPrime p) (characteristic : times (element_ops F.ring) p (element_ops F.ring).one ≡ (element_ops F.ring).zero)
        (is_power : q ≡ p ^ suc k) where
      root : Element c → Element c
      root a = power (element_ops F.ring) a (p ^ k)

      root_is : (a : Element c) → power (element_ops F.ring) (root a) p ≡ a
      unfolding root
      root_is a =
          Powers.power_power (element_laws P F.ring) a (p ^ k) p ∙ ap (power (element_ops F.ring) a) (sym (pow-suc p k) ∙ sym is_power) ∙ K.fixed a

      -- an irreducible f is coprime to its derivative
      pub irreducible_separable : (f : List A) → IsIrreducible c f → AreCoprime c f (derivative c.ops f)
      irreducible_separable f i =
          let x : Polynomial c = (f, i.polynomial) in
          combination_to P F x (derivative_of P F.ring x) Q.one
          (Berlekamp.coprime_derivative E (derivative_of P F.ring) p (irreducible_from P F x i) (let l : 1 < p = prime.above_one in l)
          (Derivatives.length_derivative c.ops f (omega (arith, i.not_constant)))
          (Derivations.root_from_derivative P F.ring p prime characteristic root root_is x))

      -- **the converse**: an irreducible polynomial is certified
      pub certificate_of_irreducible : (f : List A) → IsIrreducible c f → IsCertified c q f
      certificate_of_irreducible f i = record {
        separable = irreducible_separable f i;
        only_constants = λ v vv l h. fixed_constant f v i vv l h;
      }

      -- the polynomials with derivative zero are the powers p
      pub derivative_zero_iff : (f : List A) → IsPolynomial c f
          → (derivative c.ops f ≡ []) ↔ ((g : List A) × IsPolynomial c g × (poly_power c.ops g p ≡ f))
      derivative_zero_iff f vf = (
        (λ e. let g = Derivations.root_from_derivative P F.ring p prime characteristic root root_is (f, vf) (same_polynomial P F.ring _ _ e) in
            (g.0.0, g.0.1, sym (power_is P F.ring g.0 p) ∙ ap (λ h. h.0) g.1)),
        (λ g. ap (λ h. h.0) (Derivations.derivative_from_root P F.ring p prime characteristic (f, vf) (g.0, g.1)
            (same_polynomial P F.ring _ _ (power_is P F.ring (g.0, g.1) p ∙ g.2)))),
      )
