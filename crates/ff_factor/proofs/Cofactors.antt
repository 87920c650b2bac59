-- Factorizations over a field: one more factor, and the cofactor of a proper factor.
use Rattle.std.proofs.Common.{◌≡◌, ◌≢◌, ℕ, ◌+◌, ◌<◌, List, [], ◌∷◌, ◌++◌, length, map, take, drop, All, refl, ap, sym, ◌∙◌, arith}
use Rattle.std.specs.List.{insert}
use Rattle.std.proofs.lemmas.List.{take-append-drop, map-append}
use Rattle.std.proofs.lemmas.List.Elements.{All-take, All-drop, All-nil, All-weaker}
use Rattle.alg_model.specs.Coefficients.{Carrier}
use Rattle.alg_model.specs.Polynomials.{trim, poly_sum, poly_product, leading}
use Rattle.alg_model.specs.Factors.{IsPolynomial, IsMonic, IsDivision, IsProperFactor, IsIrreducible}
use Rattle.alg_model.specs.Fields.{IsField}
use Rattle.alg_rings.specs.Laws.{IsPropositional, polynomials}
use Rattle.alg_rings.proofs.Elements.{on_valid₂}
use Rattle.alg_rings.proofs.Lists.{sum_nil}
use Rattle.alg_rings.proofs.CarrierPolynomials
use Rattle.alg_rings.proofs.Divisors
use Rattle.alg_rings.proofs.Divisors.{Polynomial, polynomial_laws}
use Rattle.alg_divisors.specs.Factorization.{product_of, IsFactorization}
use Rattle.alg_divisors.proofs.Factorization.{product_middle}
use Rattle.alg_divisors.proofs.EuclideanPolynomials.{polynomials_euclidean}
use Rattle.alg_divisors.proofs.PolynomialFactors.{product_of-map}
use Rattle.ff_factor.specs.PrivateSplitting.{IsCofactor}
use Rattle.ff_factor.proofs.ListInsertion.{All-insert}

module _ {A : Type 0} {c : Carrier A} (P : IsPropositional c) (F : IsField c) where
  -- a factor in the middle may stand first
  product_of_between : (fs gs : List (List A)) (f : List A) → IsPolynomial c f → All (IsPolynomial c) fs → All (IsPolynomial c) gs
      → product_of c.ops (fs ++ f ∷ gs) ≡ poly_product c.ops f (product_of c.ops (fs ++ gs))
  product_of_between fs gs f v vf vg =
      on_valid₂ (polynomials c) (λ fs gs. product_of c.ops (fs ++ f ∷ gs) ≡ poly_product c.ops f (product_of c.ops (fs ++ gs))) members fs gs vf vg
    where
      value_of : Polynomial c → List A
      value_of x = x.0

      members : (X Y : List (Polynomial c))
          → product_of c.ops (map value_of X ++ f ∷ map value_of Y) ≡ poly_product c.ops f (product_of c.ops (map value_of X ++ map value_of Y))
      members X Y =
          ap (product_of c.ops) (sym (map-append value_of X ((f, v) ∷ Y))) ∙ sym (product_of-map P F (X ++ (f, v) ∷ Y))
          ∙ ap value_of (product_middle (polynomial_laws P F.ring) X (f, v) Y)
          ∙ ap (poly_product c.ops f) (product_of-map P F (X ++ Y) ∙ ap (product_of c.ops) (map-append value_of X Y))

  -- **one more irreducible factor**
  pub factorization_insert : (fs : List (List A)) (i : ℕ) (f g : List A) → IsMonic c f → IsIrreducible c f → IsFactorization c g fs
      → IsFactorization c (poly_product c.ops f g) (insert fs i f)
  factorization_insert fs i f g m irreducible h =
      let v : All (IsPolynomial c) fs = All-weaker (IsIrreducible c) (IsPolynomial c) (λ x k. k.polynomial) fs h.irreducible in
      record {
        monic = All-insert (IsMonic c) fs i f h.monic m;
        irreducible = All-insert (IsIrreducible c) fs i f h.irreducible irreducible;
        product_is =
            product_of_between (take i fs) (drop i fs) f irreducible.polynomial (All-take (IsPolynomial c) i fs v) (All-drop (IsPolynomial c) i fs v)
            ∙ ap (λ w. poly_product c.ops f (product_of c.ops w)) (take-append-drop i fs) ∙ ap (poly_product c.ops f) h.product_is;
      }

  -- no factors yet
  pub factorization_none : IsFactorization c (trim c.ops (c.ops.one ∷ [])) []
  factorization_none = record { monic = All-nil (IsMonic c); irreducible = All-nil (IsIrreducible c); product_is = refl }

  pub monic_not_nil : (f : List A) → IsMonic c f → f ≢ []
  monic_not_nil f m z = F.one_not_zero (sym m ∙ ap (leading c.ops) z)

  -- **the quotient by a proper factor**
  pub cofactor : (f g q r : List A) → IsMonic c f → IsProperFactor c f g → IsDivision c f g q r → IsCofactor c f g q
  cofactor f g q r m factor division = record {
    polynomial = division.quotient;
    monic = monic;
    not_constant = let l : length g < length f = factor.smaller in omega (arith, lengths);
    lengths = lengths;
    product = product;
  }
    where
      none : r ≡ []
      none = (Divisors.divides_iff_no_remainder P F f g q r factor.polynomial division).0 factor.divides

      product : poly_product c.ops q g ≡ f
      product =
          sym (ap (trim c.ops) (sum_nil c.ops (poly_product c.ops q g))
          ∙ (CarrierPolynomials.poly_product_polynomial P F.ring q g division.quotient factor.polynomial).1)
          ∙ ap (poly_sum c.ops (poly_product c.ops q g)) (sym none) ∙ division.identity

      not_nil : q ≢ []
      not_nil z = monic_not_nil f m (sym product ∙ ap (λ w. poly_product c.ops w g) z)

      lengths : length q + length g ≡ length f + 1
      lengths = sym (Divisors.length_poly_product P F q g division.quotient factor.polynomial not_nil (monic_not_nil g factor.monic))
          ∙ ap (λ w. length w + 1) product

      monic : IsMonic c q
      monic = (polynomials_euclidean P F).monic_quotient (q, division.quotient) (g, factor.polynomial) (ap (leading c.ops) product ∙ m) factor.monic
