-- Factorization of polynomials over any carrier.
--     product_of o fs              the product of a list of polynomials
--     IsFactorization c f fs       f is the product of fs, which are monic and irreducible
--     AreCoprime c a b             one is a combination of a and b
use Rattle.std.specs.Prelude.{◌≡◌, List, [], ◌∷◌, All}
use Rattle.alg_model.specs.Coefficients.{Ops, Carrier}
use Rattle.alg_model.specs.Polynomials.{trim, poly_sum, poly_product}
use Rattle.alg_model.specs.Factors.{IsPolynomial, IsMonic, IsIrreducible}

-- f_1 * (f_2 * .. ), one for the empty list
abbrev pub product_of : {A : Type 0} → Ops A → List (List A) → List A
product_of o [] = trim o (o.one ∷ [])
product_of o (f ∷ fs) = poly_product o f (product_of o fs)

pub record IsFactorization {A : Type 0} (c : Carrier A) (f : List A) (fs : List (List A))
    : Type 0 where
  pub monic : All (IsMonic c) fs
  pub irreducible : All (IsIrreducible c) fs
  pub product_is : product_of c.ops fs ≡ f

-- u * a + w * b = g for polynomials u and w
pub record IsCombination {A : Type 0} (c : Carrier A) (a b g : List A) : Type 0 where
  pub first : List A
  pub second : List A
  pub first_polynomial : IsPolynomial c first
  pub second_polynomial : IsPolynomial c second
  pub identity : poly_sum c.ops (poly_product c.ops first a) (poly_product c.ops second b) ≡ g

abbrev pub AreCoprime : {A : Type 0} → Carrier A → List A → List A → Type 0
AreCoprime c a b = IsCombination c a b (trim c.ops (c.ops.one ∷ []))
