-- Divisors of polynomials over any carrier: a polynomial has valid coefficients and no zero at its
-- end.
--     IsPolynomial c f             f is a polynomial over c
--     IsMonic c f                  its last coefficient is one
--     Divides c g f                some polynomial times g is f
--     IsDivision c f d q r         f = q * d + r, and r has fewer coefficients than d
--     IsGreatestCommonDivisor c a b g     g divides both, each common divisor divides g, and g is
--                                         monic or zero
--     IsProperFactor c f g         a monic divisor of f, of degree above 0 and below that of f
--     IsIrreducible c f              f isn't constant and has no proper factor
--     order_by cmp f g             number of coefficients first, then from the highest place down
--     IsLeastFactor c cmp f g      g is the first proper factor of f in this order
use Rattle.std.specs.Prelude.{◌≡◌, ◌⊎◌, ◌<◌, List, [], ◌∷◌, length, All}
use Rattle.std.specs.declared.cmp.Ordering.{Ordering}
use Rattle.std.specs.declared.cmp.Ordering.TheVariants.{Less, Equal, Greater}
use Rattle.std.specs.Ordering.{ordering_then}
use Rattle.alg_model.specs.Coefficients.{Carrier}
use Rattle.alg_model.specs.Polynomials.{trim, poly_sum, poly_product, leading}

-- Higher places decide before lower ones, so a longer list is greater.
abbrev pub order_by : {A : Type 0} → (A → A → Ordering) → List A → List A → Ordering
order_by cmp [] [] = Equal
order_by cmp [] (y ∷ ys) = Less
order_by cmp (x ∷ xs) [] = Greater
order_by cmp (x ∷ xs) (y ∷ ys) = ordering_then (order_by cmp xs ys) (cmp x y)

module _ {A : Type 0} (c : Carrier A) where
  abbrev pub IsPolynomial : List A → Type 0
  IsPolynomial f = All c.Valid f × (trim c.ops f ≡ f)

  abbrev pub IsMonic : List A → Type 0
  IsMonic f = leading c.ops f ≡ c.ops.one

  abbrev pub Divides : List A → List A → Type 0
  Divides g f = (q : List A) × IsPolynomial q × (poly_product c.ops q g ≡ f)

  pub record IsDivision (f d q r : List A) : Type 0 where
    pub quotient : IsPolynomial q
    pub remainder : IsPolynomial r
    pub identity : poly_sum c.ops (poly_product c.ops q d) r ≡ f
    pub smaller : length r < length d

  pub record IsGreatestCommonDivisor (a b g : List A) : Type 0 where
    pub polynomial : IsPolynomial g
    pub monic_or_zero : IsMonic g ⊎ (g ≡ [])
    pub divides_first : Divides g a
    pub divides_second : Divides g b
    pub greatest : (h : List A) → IsPolynomial h → Divides h a → Divides h b → Divides h g

  pub record IsProperFactor (f g : List A) : Type 0 where
    pub polynomial : IsPolynomial g
    pub monic : IsMonic g
    pub not_constant : 1 < length g
    pub smaller : length g < length f
    pub divides : Divides g f

  pub record IsIrreducible (f : List A) : Type 0 where
    pub polynomial : IsPolynomial f
    pub not_constant : 1 < length f
    pub no_factor : (g : List A) → IsProperFactor f g → ⊥

  pub record IsLeastFactor (cmp : A → A → Ordering) (f g : List A) : Type 0 where
    pub factor : IsProperFactor f g
    pub least : (h : List A) → IsProperFactor f h → order_by cmp h g ≡ Less → ⊥
