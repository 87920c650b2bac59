-- What the laws of this crate state.
use Rattle.std.specs.Prelude.{◌≡◌, ◌≢◌, ◌↔◌, ◌⊎◌, ℕ, ◌-◌, ◌%◌, ◌<◌, Bool, List, [], ◌∷◌, length, slice_index, All, AllPairs, IsTrue}
use Rattle.alg_model.specs.Coefficients.{Ops, power, mod_ops, residues, tested, IsPrime}
use Rattle.alg_model.specs.Polynomials.{sum, trim, derivative, evaluate, poly_product, poly_power}
use Rattle.alg_model.specs.Factors.{IsPolynomial, IsMonic, Divides, IsDivision, IsGreatestCommonDivisor, IsProperFactor, IsIrreducible}
use Rattle.alg_model.specs.Values.{degree, remainder, value_ops, values}
use Rattle.alg_model.specs.Fields.{IsField}
use Rattle.alg_divisors.specs.Factorization.{AreCoprime}
use Rattle.alg_fields.specs.Fixed.{IsFixed, less_constant, IsCertified}

-- a polynomial that isn't zero has fewer distinct roots than coefficients
abbrev pub RootsAreFew : Type 0
RootsAreFew =
    (p : ℕ) → IsPrime p → (f roots : List ℕ) → IsPolynomial (residues p) f → f ≢ []
    → All (λ a. a < p) roots → AllPairs (λ a b. a ≢ b) roots
    → All (λ a. evaluate (mod_ops p) f a ≡ 0) roots → length roots < length f

-- the same over the values modulo an irreducible polynomial
abbrev pub RootsAmongValuesAreFew : Type 0
RootsAmongValuesAreFew =
    (p : ℕ) → IsPrime p → (f : List ℕ) → IsMonic (residues p) f → IsIrreducible (residues p) f
    → (g roots : List (List ℕ)) → IsPolynomial (values (residues p) f) g → g ≢ []
    → All (values (residues p) f).Valid roots → AllPairs (λ a b. a ≢ b) roots
    → All (λ a. evaluate (value_ops (mod_ops p) f) g a ≡ (value_ops (mod_ops p) f).zero) roots
    → length roots < length g

-- a is a root of f exactly if x - a divides f
abbrev pub RootIffLinearFactor : Type 0
RootIffLinearFactor =
    (p : ℕ) → IsPrime p → (f : List ℕ) (a : ℕ) → IsPolynomial (residues p) f → a < p
    → (evaluate (mod_ops p) f a ≡ 0) ↔ Divides (residues p) ((p - a) % p ∷ 1 ∷ []) f

-- (a + b)^p = a^p + b^p
abbrev pub FrobeniusKeepsSums : Type 0
FrobeniusKeepsSums =
    (p : ℕ) → IsPrime p → (f : List ℕ) → IsPolynomial (residues p) f → IsMonic (residues p) f
    → 1 < length f → (a b : List ℕ) → (values (residues p) f).Valid a
    → (values (residues p) f).Valid b
    → power (value_ops (mod_ops p) f) (sum (mod_ops p) a b) p
    ≡ sum (mod_ops p) (power (value_ops (mod_ops p) f) a p) (power (value_ops (mod_ops p) f) b p)

-- (a * b)^p = a^p * b^p
abbrev pub FrobeniusKeepsProducts : Type 0
FrobeniusKeepsProducts =
    (p : ℕ) → IsPrime p → (f : List ℕ) → IsPolynomial (residues p) f → IsMonic (residues p) f
    → 1 < length f → (a b : List ℕ) → (values (residues p) f).Valid a
    → (values (residues p) f).Valid b
    → power (value_ops (mod_ops p) f) ((value_ops (mod_ops p) f).mul a b) p
    ≡ (value_ops (mod_ops p) f).mul (power (value_ops (mod_ops p) f) a p)
    (power (value_ops (mod_ops p) f) b p)

-- a residue is its own power p
abbrev pub ResiduesAreFixed : Type 0
ResiduesAreFixed =
    (p : ℕ) → IsPrime p → (a : ℕ) → a < p → power (mod_ops p) a p ≡ a

-- the values modulo a monic irreducible polynomial over the residues form a field
abbrev pub ValuesAreAField : Type 0
ValuesAreAField =
    (p : ℕ) → IsPrime p → (f : List ℕ) → IsMonic (residues p) f → IsIrreducible (residues p) f
    → IsField (values (residues p) f)

-- and so do those over such a field
abbrev pub ValuesOverValuesAreAField : Type 0
ValuesOverValuesAreAField =
    (p : ℕ) → IsPrime p → (f : List ℕ) → IsMonic (residues p) f → IsIrreducible (residues p) f
    → (g : List (List ℕ)) → IsMonic (values (residues p) f) g
    → IsIrreducible (values (residues p) f) g → IsField (values (values (residues p) f) g)

-- `remainder` is the remainder of a division
abbrev pub RemainderIsOfDivision : Type 0
RemainderIsOfDivision =
    (p : ℕ) → IsPrime p → (f g : List ℕ) → IsPolynomial (residues p) f → IsMonic (residues p) f
    → 1 < length f → IsPolynomial (residues p) g → (q : List ℕ)
    × IsDivision (residues p) g f q (trim (mod_ops p) (remainder (mod_ops p) f g))

-- it has as many places as the divisor's degree
abbrev pub RemainderFillsPlaces : Type 0
RemainderFillsPlaces =
    (p : ℕ) → IsPrime p → (f g : List ℕ) → 1 < length f
    → length (remainder (mod_ops p) f g) ≡ degree f

-- the remainder of a power is the power of the remainder among the values
abbrev pub RemainderKeepsPowers : Type 0
RemainderKeepsPowers =
    (p : ℕ) → IsPrime p → (f g : List ℕ) → IsPolynomial (residues p) f → IsMonic (residues p) f
    → 1 < length f → IsPolynomial (residues p) g → (n : ℕ)
    → remainder (mod_ops p) f (poly_power (mod_ops p) g n)
    ≡ power (value_ops (mod_ops p) f) (remainder (mod_ops p) f g) n

-- the derivative is zero exactly if only powers of x^p occur
abbrev pub DerivativeZeroByPlaces : Type 0
DerivativeZeroByPlaces =
    (p : ℕ) → IsPrime p → (f : List ℕ) → IsPolynomial (residues p) f
    → (derivative (mod_ops p) f ≡ []) ↔ ((k : ℕ) → k % p ≢ 0 → slice_index f k ≡ 0)

-- and exactly if the polynomial is a power p
abbrev pub DerivativeZeroByPower : Type 0
DerivativeZeroByPower =
    (p : ℕ) → IsPrime p → (f : List ℕ) → IsPolynomial (residues p) f
    → (derivative (mod_ops p) f ≡ []) ↔ ((g : List ℕ) × IsPolynomial (residues p) g
    × (poly_power (mod_ops p) g p ≡ f))

-- a factor of which the square divides f divides the derivative of f
abbrev pub SquareFactorDividesDerivative : Type 0
SquareFactorDividesDerivative =
    (p : ℕ) → IsPrime p → (f g : List ℕ) → IsPolynomial (residues p) f
    → IsPolynomial (residues p) g → Divides (residues p) (poly_product (mod_ops p) g g) f
    → Divides (residues p) g (derivative (mod_ops p) f)

-- v with v^p = v modulo f is constant modulo f, or f and some v - a have a proper factor in common
abbrev pub FixedPolynomialSplits : Type 0
FixedPolynomialSplits =
    (p : ℕ) → IsPrime p → (f v : List ℕ) → IsPolynomial (residues p) f
    → IsPolynomial (residues p) v → 1 < length f → IsFixed (residues p) p f v → (a : ℕ) × (a < p)
    × (Divides (residues p) f (less_constant (mod_ops p) v a) ⊎ ((g : List ℕ)
    × IsGreatestCommonDivisor (residues p) f (less_constant (mod_ops p) v a) g
    × IsProperFactor (residues p) f g))

-- coprime factors that aren't constant give such a v that isn't constant
abbrev pub CoprimeFactorsGiveFixed : Type 0
CoprimeFactorsGiveFixed =
    (p : ℕ) → IsPrime p → (f g h : List ℕ) → IsPolynomial (residues p) f
    → IsPolynomial (residues p) g → IsPolynomial (residues p) h → AreCoprime (residues p) g h
    → poly_product (mod_ops p) g h ≡ f → 1 < length g → 1 < length h → (v : List ℕ)
    × IsPolynomial (residues p) v × (length v < length f) × IsFixed (residues p) p f v
    × (1 < length v)

-- a certified polynomial that isn't constant is irreducible
abbrev pub CertifiedIsIrreducible : Type 0
CertifiedIsIrreducible =
    (p : ℕ) → IsPrime p → (f : List ℕ) → IsPolynomial (residues p) f → 1 < length f
    → IsCertified (residues p) p f → IsIrreducible (residues p) f

-- an irreducible polynomial is certified
abbrev pub IrreducibleIsCertified : Type 0
IrreducibleIsCertified =
    (p : ℕ) → IsPrime p → (f : List ℕ) → IsIrreducible (residues p) f
    → IsCertified (residues p) p f

-- the product of two values is the remainder of their product as polynomials, also where they end
-- in zeros
abbrev pub ProductIsRemainder : Type 0
ProductIsRemainder =
    (p : ℕ) → IsPrime p → (f a b : List ℕ) → IsPolynomial (residues p) f → IsMonic (residues p) f
    → 1 < length f → (values (residues p) f).Valid a → (values (residues p) f).Valid b
    → (q : List ℕ) × IsDivision (residues p) (poly_product (mod_ops p) a b) f q
    (trim (mod_ops p) ((value_ops (mod_ops p) f).mul a b))

-- over each field whose elements a test tells, the values modulo a monic irreducible polynomial
-- form a field
abbrev pub ValuesOverFieldsAreAField : Type 0 → Type 0
ValuesOverFieldsAreAField T = IsSet T → (o : Ops T) (test : T → Bool) → IsField (tested o test)
    → (f : List T) → IsMonic (tested o test) f → IsIrreducible (tested o test) f
    → IsField (values (tested o test) f)

-- and a polynomial that isn't zero has fewer distinct roots than coefficients
abbrev pub RootsOverFieldsAreFew : Type 0 → Type 0
RootsOverFieldsAreFew T = IsSet T → (o : Ops T) (test : T → Bool) → IsField (tested o test)
    → (f roots : List T) → IsPolynomial (tested o test) f → f ≢ []
    → All (λ a. IsTrue (test a)) roots
    → AllPairs (λ a b. a ≢ b) roots → All (λ a. evaluate o f a ≡ o.zero) roots
    → length roots < length f
