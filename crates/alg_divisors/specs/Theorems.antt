-- What the laws of this crate state.
use Rattle.std.specs.Prelude.{◌≡◌, ℕ, ◌≤◌, Bool, List, length, Contains, IsPermutation}
use Rattle.std.specs.Ordering.{nat_cmp}
use Rattle.std.specs.declared.cmp.Ordering.TheVariants.{Less}
use Rattle.alg_model.specs.Coefficients.{Ops, residues, tested, IsPrime}
use Rattle.alg_model.specs.Factors.{IsPolynomial, IsMonic, IsGreatestCommonDivisor, IsProperFactor, IsIrreducible, IsLeastFactor, order_by}
use Rattle.alg_model.specs.Fields.{IsField}
use Rattle.alg_divisors.specs.Factorization.{IsFactorization, IsCombination}

-- two polynomials have a greatest common divisor
abbrev pub GcdExists : Type 0
GcdExists =
    (p : ℕ) → IsPrime p → (a b : List ℕ) → IsPolynomial (residues p) a
    → IsPolynomial (residues p) b → (g : List ℕ) × IsGreatestCommonDivisor (residues p) a b g

-- and only one
abbrev pub GcdIsUnique : Type 0
GcdIsUnique =
    (p : ℕ) → IsPrime p → (a b g h : List ℕ) → IsGreatestCommonDivisor (residues p) a b g
    → IsGreatestCommonDivisor (residues p) a b h → g ≡ h

-- it is u * a + w * b for some polynomials u and w (Bezout)
abbrev pub GcdIsCombination : Type 0
GcdIsCombination =
    (p : ℕ) → IsPrime p → (a b g : List ℕ) → IsGreatestCommonDivisor (residues p) a b g
    → IsCombination (residues p) a b g

-- a monic polynomial is a product of monic irreducible ones
abbrev pub FactorizationExists : Type 0
FactorizationExists =
    (p : ℕ) → IsPrime p → (f : List ℕ) → IsPolynomial (residues p) f → IsMonic (residues p) f
    → (fs : List (List ℕ)) × IsFactorization (residues p) f fs

-- two such products have the same factors, up to their order
abbrev pub FactorizationIsUnique : Type 0
FactorizationIsUnique =
    (p : ℕ) → IsPrime p → (f : List ℕ) (fs gs : List (List ℕ)) → IsFactorization (residues p) f fs
    → IsFactorization (residues p) f gs → IsPermutation fs gs

-- a monic polynomial with a proper factor has a least one
abbrev pub LeastFactorExists : Type 0
LeastFactorExists =
    (p : ℕ) → IsPrime p → (f g : List ℕ) → IsPolynomial (residues p) f → IsMonic (residues p) f
    → IsProperFactor (residues p) f g → (h : List ℕ) × IsLeastFactor (residues p) nat_cmp f h

-- and only one
abbrev pub LeastFactorIsUnique : Type 0
LeastFactorIsUnique =
    (p : ℕ) → IsPrime p → (f g h : List ℕ) → IsLeastFactor (residues p) nat_cmp f g
    → IsLeastFactor (residues p) nat_cmp f h → g ≡ h

-- the least factor is irreducible
abbrev pub LeastFactorIsIrreducible : Type 0
LeastFactorIsIrreducible =
    (p : ℕ) → IsPrime p → (f g : List ℕ) → IsLeastFactor (residues p) nat_cmp f g
    → IsIrreducible (residues p) g

-- it is the first of the factors of a factorization into two or more
abbrev pub FirstOfFactorsIsLeast : Type 0
FirstOfFactorsIsLeast =
    (p : ℕ) → IsPrime p → (f g : List ℕ) (fs : List (List ℕ)) → IsFactorization (residues p) f fs
    → 2 ≤ length fs → Contains fs g → ((h : List ℕ) → Contains fs h → order_by nat_cmp h g ≡ Less
    → ⊥) → IsLeastFactor (residues p) nat_cmp f g

-- over each field whose elements a test tells, two polynomials have a greatest common divisor
abbrev pub GcdExistsOverFields : Type 0 → Type 0
GcdExistsOverFields T = IsSet T → (o : Ops T) (test : T → Bool) → IsField (tested o test)
    → (a b : List T) → IsPolynomial (tested o test) a → IsPolynomial (tested o test) b
    → (g : List T) × IsGreatestCommonDivisor (tested o test) a b g

-- and only one
abbrev pub GcdIsUniqueOverFields : Type 0 → Type 0
GcdIsUniqueOverFields T = IsSet T → (o : Ops T) (test : T → Bool) → IsField (tested o test)
    → (a b g h : List T) → IsGreatestCommonDivisor (tested o test) a b g
    → IsGreatestCommonDivisor (tested o test) a b h → g ≡ h

-- and two factorizations of a polynomial have the same factors, up to their order
abbrev pub FactorizationIsUniqueOverFields : Type 0 → Type 0
FactorizationIsUniqueOverFields T = IsSet T → (o : Ops T) (test : T → Bool)
    → IsField (tested o test)
    → (f : List T) (fs gs : List (List T)) → IsFactorization (tested o test) f fs
    → IsFactorization (tested o test) f gs → IsPermutation fs gs
