-- What the laws of this crate state.
use Rattle.std.specs.Prelude.{◌≡◌, ◌≢◌, ◌↔◌, ℕ, ◌<◌, Bool, List, [], length, slice_index, slice_index_or}
use Rattle.std.specs.declared.cmp.Ordering.{Ordering}
use Rattle.std.specs.declared.cmp.Ordering.TheVariants.{Less, Equal, Greater}
use Rattle.alg_model.specs.Coefficients.{Ops, mod_ops, residues, tested, IsPrime, IsCharacteristic}
use Rattle.alg_model.specs.Polynomials.{poly_product, convolution}
use Rattle.alg_model.specs.Factors.{IsPolynomial, IsDivision, Divides, order_by}
use Rattle.alg_model.specs.Fields.{IsRing, IsField}
use Rattle.alg_rings.specs.Laws.{RingLaws, polynomials}

-- over a commutative ring the coefficient at k of a product is the sum of f_i * g_j over i + j = k
abbrev pub ProductsAreConvolutions : Type 0 → Type 0
ProductsAreConvolutions T =
    (o : Ops T) → RingLaws o → (f g : List T) (k : ℕ)
    → slice_index_or (poly_product o f g) k o.zero ≡ convolution o f g k

-- the same over the residues modulo any number
abbrev pub ResidueProductsAreConvolutions : Type 0
ResidueProductsAreConvolutions =
    (p : ℕ) (f g : List ℕ) (k : ℕ)
    → slice_index (poly_product (mod_ops p) f g) k ≡ convolution (mod_ops p) f g k

-- polynomials over the residues modulo a prime form a commutative ring
abbrev pub PolynomialsAreARing : Type 0
PolynomialsAreARing =
    (p : ℕ) → IsPrime p → IsRing (polynomials (residues p))

-- the residues modulo a prime form a field
abbrev pub ResiduesAreAField : Type 0
ResiduesAreAField =
    (p : ℕ) → IsPrime p → IsField (residues p)

-- each polynomial can be divided by each one but zero
abbrev pub DivisionExists : Type 0
DivisionExists =
    (p : ℕ) → IsPrime p → (f d : List ℕ) → IsPolynomial (residues p) f
    → IsPolynomial (residues p) d → d ≢ [] → (q : List ℕ) × (r : List ℕ)
    × IsDivision (residues p) f d q r

-- quotient and remainder are determined
abbrev pub DivisionIsUnique : Type 0
DivisionIsUnique =
    (p : ℕ) → IsPrime p → (f d q r s t : List ℕ) → IsPolynomial (residues p) d
    → IsDivision (residues p) f d q r → IsDivision (residues p) f d s t → (q ≡ s) × (r ≡ t)

-- d divides f exactly if the remainder is zero
abbrev pub DividesWithoutRemainder : Type 0
DividesWithoutRemainder =
    (p : ℕ) → IsPrime p → (f d q r : List ℕ) → IsPolynomial (residues p) d
    → IsDivision (residues p) f d q r → (Divides (residues p) d f ↔ (r ≡ []))

-- each number of the table of characteristics is prime
abbrev pub CharacteristicsArePrime : Type 0
CharacteristicsArePrime = (p : ℕ) → IsCharacteristic p → IsPrime p

-- a polynomial with fewer coefficients comes before one with more
abbrev pub ShorterComesFirst : Type 0 → Type 0
ShorterComesFirst T = (compare : T → T → Ordering) (f g : List T) → length f < length g
    → (order_by compare f g ≡ Less) × (order_by compare g f ≡ Greater)

-- of two with as many coefficients the highest place at which they differ decides
abbrev pub HighestPlaceDecides : Type 0 → Type 0
HighestPlaceDecides T = (compare : T → T → Ordering) → ((x : T) → compare x x ≡ Equal)
    → (f g : List T) (zero : T) (k : ℕ) → length f ≡ length g → k < length f
    → ((j : ℕ) → k < j → slice_index_or f j zero ≡ slice_index_or g j zero)
    → compare (slice_index_or f k zero) (slice_index_or g k zero) ≢ Equal
    → order_by compare f g ≡ compare (slice_index_or f k zero) (slice_index_or g k zero)

-- equal ones are equal in the order
abbrev pub EqualCompareEqual : Type 0 → Type 0
EqualCompareEqual T = (compare : T → T → Ordering) → ((x : T) → compare x x ≡ Equal)
    → (f : List T) → order_by compare f f ≡ Equal

-- over each field whose elements a test tells, each polynomial can be divided by each one but zero
abbrev pub DivisionExistsOverFields : Type 0 → Type 0
DivisionExistsOverFields T = IsSet T → (o : Ops T) (test : T → Bool) → IsField (tested o test)
    → (f d : List T) → IsPolynomial (tested o test) f → IsPolynomial (tested o test) d → d ≢ []
    → (q : List T) × (r : List T) × IsDivision (tested o test) f d q r

-- and quotient and remainder are determined
abbrev pub DivisionIsUniqueOverFields : Type 0 → Type 0
DivisionIsUniqueOverFields T = IsSet T → (o : Ops T) (test : T → Bool) → IsField (tested o test)
    → (f d q r s t : List T) → IsPolynomial (tested o test) d → IsDivision (tested o test) f d q r
    → IsDivision (tested o test) f d s t → (q ≡ s) × (r ≡ t)
