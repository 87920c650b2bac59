-- The laws of finite fields that this crate proves, as statements on the fields of the model: F, E
-- are fields, p is their characteristic, n is the degree of F, x its generator.
use Rattle.std.specs.Prelude.{◌≡◌, ◌≢◌, ◌↔◌, ℕ, ◌/◌, ◌%◌, ◌^◌, ◌<◌, List, length, map, All, AllPairs, Contains}
use Rattle.std.specs.Int.{IsGcd}
use Prim.Native.Nat.{◌∣◌}
use Rattle.alg_model.specs.Coefficients.{power, residues, IsPrime}
use Rattle.alg_model.specs.Polynomials.{evaluate}
use Rattle.alg_model.specs.Factors.{IsPolynomial, IsIrreducible, Divides}
use Rattle.alg_model.specs.Fields.{IsField}
use Rattle.alg_model.specs.Maps.{Field, IsFiniteField, field_values, degree_of, generator, constant, constants, apply, comp, powers, frobenius_map, IsEmbedding, IsMeet}
use Rattle.alg_model.specs.Roots.{IsRoot, IsLeastRoot, IsLeastIrreducible, IsMinimal, IsMinimalOver}
use Rattle.alg_model.specs.Conjugates.{trace, norm, trace_over, norm_over}

-- ---- the residue field
-- the values of a finite field form a field
abbrev pub ValuesFormField : Type 0
ValuesFormField = (F : Field) → IsFiniteField F → IsField (field_values F)

-- a finite field has p^n values
abbrev pub HasItsSize : Type 0
HasItsSize = (F : Field) → IsFiniteField F
    → (xs : List (List ℕ)) × (length xs ≡ F.characteristic ^ degree_of F)
    × All (field_values F).Valid xs
    × AllPairs (λ a b. a ≢ b) xs × ((a : List ℕ) → (field_values F).Valid a → Contains xs a)

-- each value is its own power p^n
abbrev pub ValueIsItsPower : Type 0
ValueIsItsPower = (F : Field) → IsFiniteField F → (a : List ℕ) → (field_values F).Valid a
    → power (field_values F).ops a (F.characteristic ^ degree_of F) ≡ a

-- ---- Frobenius
-- the power p^t of the generator is the generator exactly if n divides t
abbrev pub FrobeniusHasOrder : Type 0
FrobeniusHasOrder = (F : Field) → IsFiniteField F → (t : ℕ)
    → (power (field_values F).ops (generator F) (F.characteristic ^ t) ≡ generator F)
    ↔ (degree_of F ∣ t)

-- the powers p^s and p^t of the generator agree exactly if s and t agree modulo n: its orbit has n
-- members
abbrev pub GeneratorOrbitIsLong : Type 0
GeneratorOrbitIsLong = (F : Field) → IsFiniteField F → (s t : ℕ)
    → (power (field_values F).ops (generator F) (F.characteristic ^ s)
    ≡ power (field_values F).ops (generator F) (F.characteristic ^ t))
    ↔ (s % degree_of F ≡ t % degree_of F)

-- Frobenius to the power t is an embedding of the field in itself, and sends a to a^(p^t)
abbrev pub FrobeniusIsEmbedding : Type 0
FrobeniusIsEmbedding = (F : Field) → IsFiniteField F → (t : ℕ)
    → IsEmbedding F F (frobenius_map F t)
    × ((a : List ℕ) → (field_values F).Valid a
    → apply F (frobenius_map F t) a ≡ power (field_values F).ops a (F.characteristic ^ t))

-- a value is its own power p exactly if it is a constant
abbrev pub FrobeniusFixesConstants : Type 0
FrobeniusFixesConstants = (F : Field) → IsFiniteField F → (a : List ℕ) → (field_values F).Valid a
    → (power (field_values F).ops a F.characteristic ≡ a)
    ↔ ((t : ℕ) × (t < F.characteristic) × (constant F t ≡ a))

-- ---- roots
-- with a root a of a polynomial over the prime field, a^p, a^(p^2), .. are roots of it too
abbrev pub PowersAreRoots : Type 0
PowersAreRoots = (F : Field) → IsFiniteField F
    → (f : List ℕ) → IsPolynomial (residues F.characteristic) f
    → (a : List ℕ) → IsRoot F (constants F f) a → (t : ℕ)
    → IsRoot F (constants F f) (power (field_values F).ops a (F.characteristic ^ t))

-- ---- roots of the polynomial of E in F
-- where the degree of E divides that of F, there is a root, and a least one
abbrev pub RootExists : Type 0
RootExists = (E F : Field) → IsFiniteField E → IsFiniteField F → E.characteristic ≡ F.characteristic
    → degree_of E ∣ degree_of F → (v : List ℕ) × IsLeastRoot F (constants F E.polynomial) v

-- and only there
abbrev pub RootNeedsDegree : Type 0
RootNeedsDegree = (E F : Field) → IsFiniteField E → IsFiniteField F
    → E.characteristic ≡ F.characteristic
    → (v : List ℕ) → IsRoot F (constants F E.polynomial) v → degree_of E ∣ degree_of F

-- each root is a power p^t of each other one, for a t below the degree of E
abbrev pub RootsAreOneOrbit : Type 0
RootsAreOneOrbit = (E F : Field) → IsFiniteField E → IsFiniteField F
    → E.characteristic ≡ F.characteristic
    → (v w : List ℕ) → IsRoot F (constants F E.polynomial) v → IsRoot F (constants F E.polynomial) w
    → (t : ℕ) × (t < degree_of E) × (power (field_values F).ops v (F.characteristic ^ t) ≡ w)

-- the powers p^s and p^t of a root agree exactly if s and t agree modulo the degree of E: the orbit
-- has that many members
abbrev pub OrbitIsLong : Type 0
OrbitIsLong = (E F : Field) → IsFiniteField E → IsFiniteField F
    → E.characteristic ≡ F.characteristic
    → (v : List ℕ) → IsRoot F (constants F E.polynomial) v → (s t : ℕ)
    → (power (field_values F).ops v (F.characteristic ^ s)
    ≡ power (field_values F).ops v (F.characteristic ^ t))
    ↔ (s % degree_of E ≡ t % degree_of E)

-- ---- embeddings
-- the powers of a root are an embedding that sends the generator to the root
abbrev pub RootGivesEmbedding : Type 0
RootGivesEmbedding = (E F : Field) → IsFiniteField E → IsFiniteField F
    → E.characteristic ≡ F.characteristic
    → (v : List ℕ) → IsRoot F (constants F E.polynomial) v
    → IsEmbedding E F (powers F v (degree_of E))
    × (apply F (powers F v (degree_of E)) (generator E) ≡ v)

-- an embedding is the powers of the generator's image, which is a root
abbrev pub EmbeddingIsPowers : Type 0
EmbeddingIsPowers = (E F : Field) → IsFiniteField E → IsFiniteField F → (m : List (List ℕ))
    → IsEmbedding E F m
    → IsRoot F (constants F E.polynomial) (apply F m (generator E))
    × (m ≡ powers F (apply F m (generator E)) (degree_of E))

-- an embedding sends different values to different values
abbrev pub EmbeddingIsInjective : Type 0
EmbeddingIsInjective = (E F : Field) → IsFiniteField E → IsFiniteField F → (m : List (List ℕ))
    → IsEmbedding E F m
    → (a b : List ℕ) → (field_values E).Valid a → (field_values E).Valid b
    → apply F m a ≡ apply F m b → a ≡ b

-- two embeddings of E in F differ by a power of Frobenius
abbrev pub EmbeddingsDiffer : Type 0
EmbeddingsDiffer = (E F : Field) → IsFiniteField E → IsFiniteField F → (m n : List (List ℕ))
    → IsEmbedding E F m → IsEmbedding E F n
    → (t : ℕ) × (t < degree_of E) × (n ≡ comp F m (frobenius_map F t))

-- which is determined modulo the degree of E
abbrev pub PowerIsDetermined : Type 0
PowerIsDetermined = (E F : Field) → IsFiniteField E → IsFiniteField F → (m : List (List ℕ))
    → IsEmbedding E F m → (s t : ℕ)
    → (comp F m (frobenius_map F s) ≡ comp F m (frobenius_map F t))
    ↔ (s % degree_of E ≡ t % degree_of E)

-- ---- subfields
-- F has a subfield of each degree that divides its own
abbrev pub SubfieldExists : Type 0
SubfieldExists = (F : Field) → IsFiniteField F → (d : ℕ) → d ∣ degree_of F
    → (E : Field) × IsFiniteField E × (degree_of E ≡ d) × ((m : List (List ℕ)) × IsEmbedding E F m)

-- its values are those that are their own power p^d: so it is the only one of its degree
abbrev pub SubfieldIsFixed : Type 0
SubfieldIsFixed = (E F : Field) → IsFiniteField E → IsFiniteField F → (m : List (List ℕ))
    → IsEmbedding E F m
    → (b : List ℕ) → (field_values F).Valid b
    → (power (field_values F).ops b (F.characteristic ^ degree_of E) ≡ b)
    ↔ ((a : List ℕ) × (field_values E).Valid a × (apply F m a ≡ b))

-- subfields I and J of K meet in L exactly if the degree of L is the greatest common divisor of
-- theirs
abbrev pub MeetIsGcd : Type 0
MeetIsGcd = (I J K L : Field) → IsFiniteField I → IsFiniteField J → IsFiniteField K
    → IsFiniteField L → (u v a b : List (List ℕ))
    → IsEmbedding L I u → IsEmbedding L J v → IsEmbedding I K a → IsEmbedding J K b
    → comp K u a ≡ comp K v b
    → IsMeet I J K L u v a b ↔ IsGcd (degree_of I) (degree_of J) (degree_of L)

-- ---- trace and norm
-- trace and norm are constants
abbrev pub TraceIsConstant : Type 0
TraceIsConstant = (F : Field) → IsFiniteField F → (a : List ℕ) → (field_values F).Valid a
    → ((t : ℕ) × (t < F.characteristic) × (constant F t ≡ trace F a))
    × ((t : ℕ) × (t < F.characteristic) × (constant F t ≡ norm F a))

-- two values differ in the trace of some x^k times them, with k below n
abbrev pub TraceParts : Type 0
TraceParts = (F : Field) → IsFiniteField F → (a b : List ℕ) → (field_values F).Valid a
    → (field_values F).Valid b → a ≢ b
    → (k : ℕ) × (k < degree_of F)
    × (trace F ((field_values F).ops.mul (power (field_values F).ops (generator F) k) a)
    ≢ trace F ((field_values F).ops.mul (power (field_values F).ops (generator F) k) b))

-- the same for the trace over a subfield E
abbrev pub TraceOverParts : Type 0
TraceOverParts = (E F : Field) → IsFiniteField E → IsFiniteField F → (m : List (List ℕ))
    → IsEmbedding E F m
    → (a b : List ℕ) → (field_values F).Valid a → (field_values F).Valid b → a ≢ b
    → (k : ℕ) × (k < degree_of F / degree_of E)
    × (trace_over E F ((field_values F).ops.mul (power (field_values F).ops (generator F) k) a)
    ≢ trace_over E F ((field_values F).ops.mul (power (field_values F).ops (generator F) k) b))

-- the trace over a subfield lies in it, and its trace is the trace
abbrev pub TraceIsTransitive : Type 0
TraceIsTransitive = (E F : Field) → IsFiniteField E → IsFiniteField F → (m : List (List ℕ))
    → IsEmbedding E F m
    → (a : List ℕ) → (field_values F).Valid a
    → (b : List ℕ) × (field_values E).Valid b × (apply F m b ≡ trace_over E F a)
    × (apply F m (trace E b) ≡ trace F a)

-- and so for norms
abbrev pub NormIsTransitive : Type 0
NormIsTransitive = (E F : Field) → IsFiniteField E → IsFiniteField F → (m : List (List ℕ))
    → IsEmbedding E F m
    → (a : List ℕ) → (field_values F).Valid a
    → (b : List ℕ) × (field_values E).Valid b × (apply F m b ≡ norm_over E F a)
    × (apply F m (norm E b) ≡ norm F a)

-- ---- irreducible polynomials
-- there is a least irreducible polynomial of each degree above 0
abbrev pub IrreducibleExists : Type 0
IrreducibleExists = (p d : ℕ) → IsPrime p → 0 < d → (f : List ℕ) × IsLeastIrreducible p d f

-- and one alone
abbrev pub LeastIsUnique : Type 0
LeastIsUnique = (p d : ℕ) (f g : List ℕ) → IsLeastIrreducible p d f → IsLeastIrreducible p d g
    → f ≡ g

-- ---- minimal polynomials over the prime field
-- each value of F has one
abbrev pub PrimeMinimalExists : Type 0
PrimeMinimalExists = (F : Field) → IsFiniteField F → (a : List ℕ) → (field_values F).Valid a
    → (g : List ℕ) × IsMinimal F a g

-- and one alone
abbrev pub PrimeMinimalIsUnique : Type 0
PrimeMinimalIsUnique = (F : Field) → IsFiniteField F → (a : List ℕ) → (field_values F).Valid a
    → (g f : List ℕ) → IsMinimal F a g → IsMinimal F a f → g ≡ f

-- which is irreducible
abbrev pub PrimeMinimalIsIrreducible : Type 0
PrimeMinimalIsIrreducible = (F : Field) → IsFiniteField F
    → (a : List ℕ) → (field_values F).Valid a → (g : List ℕ) → IsMinimal F a g
    → IsIrreducible (residues F.characteristic) g

-- and divides each polynomial that vanishes there
abbrev pub PrimeMinimalDivides : Type 0
PrimeMinimalDivides = (F : Field) → IsFiniteField F → (a : List ℕ) → (field_values F).Valid a
    → (g : List ℕ) → IsMinimal F a g
    → (f : List ℕ) → IsPolynomial (residues F.characteristic) f
    → evaluate (field_values F).ops (constants F f) a ≡ (field_values F).ops.zero
    → Divides (residues F.characteristic) g f

-- ---- minimal polynomials over a subfield E
-- each value of F has one
abbrev pub MinimalExists : Type 0
MinimalExists = (E F : Field) → IsFiniteField E → IsFiniteField F → (m : List (List ℕ))
    → IsEmbedding E F m
    → (a : List ℕ) → (field_values F).Valid a → (g : List (List ℕ)) × IsMinimalOver E F m a g

-- and one alone
abbrev pub MinimalIsUnique : Type 0
MinimalIsUnique = (E F : Field) → IsFiniteField E → IsFiniteField F → (m : List (List ℕ))
    → IsEmbedding E F m
    → (a : List ℕ) → (field_values F).Valid a → (g f : List (List ℕ)) → IsMinimalOver E F m a g
    → IsMinimalOver E F m a f → g ≡ f

-- which is irreducible
abbrev pub MinimalIsIrreducible : Type 0
MinimalIsIrreducible = (E F : Field) → IsFiniteField E → IsFiniteField F → (m : List (List ℕ))
    → IsEmbedding E F m
    → (a : List ℕ) → (field_values F).Valid a → (g : List (List ℕ)) → IsMinimalOver E F m a g
    → IsIrreducible (field_values E) g

-- and divides each polynomial that vanishes there
abbrev pub MinimalDivides : Type 0
MinimalDivides = (E F : Field) → IsFiniteField E → IsFiniteField F → (m : List (List ℕ))
    → IsEmbedding E F m
    → (a : List ℕ) → (field_values F).Valid a → (g : List (List ℕ)) → IsMinimalOver E F m a g
    → (f : List (List ℕ)) → IsPolynomial (field_values E) f
    → evaluate (field_values F).ops (map (apply F m) f) a ≡ (field_values F).ops.zero
    → Divides (field_values E) g f
