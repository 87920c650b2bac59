-- What a program must show to have found the choice for an embedding of field E into field F of a
-- lattice, and to have stored all that it adds: in words, and as statements.
use Rattle.std.specs.Prelude.{◌≡◌, ◌↔◌, ℕ, ◌+◌, ◌<◌, Bool, List, length, AllPairs, Contains, IsTrue, Option, None}
use Rattle.std.specs.FinMap.{len}
use Prim.Native.Nat.{◌∣◌}
use Rattle.alg_model.specs.Factors.{IsPolynomial, IsGreatestCommonDivisor}
use Rattle.alg_model.specs.Maps.{Field, IsFiniteField, field_values, degree_of, generator, apply}
use Rattle.alg_model.specs.Roots.{IsRoot, IsLeastRoot}
use Rattle.alg_model.specs.Lattices.{Lattice, field_at, Stored, Grows, IsCompatible}
use Rattle.alg_model.specs.Candidates.{embedding_by, IsSent, IsCandidate, IsChoice, AreMissing}
use Rattle.alg_model.specs.Filling.{AreRowsAfter, IsFilled}
use Rattle.alg_compatible.specs.Theorems.{AreFields}
use Rattle.alg_choices.specs.Restrictions.{prescription, IsPrescription}
use Rattle.alg_choices.specs.Fitting.{Fits, AreSufficient, IsCovered, AreRestrictions, AreZeros, AreGiven}
use Rattle.alg_choices.specs.Degrees.{AreDegrees, InClosure}
use Rattle.alg_choices.specs.Linking.{IsListed, Links, AreNewPairs}

-- E and F have one characteristic
abbrev pub AreAlike : Lattice → ℕ → ℕ → Type 0
AreAlike L E F = (field_at L.rows E).characteristic ≡ (field_at L.rows F).characteristic

-- A value is a candidate exactly if it is a root of the polynomial of E that agrees at enough
-- common subfields and sends what is prescribed.
abbrev pub CandidatesFit : Type 0
CandidatesFit = (L : Lattice) (E F : ℕ) (needed : ℕ → Bool) (sending : Option (List ℕ × List ℕ))
    (v : List ℕ)
    → IsCompatible L → AreFields L E F → AreAlike L E F
    → AreSufficient L E F (λ d. IsTrue (needed d))
    → Fits L E F (λ d. IsTrue (needed d)) sending v ↔ IsCandidate L E F sending v

-- So the candidates are the common zeros of the polynomial of E, of those for these subfields, and
-- of that for the prescribed pair.
abbrev pub CandidatesAreCommonZeros : Type 0
CandidatesAreCommonZeros = (L : Lattice) (E F : ℕ) (needed : ℕ → Bool)
    (restriction : ℕ → List (List ℕ)) (sending : Option (List ℕ × List ℕ)) (v : List ℕ)
    → IsCompatible L → AreFields L E F → AreAlike L E F → AreGiven L E F sending
    → AreSufficient L E F (λ d. IsTrue (needed d))
    → AreRestrictions L E F (λ d. IsTrue (needed d)) restriction
    → AreZeros L E F (λ d. IsTrue (needed d)) restriction sending v ↔ IsCandidate L E F sending v

-- All common subfields are enough.
abbrev pub AllSuffice : Type 0
AllSuffice = (L : Lattice) (E F : ℕ) → IsCompatible L → AreFields L E F
    → AreSufficient L E F (λ d. d < length L.rows)

-- So are those that go into no other that does for them too.
abbrev pub UncoveredSuffice : Type 0
UncoveredSuffice = (L : Lattice) (E F : ℕ) → IsCompatible L → AreFields L E F
    → AreSufficient L E F (λ d. (d < length L.rows) × ¬ IsCovered L E F d)

-- The digits of a value a of E as coefficients, less a value b of F, are zero exactly at the values
-- whose maps send a to b.
abbrev pub PrescriptionIsExact : Type 0
PrescriptionIsExact = (E F : Field) (a b : List ℕ) → IsFiniteField E → IsFiniteField F
    → E.characteristic ≡ F.characteristic → (field_values E).Valid a → (field_values F).Valid b
    → IsPrescription E F a b (prescription F a b)

-- The roots of a greatest common divisor are the common roots.
abbrev pub RootsOfDivisorAreCommon : Type 0
RootsOfDivisorAreCommon = (F : Field) (a b g : List (List ℕ)) (v : List ℕ) → IsFiniteField F
    → IsPolynomial (field_values F) a → IsPolynomial (field_values F) b
    → IsGreatestCommonDivisor (field_values F) a b g
    → IsRoot F g v ↔ (IsRoot F a v × IsRoot F b v)

-- The least root of a polynomial whose roots are the candidates is the choice.
abbrev pub ChoiceIsLeastRoot : Type 0
ChoiceIsLeastRoot = (L : Lattice) (E F : ℕ) (sending : Option (List ℕ × List ℕ))
    (g : List (List ℕ)) (v : List ℕ)
    → ((w : List ℕ) → IsRoot (field_at L.rows F) g w ↔ IsCandidate L E F sending w)
    → IsLeastRoot (field_at L.rows F) g v ↔ IsChoice L E F sending v

-- Where nothing is prescribed and the degrees divide, it has one.
abbrev pub PlainRootExists : Type 0
PlainRootExists = (L : Lattice) (E F : ℕ) (g : List (List ℕ))
    → IsCompatible L → AreFields L E F → AreAlike L E F
    → degree_of (field_at L.rows E) ∣ degree_of (field_at L.rows F)
    → ((w : List ℕ) → IsRoot (field_at L.rows F) g w ↔ IsCandidate L E F None w)
    → (v : List ℕ) × IsLeastRoot (field_at L.rows F) g v

-- Where the pair is stored already, the generator's image is the choice if the stored map sends
-- what is prescribed.
abbrev pub StoredMapIsChoice : Type 0
StoredMapIsChoice = (L : Lattice) (E F : ℕ) (sending : Option (List ℕ × List ℕ))
    (m : List (List ℕ))
    → IsCompatible L → AreFields L E F → Stored L E F m → IsSent (field_at L.rows F) m sending
    → IsChoice L E F sending (apply (field_at L.rows F) m (generator (field_at L.rows E)))

-- Else there is no candidate.
abbrev pub StoredMapIsOnlyOne : Type 0
StoredMapIsOnlyOne = (L : Lattice) (E F : ℕ) (sending : Option (List ℕ × List ℕ))
    (m : List (List ℕ)) (v : List ℕ)
    → IsCompatible L → AreFields L E F → Stored L E F m
    → IsCandidate L E F sending v → IsSent (field_at L.rows F) m sending

-- The rising list of what is in the closure of the members' degrees, and no degree of a member, is
-- that of the missing degrees.
abbrev pub DegreesTellMissing : Type 0
DegreesTellMissing = (L : Lattice) (E F : ℕ) (holds : ℕ → Bool) (ds : List ℕ)
    → AreDegrees L E F (λ d. IsTrue (holds d)) → AllPairs (λ a b. a < b) ds
    → ((d : ℕ) → Contains ds d
    ↔ (InClosure (λ d. IsTrue (holds d)) d × ¬ IsTrue (holds d)))
    → AreMissing L E F ds

-- A lattice with the rows afterwards that links all fields with a map into F is filled.
abbrev pub LinkingFills : Type 0
LinkingFills = (L M : Lattice) (E F : ℕ) (sending : Option (List ℕ × List ℕ)) (v : List ℕ)
    (count : ℕ) (number : ℕ → ℕ) (into : ℕ → List (List ℕ))
    → IsCompatible L → AreFields L E F → IsCandidate L E F sending v
    → M.edition ≡ L.edition → AreRowsAfter L E F M.rows
    → IsListed count number into L E F (embedding_by L E F v) M.rows → Links count number into L F M
    → IsFilled L E F (embedding_by L E F v) M

-- The finite map grows by the number of pairs that have a map after and had none before.
abbrev pub NewPairsAreCounted : Type 0
NewPairsAreCounted = (L M : Lattice) (ps : List (ℕ × ℕ)) → Grows L M → AreNewPairs L M ps
    → len M.maps ≡ len L.maps + length ps
