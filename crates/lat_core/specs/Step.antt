-- What a request is answered in a lattice, and the lattice that it leaves. Cases stand in the order
-- in which they are decided; whatever is refused leaves the lattice as it was.
--     IsNamed L n name                field n has this name
--     IsFreeName L name               no field has it
--     IsProperRequest request         a field is declared under a declared name alone
--     IsWellFormed edition p f        what a field of the edition is declared by, but for
--                                     irreducibility
--     IsMalformed edition p f refusal     why p and f are no such
--     Declares L name p f reply M     declaring the field of p and f under the name
--     AreEmbeddable L E F sending     nothing that the fields show speaks against an embedding
--     EmbedsField L E F sending reply M     embedding field E into field F
--     Embeds L from into sending reply M     embedding the fields of these names
--     Steps L request reply M         the reply to a request, and the lattice afterwards
use Rattle.std.specs.Prelude.{◌≡◌, ◌≢◌, ℕ, ◌+◌, ◌<◌, ◌≤◌, true, false, List, length, slice_index_or, All, Contains, Option, Some, MatchOption}
use Rattle.std.specs.Option.{option_map}
use Rattle.std.specs.Ordering.{nat_cmp}
use Prim.Native.Nat.{◌∣◌}
use Rattle.alg_model.specs.Coefficients.{residues}
use Rattle.alg_model.specs.Factors.{IsMonic, IsIrreducible, IsLeastFactor}
use Rattle.alg_model.specs.Values.{degree}
use Rattle.alg_model.specs.Maps.{field_values, degree_of}
use Rattle.alg_model.specs.Lattices.{Edition, Lattice, Row, no_row, field_at}
use Rattle.alg_model.specs.Candidates.{embedding_by, IsCandidate, IsChoice, AreMissing}
use Rattle.alg_model.specs.Filling.{IsFilled}
use Rattle.alg_model.specs.Declaring.{IsDeclared}
use Rattle.ff_field.specs.SmallFields.{IsFirstTooLarge}
use Rattle.lat_core.specs.Names.{IsDeclaredName}
use Rattle.lat_core.specs.SharedRows.{map_count}
use Rattle.lat_core.specs.declared.tagged.Tagged.{Tagged}
use Rattle.lat_core.specs.declared.tagged.Sending.{Sending}
use Rattle.lat_core.specs.declared.requests.Request.{Request}
use Rattle.lat_core.specs.declared.requests.Request.TheVariants.{Declare, Embed, Sync}
use Rattle.lat_core.specs.declared.replies.StepRefusal.{StepRefusal}
use Rattle.lat_core.specs.declared.replies.StepRefusal.TheVariants.{NotInTable, DegreeOutOfRange, CoefficientTooLarge, NotMonic, NameTaken, Reducible, TooManyFields, UnknownField, DifferentCharacteristic, DegreeDoesNotDivide, WrongField, NoCompatibleRoot}
use Rattle.lat_core.specs.declared.replies.Reply.{Reply}
use Rattle.lat_core.specs.declared.replies.Reply.TheVariants.{Declared, Embedded, Synced, Refused}

-- ---- names
-- field n has this name
pub record IsNamed (L : Lattice) (n : ℕ) (name : List ℕ) : Type 0 where
  pub within : n < length L.rows
  pub named : (slice_index_or L.rows n no_row).name ≡ name

-- no field has this name
abbrev pub IsFreeName : Lattice → List ℕ → Type 0
IsFreeName L name = (n : ℕ) → ¬ IsNamed L n name

-- a field is declared under a declared name: names that begin with `_` are the lattice's own
abbrev pub IsProperRequest : Request → Type 0
IsProperRequest (Declare name p f) = IsDeclaredName name
IsProperRequest (Embed from into sending) = Unit {0}
IsProperRequest Sync = Unit {0}

-- ---- declaring
-- the count of coefficients less one is that of a declared field
abbrev pub IsDegreeInRange : Edition → List ℕ → Type 0
IsDegreeInRange edition f = (2 ≤ degree f) × (degree f ≤ edition.top)

-- a characteristic of the edition, and a monic polynomial over it of a degree in range
pub record IsWellFormed (edition : Edition) (p : ℕ) (f : List ℕ) : Type 0 where
  pub characteristic : Contains edition.primes p
  pub in_range : IsDegreeInRange edition f
  pub coefficients : All (λ a. a < p) f
  pub monic : IsMonic (residues p) f

-- why p and f are no such
pub data IsMalformed (edition : Edition) (p : ℕ) (f : List ℕ) : StepRefusal → Type 0 where
  not_in_table : ¬ Contains edition.primes p → IsMalformed edition p f (NotInTable p)
  degree_out_of_range : Contains edition.primes p → ¬ IsDegreeInRange edition f
      → IsMalformed edition p f (DegreeOutOfRange (degree f))
  coefficient_too_large : {place : ℕ} → Contains edition.primes p → IsDegreeInRange edition f
      → IsFirstTooLarge p f place → IsMalformed edition p f (CoefficientTooLarge place)
  not_monic : Contains edition.primes p → IsDegreeInRange edition f → All (λ a. a < p) f
      → ¬ IsMonic (residues p) f → IsMalformed edition p f NotMonic

-- the field of this characteristic and polynomial, under this name
abbrev pub declared_row : List ℕ → ℕ → List ℕ → Row
declared_row name p f = record {
  name = name;
  field = record { characteristic = p; polynomial = f };
}

-- what is wrong with p and f; else whether the name is taken; else whether the polynomial has a
-- factor; else whether there is room; else the field is declared under the next number
pub data Declares (L : Lattice) (name : List ℕ) (p : ℕ) (f : List ℕ) : Reply → Lattice → Type 0
  where
    malformed : {refusal : StepRefusal} → IsMalformed L.edition p f refusal
        → Declares L name p f (Refused refusal) L
    -- a field has the name: this field, or another one
    already : {n : ℕ} → IsWellFormed L.edition p f → IsNamed L n name
        → field_at L.rows n ≡ (declared_row name p f).field
        → Declares L name p f (Declared n true) L
    taken : {n : ℕ} → IsWellFormed L.edition p f → IsNamed L n name
        → field_at L.rows n ≢ (declared_row name p f).field
        → Declares L name p f (Refused (NameTaken n)) L
    reducible : {g : List ℕ} → IsWellFormed L.edition p f → IsFreeName L name
        → IsLeastFactor (residues p) nat_cmp f g
        → Declares L name p f (Refused (Reducible (record { prime = p; coefficients = g }))) L
    full : IsWellFormed L.edition p f → IsFreeName L name → IsIrreducible (residues p) f
        → L.edition.room < length L.rows + 1
        → Declares L name p f (Refused (TooManyFields (length L.rows) 1)) L
    declared : {M : Lattice} → IsWellFormed L.edition p f → IsFreeName L name
        → IsIrreducible (residues p) f → length L.rows + 1 ≤ L.edition.room
        → IsDeclared L (declared_row name p f) M
        → Declares L name p f (Declared (length L.rows) false) M

-- ---- embedding
-- t has the number of field i for its tag, and is a value of field i
pub record IsValueOf (L : Lattice) (i : ℕ) (t : Tagged) : Type 0 where
  pub tag : t.field ≡ i
  pub value : (field_values (field_at L.rows i)).Valid t.value

-- if a pair is prescribed, it is a value of E and a value of F
abbrev pub ArePrescribed : Lattice → ℕ → ℕ → Option Sending → Type 0
ArePrescribed L E F sending = MatchOption sending (Unit {0})
    (λ s. IsValueOf L E s.value × IsValueOf L F s.image)

-- the tag of the first of the pair that is none
pub data IsWrongTag (L : Lattice) (E F : ℕ) (s : Sending) : ℕ → Type 0 where
  of_value : ¬ IsValueOf L E s.value → IsWrongTag L E F s s.value.field
  of_image : IsValueOf L E s.value → ¬ IsValueOf L F s.image → IsWrongTag L E F s s.image.field

-- the prescribed values, without their tags
abbrev pub prescribed_values : Option Sending → Option (List ℕ × List ℕ)
prescribed_values sending = option_map (λ s. (s.value.value, s.image.value)) sending

module _ (L : Lattice) (E F : ℕ) where
  -- what an embedding of field E into field F needs
  abbrev pub HaveOneCharacteristic : Type 0
  HaveOneCharacteristic = (field_at L.rows E).characteristic ≡ (field_at L.rows F).characteristic

  abbrev pub HaveDividingDegrees : Type 0
  HaveDividingDegrees = degree_of (field_at L.rows E) ∣ degree_of (field_at L.rows F)

  -- both, and a prescribed pair is one of the two fields
  pub record AreEmbeddable (sending : Option Sending) : Type 0 where
    pub characteristic : HaveOneCharacteristic
    pub degrees : HaveDividingDegrees
    pub prescribed : ArePrescribed L E F sending

  -- the first of these that fails; else whether there is room for the missing degrees; else whether
  -- there is a candidate; else the choice
  pub data EmbedsField (sending : Option Sending) : Reply → Lattice → Type 0 where
    different_characteristic : ¬ HaveOneCharacteristic
        → EmbedsField sending (Refused (DifferentCharacteristic
        (field_at L.rows E).characteristic (field_at L.rows F).characteristic)) L
    degree_does_not_divide : HaveOneCharacteristic → ¬ HaveDividingDegrees
        → EmbedsField sending (Refused (DegreeDoesNotDivide
        (degree_of (field_at L.rows E)) (degree_of (field_at L.rows F)))) L
    wrong_field : {s : Sending} {number : ℕ} → HaveOneCharacteristic → HaveDividingDegrees
        → sending ≡ Some s → IsWrongTag L E F s number
        → EmbedsField sending (Refused (WrongField number)) L
    full : {degrees : List ℕ} → AreEmbeddable sending → AreMissing L E F degrees
        → L.edition.room < length L.rows + length degrees
        → EmbedsField sending (Refused (TooManyFields (length L.rows) (length degrees))) L
    no_candidate : {degrees : List ℕ} → AreEmbeddable sending → AreMissing L E F degrees
        → length L.rows + length degrees ≤ L.edition.room
        → ((v : List ℕ) → ¬ IsCandidate L E F (prescribed_values sending) v)
        → EmbedsField sending (Refused NoCompatibleRoot) L
    -- The choice; as many fields are made as degrees are missing, and as many pairs linked as M
    -- stores more than L, all of whose maps it stores.
    embedded : {degrees v : List ℕ} {M : Lattice} {linked : ℕ} → AreEmbeddable sending
        → AreMissing L E F degrees → length L.rows + length degrees ≤ L.edition.room
        → IsChoice L E F (prescribed_values sending) v → IsFilled L E F (embedding_by L E F v) M
        → map_count M ≡ map_count L + linked
        → EmbedsField sending (Embedded v (length degrees) linked) M

-- the first name that no field has; else the embedding of the named fields
pub data Embeds (L : Lattice) (from into : List ℕ) (sending : Option Sending)
    : Reply → Lattice → Type 0 where
  unknown_source : IsFreeName L from → Embeds L from into sending (Refused (UnknownField from)) L
  unknown_target : {E : ℕ} → IsNamed L E from → IsFreeName L into
      → Embeds L from into sending (Refused (UnknownField into)) L
  known : {E F : ℕ} {reply : Reply} {M : Lattice} → IsNamed L E from → IsNamed L F into
      → EmbedsField L E F sending reply M → Embeds L from into sending reply M

-- ---- requests
-- the reply to a request, and the lattice that it leaves
abbrev pub Steps : Lattice → Request → Reply → Lattice → Type 0
Steps L (Declare name p f) reply M = Declares L name p f reply M
Steps L (Embed from into sending) reply M = Embeds L from into sending reply M
Steps L Sync reply M = (reply ≡ Synced) × (M ≡ L)
