-- The laws of lattices of finite fields, in words and as statements.
use Rattle.std.specs.Prelude.{◌≡◌, ◌≢◌, ◌↔◌, ℕ, ◌<◌, ◌≤◌, List, length, slice_index_or, Option, None}
use Prim.Native.Nat.{◌∣◌}
use Rattle.alg_model.specs.Maps.{degree_of}
use Rattle.alg_model.specs.Lattices.{Edition, first_edition, second_edition, Lattice, Row, no_row, field_at, Stored, Grows, IsEdition, IsRow, IsRows, Compatible, IsCompatible}
use Rattle.alg_model.specs.Candidates.{embedding_by, IsCandidate, IsChoice, IsMissing, AreMissing}
use Rattle.alg_model.specs.Filling.{AreRowsAfter, IsStoredAfter, IsFilled}
use Rattle.alg_model.specs.Declaring.{IsOpening, IsDeclared}
use Rattle.alg_compatible.specs.Rules.{IsStoredByRules}

-- two numbers of its fields
pub record AreFields (L : Lattice) (E F : ℕ) : Type 0 where
  pub source : E < length L.rows
  pub target : F < length L.rows

-- Both editions are editions.
abbrev pub EditionsAreEditions : Type 0
EditionsAreEditions = IsEdition first_edition × IsEdition second_edition

-- The prime fields of an edition are rows of it, and with their identities they are a compatible
-- lattice.
abbrev pub OpeningIsCompatible : Type 0
OpeningIsCompatible = (L : Lattice) → IsEdition L.edition → IsOpening L → IsCompatible L

-- Declaring a field of the edition that is no prime field leaves a compatible lattice compatible,
-- and it grows.
abbrev pub DeclaringKeepsCompatible : Type 0
DeclaringKeepsCompatible = (L M : Lattice) (row : Row)
    → IsCompatible L → IsRow L.edition (length L.rows) row → degree_of row.field ≢ 1
    → IsDeclared L row M → Compatible M × Grows L M

-- Filling a compatible lattice by a candidate leaves it compatible, and it grows.
abbrev pub FillingKeepsCompatible : Type 0
FillingKeepsCompatible = (L M : Lattice) (E F : ℕ) (sending : Option (List ℕ × List ℕ)) (v : List ℕ)
    → IsCompatible L → AreFields L E F → IsCandidate L E F sending v
    → IsFilled L E F (embedding_by L E F v) M
    → Compatible M × Grows L M

-- Where there is room, its rows are rows of the edition, so that it can be filled again.
abbrev pub FillingKeepsRows : Type 0
FillingKeepsRows = (L M : Lattice) (E F : ℕ) (sending : Option (List ℕ × List ℕ)) (v : List ℕ)
    → IsCompatible L → AreFields L E F → IsCandidate L E F sending v
    → IsFilled L E F (embedding_by L E F v) M
    → length M.rows ≤ M.edition.room → IsRows M.edition M.rows

-- Where there is room and the name is new, so it is after a declaration.
abbrev pub DeclaringKeepsRows : Type 0
DeclaringKeepsRows = (L M : Lattice) (row : Row)
    → IsCompatible L → IsRow L.edition (length L.rows) row → IsDeclared L row M
    → ((i : ℕ) → i < length L.rows → (slice_index_or L.rows i no_row).name ≢ row.name)
    → length L.rows < L.edition.room
    → IsRows M.edition M.rows

-- What is stored after filling: for members whose degrees divide, the forced map; out of the
-- members, the forced map to the least member with a map there and then that map; all else as
-- before.
abbrev pub FillingIsByRules : Type 0
FillingIsByRules = (L : Lattice) (rows : List Row) (E F : ℕ) (sending : Option (List ℕ × List ℕ))
    (v : List ℕ)
    → IsCompatible L → AreFields L E F → IsCandidate L E F sending v → AreRowsAfter L E F rows
    → (i k : ℕ) (m : List (List ℕ))
    → IsStoredAfter L E F (embedding_by L E F v) rows i k m
    ↔ IsStoredByRules L E F (embedding_by L E F v) rows i k m

-- Where nothing is prescribed, each two fields of one characteristic whose degrees divide have a
-- candidate.
abbrev pub PlainEmbeddingExists : Type 0
PlainEmbeddingExists = (L : Lattice) (E F : ℕ) → IsCompatible L → AreFields L E F
    → (field_at L.rows E).characteristic ≡ (field_at L.rows F).characteristic
    → degree_of (field_at L.rows E) ∣ degree_of (field_at L.rows F)
    → (v : List ℕ) × IsCandidate L E F None v

-- Where there is a candidate, there is a choice.
abbrev pub ChoiceExists : Type 0
ChoiceExists = (L : Lattice) (E F : ℕ) (sending : Option (List ℕ × List ℕ)) (w : List ℕ)
    → IsCompatible L → AreFields L E F → IsCandidate L E F sending w
    → (v : List ℕ) × IsChoice L E F sending v

-- There is at most one choice.
abbrev pub ChoiceIsUnique : Type 0
ChoiceIsUnique = (L : Lattice) (E F : ℕ) (sending : Option (List ℕ × List ℕ)) (v w : List ℕ)
    → IsChoice L E F sending v → IsChoice L E F sending w → v ≡ w

-- For each two fields there is a list of the missing degrees.
abbrev pub MissingDegreesExist : Type 0
MissingDegreesExist = (L : Lattice) (E F : ℕ) → IsCompatible L
    → (ds : List ℕ) × AreMissing L E F ds

-- There is only one.
abbrev pub MissingDegreesAreUnique : Type 0
MissingDegreesAreUnique = (L : Lattice) (E F : ℕ) (ds es : List ℕ) → AreMissing L E F ds
    → AreMissing L E F es → ds ≡ es

-- Each compatible lattice that has grown and stores the new map has a field of each missing degree
-- with a map into F.
abbrev pub AddedFieldsAreForced : Type 0
AddedFieldsAreForced = (L M : Lattice) (E F : ℕ) (phi : List (List ℕ)) → IsCompatible L
    → IsCompatible M → Grows L M → Stored M E F phi
    → (d : ℕ) → IsMissing L E F d
    → (i : ℕ) × (m : List (List ℕ)) × Stored M i F m × (degree_of (field_at M.rows i) ≡ d)

-- Each that has the rows of the filled lattice N, the new map, and the maps of the added fields
-- into F, has all maps of N.
abbrev pub AddedMapsAreForced : Type 0
AddedMapsAreForced = (L N M : Lattice) (E F : ℕ) (sending : Option (List ℕ × List ℕ)) (v : List ℕ)
    → IsCompatible L → AreFields L E F → IsCandidate L E F sending v
    → IsFilled L E F (embedding_by L E F v) N
    → IsCompatible M → Grows L M → M.rows ≡ N.rows → Stored M E F (embedding_by L E F v)
    → ((i : ℕ) (m : List (List ℕ)) → length L.rows ≤ i → Stored N i F m → Stored M i F m)
    → Grows N M

-- Where the pair is stored already, filling changes nothing.
abbrev pub StoredPairChangesNothing : Type 0
StoredPairChangesNothing = (L M : Lattice) (E F : ℕ) (sending : Option (List ℕ × List ℕ))
    (v : List ℕ) (m : List (List ℕ))
    → IsCompatible L → AreFields L E F → IsCandidate L E F sending v
    → IsFilled L E F (embedding_by L E F v) M → Stored L E F m
    → M ≡ L

-- An edition has one opening lattice.
abbrev pub OpeningIsDetermined : Type 0
OpeningIsDetermined = (L M : Lattice) → L.edition ≡ M.edition → IsOpening L → IsOpening M → L ≡ M

-- A lattice and a row have one lattice after the declaration.
abbrev pub DeclaringIsDetermined : Type 0
DeclaringIsDetermined = (L M N : Lattice) (row : Row) → IsCompatible L → IsDeclared L row M
    → IsDeclared L row N → M ≡ N

-- A lattice, two fields and a map have one filled lattice.
abbrev pub FillingIsDetermined : Type 0
FillingIsDetermined = (L M N : Lattice) (E F : ℕ) (phi : List (List ℕ)) → IsFilled L E F phi M
    → IsFilled L E F phi N → M ≡ N

-- A compatible lattice and a candidate have a filled lattice.
abbrev pub FillingExists : Type 0
FillingExists = (L : Lattice) (E F : ℕ) (sending : Option (List ℕ × List ℕ)) (v : List ℕ)
    → IsCompatible L → AreFields L E F → IsCandidate L E F sending v
    → (M : Lattice) × IsFilled L E F (embedding_by L E F v) M

-- An edition has an opening lattice.
abbrev pub OpeningExists : Type 0
OpeningExists = (e : Edition) → (L : Lattice) × (L.edition ≡ e) × IsOpening L

-- A compatible lattice and a row of its edition have a lattice after the declaration.
abbrev pub DeclaringExists : Type 0
DeclaringExists = (L : Lattice) (row : Row) → IsCompatible L → IsRow L.edition (length L.rows) row
    → (M : Lattice) × IsDeclared L row M
