-- What an insertion adds is forced, which fields are declared, and which are embedded: in words, and
-- as statements.
use Rattle.std.specs.Prelude.{◌≡◌, ◌↔◌, ℕ, ◌+◌, ◌<◌, ◌≤◌, false, List, length, Contains, Option, None}
use Rattle.alg_model.specs.Coefficients.{residues}
use Rattle.alg_model.specs.Factors.{IsMonic, IsIrreducible}
use Rattle.alg_model.specs.Values.{degree}
use Rattle.alg_model.specs.Maps.{degree_of}
use Rattle.alg_model.specs.Lattices.{Lattice, field_at, Stored, Grows, IsCompatible}
use Rattle.alg_model.specs.Candidates.{embedding_by, AreMissing}
use Rattle.lat_core.specs.declared.editions.Edition.{Edition}
use Rattle.lat_core.specs.declared.tagged.Sending.{Sending}
use Rattle.lat_core.specs.declared.requests.Request.TheVariants.{Declare, Embed}
use Rattle.lat_core.specs.declared.replies.Reply.{Reply}
use Rattle.lat_core.specs.declared.replies.Reply.TheVariants.{Declared, Embedded}
use Rattle.lat_core.specs.Digits.{AreDigits}
use Rattle.lat_core.specs.Editions.{edition_of}
use Rattle.lat_core.specs.Names.{IsDeclaredName}
use Rattle.lat_core.specs.Step.{IsNamed, IsFreeName, HaveOneCharacteristic, HaveDividingDegrees, Steps}

-- from L a step that embeds field E into field F, by the image v of the generator, leads to M
pub record IsInsertion (L : Lattice) (E F : ℕ) (v : List ℕ) (M : Lattice) : Type 0 where
  pub from : List ℕ
  pub into : List ℕ
  pub sending : Option Sending
  pub made : ℕ
  pub linked : ℕ
  pub source : IsNamed L E from
  pub target : IsNamed L F into
  pub step : Steps L (Embed from into sending) (Embedded v made linked) M

-- Each compatible lattice N that has grown from L and stores the new map has, for each field that
-- the insertion adds, one of its degree with a map into F.
abbrev pub MadeFieldsAreForced : Type 0
MadeFieldsAreForced = (L M N : Lattice) (E F : ℕ) (v : List ℕ)
    → IsCompatible L → IsInsertion L E F v M
    → IsCompatible N → Grows L N → Stored N E F (embedding_by L E F v)
    → (i : ℕ) → length L.rows ≤ i → i < length M.rows
    → (j : ℕ) × (m : List (List ℕ)) × Stored N j F m
    × (degree_of (field_at N.rows j) ≡ degree_of (field_at M.rows i))

-- Each that has the rows of M, the new map, and the maps of the added fields into F, has all maps
-- of M.
abbrev pub LinkedMapsAreForced : Type 0
LinkedMapsAreForced = (L M N : Lattice) (E F : ℕ) (v : List ℕ)
    → IsCompatible L → IsInsertion L E F v M
    → IsCompatible N → Grows L N → N.rows ≡ M.rows → Stored N E F (embedding_by L E F v)
    → ((i : ℕ) (m : List (List ℕ)) → length L.rows ≤ i → Stored M i F m → Stored N i F m)
    → Grows M N

-- ---- which fields are declared
-- a free name, a characteristic of the edition, a monic irreducible polynomial over it of a degree
-- from 2 to the edition's greatest, and room for one field more
pub record IsDeclarable (L : Lattice) (name : List ℕ) (p : ℕ) (f : List ℕ) : Type 0 where
  pub free : IsFreeName L name
  pub characteristic : Contains L.edition.primes p
  pub monic : IsMonic (residues p) f
  pub irreducible : IsIrreducible (residues p) f
  pub above_one : 2 ≤ degree f
  pub within_top : degree f ≤ L.edition.top
  pub room : length L.rows < L.edition.room

-- M has one field more than L: that of p and f, under this name
pub record IsNewField (L : Lattice) (name : List ℕ) (p : ℕ) (f : List ℕ) (M : Lattice) : Type 0
  where
    pub count : length M.rows ≡ length L.rows + 1
    pub named : IsNamed M (length L.rows) name
    pub field : field_at M.rows (length L.rows) ≡ record { characteristic = p; polynomial = f }

-- Each such field is declared, under the next number.
abbrev pub DeclarableIsDeclared : Type 0
DeclarableIsDeclared = (L : Lattice) (name : List ℕ) (p : ℕ) (f : List ℕ)
    → IsCompatible L → IsDeclaredName name → IsDeclarable L name p f
    → (M : Lattice) × Steps L (Declare name p f) (Declared (length L.rows) false) M
    × IsNewField L name p f M

-- And only such a field: whatever the request is answered, it is this reply exactly for these.
abbrev pub OnlyDeclarableIsDeclared : Type 0
OnlyDeclarableIsDeclared = (L : Lattice) (name : List ℕ) (p : ℕ) (f : List ℕ) (reply : Reply)
    (M : Lattice) → IsCompatible L → IsDeclaredName name → Steps L (Declare name p f) reply M
    → (reply ≡ Declared (length L.rows) false) ↔ IsDeclarable L name p f

-- Where the field is declared, the lattice afterwards has it under that name and number.
abbrev pub DeclaredFieldIsNew : Type 0
DeclaredFieldIsNew = (L : Lattice) (name : List ℕ) (p : ℕ) (f : List ℕ) (n : ℕ) (M : Lattice)
    → Steps L (Declare name p f) (Declared n false) M
    → (n ≡ length L.rows) × IsNewField L name p f M

-- In both editions a request can hold the polynomial of each such field.
abbrev pub DeclarableHasDigits : Type 0
DeclarableHasDigits = (L : Lattice) (name : List ℕ) (p : ℕ) (f : List ℕ) (e : Edition)
    → L.edition ≡ edition_of e → IsDeclarable L name p f → AreDigits f

-- ---- which fields are embedded
-- the names of two fields of one characteristic, where the degree of the first divides that of the
-- second, and where there is room for a field of each missing degree
pub record AreEmbeddableNames (L : Lattice) (from into : List ℕ) : Type 0 where
  pub E : ℕ
  pub F : ℕ
  pub source : IsNamed L E from
  pub target : IsNamed L F into
  pub characteristic : HaveOneCharacteristic L E F
  pub degrees : HaveDividingDegrees L E F
  pub missing : List ℕ
  pub are_missing : AreMissing L E F missing
  pub room : length L.rows + length missing ≤ L.edition.room

-- the reply tells of an embedding, whichever it is and whatever it adds
abbrev pub IsEmbedded : Reply → Type 0
IsEmbedded reply = (image : List ℕ) × (made : ℕ) × (linked : ℕ)
    × (reply ≡ Embedded image made linked)

-- Where nothing is prescribed, a request to embed such a field is answered so: it has no other reply.
abbrev pub EmbeddableIsEmbedded : Type 0
EmbeddableIsEmbedded = (L : Lattice) (from into : List ℕ) (reply : Reply) (M : Lattice)
    → IsCompatible L → AreEmbeddableNames L from into → Steps L (Embed from into None) reply M
    → IsEmbedded reply

-- And it has such a reply.
abbrev pub EmbeddableHasReply : Type 0
EmbeddableHasReply = (L : Lattice) (from into : List ℕ)
    → IsCompatible L → AreEmbeddableNames L from into
    → (reply : Reply) × (M : Lattice) × Steps L (Embed from into None) reply M × IsEmbedded reply

-- Only such a field is embedded.
abbrev pub OnlyEmbeddableIsEmbedded : Type 0
OnlyEmbeddableIsEmbedded = (L : Lattice) (from into : List ℕ) (reply : Reply) (M : Lattice)
    → Steps L (Embed from into None) reply M → IsEmbedded reply → AreEmbeddableNames L from into

-- Where a field is embedded, prescribed values or none, the lattice afterwards has the map that
-- sends its generator to the image that is answered.
abbrev pub EmbeddingIsStored : Type 0
EmbeddingIsStored = (L M : Lattice) (E F : ℕ) (v : List ℕ)
    → IsCompatible L → IsInsertion L E F v M → Stored M E F (embedding_by L E F v)
