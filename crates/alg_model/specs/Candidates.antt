-- Which embeddings of field E into field F a compatible lattice allows, and the degrees that it
-- lacks then.
--     map_sending E F v, embedding_by L E F v     the map that sends the generator of E to v
--     IsSent F m sending         the prescribed value of E is sent to the prescribed value of F, if
--                                any are
--     IsCandidate L E F sending v     sending the generator of E to v is an embedding that agrees
--                                     with all common subfields
--     IsChoice L E F sending v   the first candidate
--     IsMember L E F i           i is a stored subfield of E or of F
--     IsClosureDegree L E F d    the members' degrees, closed under gcd
--     AreMissing L E F ds        the degrees of the closure that no member has, lowest first
use Rattle.std.specs.Prelude.{◌≡◌, ◌↔◌, ℕ, ◌<◌, List, AllPairs, Contains, Option, MatchOption}
use Rattle.std.specs.Int.{IsGcd}
use Rattle.alg_model.specs.Maps.{Field, field_values, degree_of, generator, apply, comp, powers, IsEmbedding}
use Rattle.alg_model.specs.Roots.{IsBefore}
use Rattle.alg_model.specs.Lattices.{Lattice, field_at, Stored}

-- the map from E to F that sends the generator of E to v
abbrev pub map_sending : Field → Field → List ℕ → List (List ℕ)
map_sending E F v = powers F v (degree_of E)

-- the same for two fields of a lattice
abbrev pub embedding_by : Lattice → ℕ → ℕ → List ℕ → List (List ℕ)
embedding_by L E F v = map_sending (field_at L.rows E) (field_at L.rows F) v

-- m sends the first of a prescribed pair of values to the second, if a pair is prescribed
abbrev pub IsSent : Field → List (List ℕ) → Option (List ℕ × List ℕ) → Type 0
IsSent F m sending = MatchOption sending (Unit {0}) (λ s. apply F m s.0 ≡ s.1)

-- v is a value of F, and the map that sends the generator of E to it is an embedding that agrees
-- with all common subfields and sends what is prescribed
pub record IsCandidate (L : Lattice) (E F : ℕ) (sending : Option (List ℕ × List ℕ)) (v : List ℕ)
    : Type 0 where
  pub value : (field_values (field_at L.rows F)).Valid v
  pub embedding : IsEmbedding (field_at L.rows E) (field_at L.rows F) (embedding_by L E F v)
  pub generator :
      apply (field_at L.rows F) (embedding_by L E F v) (generator (field_at L.rows E)) ≡ v
  -- a common subfield's map into E, followed by this one, is its map into F
  pub agrees : {d : ℕ} {m n : List (List ℕ)} → Stored L d E m → Stored L d F n
      → comp (field_at L.rows F) m (embedding_by L E F v) ≡ n
  pub sent : IsSent (field_at L.rows F) (embedding_by L E F v) sending

-- the first of the candidates
pub record IsChoice (L : Lattice) (E F : ℕ) (sending : Option (List ℕ × List ℕ)) (v : List ℕ)
    : Type 0 where
  pub candidate : IsCandidate L E F sending v
  pub first : (w : List ℕ) → IsCandidate L E F sending w → IsBefore w v → ⊥

-- a stored subfield of E or of F; E and F are members of themselves by their identities
pub data IsMember (L : Lattice) (E F i : ℕ) : Type 0 where
  of_source : {m : List (List ℕ)} → Stored L i E m → IsMember L E F i
  of_target : {m : List (List ℕ)} → Stored L i F m → IsMember L E F i

-- the members' degrees, and gcds of such degrees
pub data IsClosureDegree (L : Lattice) (E F : ℕ) : ℕ → Type 0 where
  of_member : {i : ℕ} → IsMember L E F i → IsClosureDegree L E F (degree_of (field_at L.rows i))
  of_gcd : {a b d : ℕ} → IsClosureDegree L E F a → IsClosureDegree L E F b → IsGcd a b d
      → IsClosureDegree L E F d

-- a degree of the closure that no member has
pub record IsMissing (L : Lattice) (E F d : ℕ) : Type 0 where
  pub in_closure : IsClosureDegree L E F d
  pub no_member : {i : ℕ} → IsMember L E F i → degree_of (field_at L.rows i) ≡ d → ⊥

-- all of them, lowest first
pub record AreMissing (L : Lattice) (E F : ℕ) (ds : List ℕ) : Type 0 where
  pub rising : AllPairs (λ a b. a < b) ds
  pub exactly : (d : ℕ) → Contains ds d ↔ IsMissing L E F d
