-- What an embedding phi of field E into field F adds to a lattice L, as the rule is told: which
-- pairs have a map afterwards, and which map; `rows` are the rows afterwards. That a lattice is
-- filled exactly if it is so is a law, as are the others here.
--     IsMemberAfter .. i          i is a member or an added field: an added field is a member too
--     IsMemberPair .. i k         both are members, and the degree of i divides that of k
--     IsWay .. i k j              member j has a map into k in L, and the degree of i divides j's
--     IsLeastWay .. i k j         it is the least such member
--     IsPairOut .. i k            i is a member and k is none, and there is such a member
--     IsRuledPair .. i k          the rule asks for a map: the pair is of one of these two kinds
--     IsMap K G m                 m is a map from K to G, whatever it keeps
--     IsMapOfMember .. i m        m is the map of member i into F
--     Agrees .. i j m             m, followed by the map of member j into F, is that of member i
--     IsOnlyMap .. i j m          m is a map from i to j that agrees so, and there is no other
--     IsStoredAsWorded .. i k m   m is stored for i and k afterwards
--     IsFilledAsWorded L E F phi M     M is L with all that phi adds
use Rattle.std.specs.Prelude.{◌≡◌, ◌⊎◌, ◌↔◌, ℕ, ◌+◌, ◌<◌, ◌≤◌, List, length, All, Option}
use Prim.Native.Nat.{◌∣◌}
use Rattle.alg_model.specs.Maps.{Field, field_values, degree_of, comp, constants}
use Rattle.alg_model.specs.Roots.{IsLeastRoot}
use Rattle.alg_model.specs.Lattices.{Lattice, Row, field_at, Stored, IsCompatible}
use Rattle.alg_model.specs.Candidates.{map_sending, embedding_by, IsCandidate, IsMember}
use Rattle.alg_model.specs.Filling.{AreRowsAfter, IsFilled}
use Rattle.alg_compatible.specs.Theorems.{AreFields}
use Rattle.alg_choices.specs.Linking.{AreNewPairs}
use Rattle.lat_insert.specs.Theorems.{IsInsertion}

-- some map is stored for i and j
abbrev pub IsStoredPair : Lattice → ℕ → ℕ → Type 0
IsStoredPair L i j = (m : List (List ℕ)) × Stored L i j m

-- ---- which pairs
module _ (L : Lattice) (E F : ℕ) (rows : List Row) where
  -- a stored subfield of E or of F, or an added field
  pub data IsMemberAfter (i : ℕ) : Type 0 where
    before : IsMember L E F i → IsMemberAfter i
    added : length L.rows ≤ i → i < length rows → IsMemberAfter i

  -- members i and k, where the degree of i divides that of k
  pub record IsMemberPair (i k : ℕ) : Type 0 where
    pub source : IsMemberAfter i
    pub target : IsMemberAfter k
    pub divides : degree_of (field_at rows i) ∣ degree_of (field_at rows k)

  -- a member j with a map into k in L, where the degree of i divides that of j
  pub record IsWay (i k j : ℕ) : Type 0 where
    pub member : IsMemberAfter j
    pub is_stored : IsStoredPair L j k
    pub divides : degree_of (field_at rows i) ∣ degree_of (field_at rows j)

  -- the least such member
  pub record IsLeastWay (i k j : ℕ) : Type 0 where
    pub way : IsWay i k j
    pub least : (l : ℕ) → IsWay i k l → j ≤ l

  -- a member i and a field k that is none, where there is such a member
  pub record IsPairOut (i k : ℕ) : Type 0 where
    pub source : IsMemberAfter i
    pub target : ¬ IsMemberAfter k
    pub way : (j : ℕ) × IsWay i k j

  -- a pair for which the rule asks for a map, whether it had one before or not
  pub data IsRuledPair (i k : ℕ) : Type 0 where
    among : IsMemberPair i k → IsRuledPair i k
    out : IsPairOut i k → IsRuledPair i k

-- ---- which map
-- the images of 1, x, .. are values of G
pub record IsMap (K G : Field) (m : List (List ℕ)) : Type 0 where
  pub count : length m ≡ degree_of K
  pub images : All (field_values G).Valid m

module _ (L : Lattice) (E F : ℕ) (phi : List (List ℕ)) (rows : List Row) where
  -- The stored one; where none is stored, its map into E followed by phi; for an added field, the
  -- map by the least root of its polynomial in F.
  pub data IsMapOfMember (i : ℕ) : List (List ℕ) → Type 0 where
    stored : {m : List (List ℕ)} → Stored L i F m → IsMapOfMember i m
    through : {m : List (List ℕ)} → ¬ IsStoredPair L i F → Stored L i E m
        → IsMapOfMember i (comp (field_at rows F) m phi)
    by_root : {v : List ℕ} → length L.rows ≤ i → i < length rows
        → IsLeastRoot (field_at rows F) (constants (field_at rows F) (field_at rows i).polynomial) v
        → IsMapOfMember i (map_sending (field_at rows i) (field_at rows F) v)

  -- m, followed by the map of member j into F, is the map of member i into F
  pub record Agrees (i j : ℕ) (m : List (List ℕ)) : Type 0 where
    pub first : List (List ℕ)
    pub second : List (List ℕ)
    pub first_into : IsMapOfMember i first
    pub second_into : IsMapOfMember j second
    pub followed : comp (field_at rows F) m second ≡ first

  -- the one map from i to j that agrees so
  pub record IsOnlyMap (i j : ℕ) (m : List (List ℕ)) : Type 0 where
    pub is_map : IsMap (field_at rows i) (field_at rows j) m
    pub agrees : Agrees i j m
    pub only : (n : List (List ℕ)) → IsMap (field_at rows i) (field_at rows j) n → Agrees i j n
        → n ≡ m

  -- Members whose degrees divide have the one map that agrees. A member i and a field k that is
  -- none have the one from i to the least way j, followed by the map of j and k. All else is as
  -- before.
  pub data IsStoredAsWorded (i k : ℕ) : List (List ℕ) → Type 0 where
    among : {m : List (List ℕ)} → IsMemberPair L E F rows i k → IsOnlyMap i k m
        → IsStoredAsWorded i k m
    out : {j : ℕ} {m n : List (List ℕ)} → IsPairOut L E F rows i k → IsLeastWay L E F rows i k j
        → IsOnlyMap i j m → Stored L j k n → IsStoredAsWorded i k (comp (field_at rows k) m n)
    as_before : {m : List (List ℕ)} → ¬ IsRuledPair L E F rows i k → Stored L i k m
        → IsStoredAsWorded i k m

-- A field is added for each missing degree, and each pair has the map that the rule names.
pub record IsFilledAsWorded (L : Lattice) (E F : ℕ) (phi : List (List ℕ)) (M : Lattice) : Type 0
  where
    pub edition : M.edition ≡ L.edition
    pub rows : AreRowsAfter L E F M.rows
    pub maps : (i k : ℕ) (m : List (List ℕ))
        → Stored M i k m ↔ IsStoredAsWorded L E F phi M.rows i k m

-- ---- the laws
-- A compatible lattice is filled by a candidate exactly as the rule is told.
abbrev pub FillingIsAsWorded : Type 0
FillingIsAsWorded = (L M : Lattice) (E F : ℕ) (sending : Option (List ℕ × List ℕ)) (v : List ℕ)
    → IsCompatible L → AreFields L E F → IsCandidate L E F sending v
    → IsFilled L E F (embedding_by L E F v) M ↔ IsFilledAsWorded L E F (embedding_by L E F v) M

-- So it is by each step that embeds a field.
abbrev pub InsertionIsAsWorded : Type 0
InsertionIsAsWorded = (L M : Lattice) (E F : ℕ) (v : List ℕ)
    → IsCompatible L → IsInsertion L E F v M
    → IsFilledAsWorded L E F (embedding_by L E F v) M

-- The pairs that have a map afterwards are those that had one and those for which the rule asks:
-- for each of these there is the map that it names.
abbrev pub RuledPairsAreStored : Type 0
RuledPairsAreStored = (L M : Lattice) (E F : ℕ) (v : List ℕ)
    → IsCompatible L → IsInsertion L E F v M → (i k : ℕ)
    → IsStoredPair M i k ↔ (IsStoredPair L i k ⊎ IsRuledPair L E F M.rows i k)

-- The rule holds of the pairs that had a map too: it names the map that they had.
abbrev pub StoredMapsAreAsWorded : Type 0
StoredMapsAreAsWorded = (L M : Lattice) (E F : ℕ) (v : List ℕ)
    → IsCompatible L → IsInsertion L E F v M → (i k : ℕ) (m : List (List ℕ)) → Stored L i k m
    → IsStoredAsWorded L E F (embedding_by L E F v) M.rows i k m

-- The reply counts the fields that are new, and the pairs that have a map and had none.
abbrev pub AdditionsAreCounted : Type 0
AdditionsAreCounted = (L M : Lattice) (E F : ℕ) (v : List ℕ)
    → IsCompatible L → (I : IsInsertion L E F v M)
    → (length M.rows ≡ length L.rows + I.made)
    × ((ps : List (ℕ × ℕ)) × AreNewPairs L M ps × (length ps ≡ I.linked))
