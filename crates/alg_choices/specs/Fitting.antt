-- What a value of field F of a lattice must be for an embedding of field E, told of some of the
-- common subfields.
--     IsCommonSubfield L E F d     field d has stored maps into E and into F
--     AgreesAt L E F v d           sending the generator of E to v takes d's map into E to its map
--                                  into F
--     Fits L E F S sending v       v is a root of the polynomial of E that agrees at each field of
--                                  S, and sends what is prescribed
--     AreSufficient L E F S        each common subfield that isn't a prime field has a map into one
--                                  that S holds
--     IsCovered L E F d            d goes into a common subfield that does for it too
--     AreRestrictions L E F S restriction     a polynomial for each field of S, zero exactly where
--                                  the maps of that field agree
--     AreZeros L E F S restriction sending v     the polynomials for E, for the fields of S and for
--                                  what is prescribed are zero at v
--     Selects L E F needed i sending g     the roots of g are the values that agree at each needed
--                                  field below i and send what is prescribed
--     Narrows L E F needed i sending g     so are the common roots of g and of the polynomial of E
--     AreGiven L E F sending       what is prescribed is a value of E and one of F
use Rattle.std.specs.Prelude.{◌≡◌, ◌≢◌, ◌⊎◌, ◌↔◌, ℕ, ◌<◌, List, Option, MatchOption}
use Rattle.alg_model.specs.Maps.{field_values, degree_of, comp, constants}
use Rattle.alg_model.specs.Roots.{IsRoot}
use Rattle.alg_model.specs.Lattices.{Lattice, field_at, Stored}
use Rattle.alg_model.specs.Candidates.{embedding_by, IsSent}
use Rattle.alg_choices.specs.Restrictions.{prescription, IsRestriction}

module _ (L : Lattice) (E F : ℕ) where
  -- d has a map into E and one into F
  pub record IsCommonSubfield (d : ℕ) : Type 0 where
    pub first : List (List ℕ)
    pub second : List (List ℕ)
    pub into_first : Stored L d E first
    pub into_second : Stored L d F second

  -- where d has both maps, v takes one to the other
  pub record AgreesAt (v : List ℕ) (d : ℕ) : Type 0 where
    pub agrees : {m n : List (List ℕ)} → Stored L d E m → Stored L d F n
        → comp (field_at L.rows F) m (embedding_by L E F v) ≡ n

  -- like a candidate, but agreeing at the fields of S alone
  pub record Fits (S : ℕ → Type 0) (sending : Option (List ℕ × List ℕ)) (v : List ℕ) : Type 0 where
    pub root : IsRoot (field_at L.rows F)
        (constants (field_at L.rows F) (field_at L.rows E).polynomial) v
    pub agrees : (d : ℕ) → S d → AgreesAt v d
    pub sent : IsSent (field_at L.rows F) (embedding_by L E F v) sending

  -- each common subfield of degree above one goes into a common subfield in S
  pub record AreSufficient (S : ℕ → Type 0) : Type 0 where
    pub covered : (c : ℕ) → IsCommonSubfield c → degree_of (field_at L.rows c) ≢ 1
        → (d : ℕ) × S d × IsCommonSubfield d × ((k : List (List ℕ)) × Stored L c d k)

  -- field d goes into another common subfield, which is greater or, of the same degree, first
  pub record IsCovered (d : ℕ) : Type 0 where
    pub cover : ℕ
    pub map : List (List ℕ)
    pub is_common : IsCommonSubfield cover
    pub into : Stored L d cover map
    pub comes_first : (degree_of (field_at L.rows d) < degree_of (field_at L.rows cover))
        ⊎ ((degree_of (field_at L.rows d) ≡ degree_of (field_at L.rows cover)) × (cover < d))

  -- for each d of S, which are common subfields, restriction d is the polynomial of d's maps
  pub record AreRestrictions (S : ℕ → Type 0) (restriction : ℕ → List (List ℕ)) : Type 0 where
    pub is_common : (d : ℕ) → S d → IsCommonSubfield d
    pub restricts : (d : ℕ) → S d → {m n : List (List ℕ)} → Stored L d E m → Stored L d F n
        → IsRestriction (field_at L.rows E) (field_at L.rows F) m n (restriction d)

  -- the polynomial of E, those of the fields of S, and that of what is prescribed are zero at v
  pub record AreZeros (S : ℕ → Type 0) (restriction : ℕ → List (List ℕ))
      (sending : Option (List ℕ × List ℕ)) (v : List ℕ) : Type 0 where
    pub root : IsRoot (field_at L.rows F)
        (constants (field_at L.rows F) (field_at L.rows E).polynomial) v
    pub restricted : (d : ℕ) → S d → IsRoot (field_at L.rows F) (restriction d) v
    pub sent : MatchOption sending (Unit {0})
        (λ s. IsRoot (field_at L.rows F) (prescription (field_at L.rows F) s.0 s.1) v)

  -- what is prescribed, if anything, is a value of E and a value of F
  abbrev pub AreGiven : Option (List ℕ × List ℕ) → Type 0
  AreGiven sending = MatchOption sending (Unit {0})
      (λ s. (field_values (field_at L.rows E)).Valid s.0
      × (field_values (field_at L.rows F)).Valid s.1)

  -- the fields below i that are needed
  abbrev pub Passed : (ℕ → Type 0) → ℕ → ℕ → Type 0
  Passed needed i d = (d < i) × needed d

  -- R is true of the values that fit the needed fields below i and what is prescribed, and of no
  -- others
  pub record IsSelection (needed : ℕ → Type 0) (i : ℕ) (sending : Option (List ℕ × List ℕ))
      (R : List ℕ → Type 0) : Type 0 where
    pub exactly : (w : List ℕ) → R w ↔ Fits (Passed needed i) sending w

  -- the roots of g are these values
  abbrev pub Selects : (ℕ → Type 0) → ℕ → Option (List ℕ × List ℕ) → List (List ℕ) → Type 0
  Selects needed i sending g = IsSelection needed i sending (IsRoot (field_at L.rows F) g)

  -- the common roots of g and of the polynomial of E are these values
  abbrev pub Narrows : (ℕ → Type 0) → ℕ → Option (List ℕ × List ℕ) → List (List ℕ) → Type 0
  Narrows needed i sending g = IsSelection needed i sending (λ w.
      IsRoot (field_at L.rows F) (constants (field_at L.rows F) (field_at L.rows E).polynomial) w
      × IsRoot (field_at L.rows F) g w)
