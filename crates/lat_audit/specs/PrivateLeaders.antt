-- Compositions told by leaders: fields that have an isomorphism into each field that they lead.
-- No public clause cites this module.
--     IsIsomorphic L l i        l has a map into i, and the degree of i
--     leader leaders i          the leader of field i
--     IsLed L leaders i         the leader of i is isomorphic to i, and its own leader
--     AreLeaders L leaders      each field has a leader
--     Heads L leaders i         i has another leader before it, or is its own
--     KeepsToLeaders L leaders i j     compositions with the isomorphisms between i and j and their leaders are stored
use Rattle.std.specs.Prelude.{◌≡◌, ◌⊎◌, ℕ, ◌<◌, List, length, slice_index_or}
use Rattle.alg_model.specs.Maps.{degree_of}
use Rattle.alg_model.specs.Lattices.{Lattice, field_at, Stored}
use Rattle.lat_audit.specs.PrivateRules.{KeepsComposition}

abbrev pub leader : List ℕ → ℕ → ℕ
leader leaders i = slice_index_or leaders i 0

module _ (L : Lattice) where
  pub record IsIsomorphic (l i : ℕ) : Type 0 where
    pub map : List (List ℕ)
    pub stored : Stored L l i map
    pub degree : degree_of (field_at L.rows l) ≡ degree_of (field_at L.rows i)

  pub record IsLed (leaders : List ℕ) (i : ℕ) : Type 0 where
    pub within : leader leaders i < length leaders
    pub isomorphic : IsIsomorphic (leader leaders i) i
    pub own : leader leaders (leader leaders i) ≡ leader leaders i

  abbrev pub AreLed : List ℕ → Type 0
  AreLed leaders = (i : ℕ) → i < length leaders → IsLed leaders i

  pub record AreLeaders (leaders : List ℕ) : Type 0 where
    pub count : length leaders ≡ length L.rows
    pub led : AreLed leaders

  -- l may be the leader of i, the field behind those that have leaders
  abbrev pub Heads : List ℕ → ℕ → ℕ → Type 0
  Heads leaders i l = (l ≡ i)
      ⊎ ((l < length leaders) × (leader leaders l ≡ l) × IsIsomorphic l i)

  pub record KeepsToLeaders (leaders : List ℕ) (i j : ℕ) : Type 0 where
    pub from_leader : KeepsComposition L (leader leaders i) i j
    pub by_leader : KeepsComposition L i (leader leaders i) j
    pub to_leader : KeepsComposition L i j (leader leaders j)
    pub by_other : KeepsComposition L i (leader leaders j) j
