-- How a program lists the fields that have a map into field F after an insertion, and what maps it
-- stores between them and out of them. Places are numbers below `count`; the field of place a has
-- the number `number a`, and `into a` is its map into F.
--     IsListed L E F phi rows ..     the places list the members and the added fields, with their
--                                    maps into F
--     IsListedBelow L E F phi rows .. n     the same of the fields below n
--     IsLink F rows .. a b m         m, followed by b's map into F, is a's
--     MayStore L F rows .. i k m     m was stored for i and k, or is a link, or a link and then a
--                                    stored map
--     Links L F .. M                 M stores such maps alone, the old ones, one for each two
--                                    places whose degrees divide, and one for each way out of them
--     AreNewPairs L M ps             ps lists the pairs that M has a map for and L has none
use Rattle.std.specs.Prelude.{◌≡◌, ◌≢◌, ◌↔◌, ℕ, ◌<◌, ◌≤◌, List, length, AllPairs, Contains}
use Prim.Native.Nat.{◌∣◌}
use Rattle.alg_model.specs.Maps.{degree_of, comp, IsEmbedding}
use Rattle.alg_model.specs.Lattices.{Lattice, Row, field_at, Stored}
use Rattle.alg_model.specs.Candidates.{IsMember}
use Rattle.alg_model.specs.Filling.{IsMapInto}

module _ (count : ℕ) (number : ℕ → ℕ) (into : ℕ → List (List ℕ)) where
  -- each place has a map into F; each member and each added field has a place
  pub record IsListed (L : Lattice) (E F : ℕ) (phi : List (List ℕ)) (rows : List Row) : Type 0 where
    pub is_into : (a : ℕ) → a < count → IsMapInto L E F phi rows (number a) (into a)
    pub members : (i : ℕ) → IsMember L E F i → (a : ℕ) × (a < count) × (number a ≡ i)
    pub made : (i : ℕ) → length L.rows ≤ i → i < length rows
        → (a : ℕ) × (a < count) × (number a ≡ i)

  -- the same of the fields below n, in the order of their numbers, for a list that is being made
  pub record IsListedBelow (L : Lattice) (E F : ℕ) (phi : List (List ℕ)) (rows : List Row) (n : ℕ)
      : Type 0 where
    pub is_into : (a : ℕ) → a < count → IsMapInto L E F phi rows (number a) (into a)
    pub below : (a : ℕ) → a < count → number a < n
    pub rising : (a b : ℕ) → a < b → b < count → number a < number b
    pub members : (i : ℕ) → i < n → IsMember L E F i → (a : ℕ) × (a < count) × (number a ≡ i)
    pub made : (i : ℕ) → length L.rows ≤ i → i < n → (a : ℕ) × (a < count) × (number a ≡ i)

  -- the one map from place a to place b that agrees with their maps into F
  pub record IsLink (F : ℕ) (rows : List Row) (a b : ℕ) (m : List (List ℕ)) : Type 0 where
    pub source : a < count
    pub target : b < count
    pub embedding : IsEmbedding (field_at rows (number a)) (field_at rows (number b)) m
    pub followed : comp (field_at rows F) m (into b) ≡ into a

  -- what is stored for i and k is one of these
  pub data MayStore (L : Lattice) (F : ℕ) (rows : List Row) (i k : ℕ) : List (List ℕ) → Type 0 where
    before : {m : List (List ℕ)} → Stored L i k m → MayStore L F rows i k m
    link : {a b : ℕ} {m : List (List ℕ)} → number a ≡ i → number b ≡ k → IsLink F rows a b m
        → MayStore L F rows i k m
    beyond : {a b : ℕ} {m n : List (List ℕ)} → number a ≡ i → IsLink F rows a b m
        → Stored L (number b) k n → MayStore L F rows i k (comp (field_at rows k) m n)

  -- what the program stores
  pub record Links (L : Lattice) (F : ℕ) (M : Lattice) : Type 0 where
    pub only : {i k : ℕ} {m : List (List ℕ)} → Stored M i k m → MayStore L F M.rows i k m
    pub old : {i k : ℕ} {m : List (List ℕ)} → Stored L i k m
        → (n : List (List ℕ)) × Stored M i k n
    pub among : (a b : ℕ) → a < count → b < count
        → degree_of (field_at M.rows (number a)) ∣ degree_of (field_at M.rows (number b))
        → (n : List (List ℕ)) × Stored M (number a) (number b) n
    -- out of the places, into a field k that has none
    pub leaving : (a b : ℕ) → a < count → b < count
        → degree_of (field_at M.rows (number a)) ∣ degree_of (field_at M.rows (number b))
        → {k : ℕ} {m : List (List ℕ)} → Stored L (number b) k m
        → ((c : ℕ) → c < count → number c ≢ k)
        → (n : List (List ℕ)) × Stored M (number a) k n

-- each pair that has a map in M and had none in L, once
pub record AreNewPairs (L M : Lattice) (ps : List (ℕ × ℕ)) : Type 0 where
  pub apart : AllPairs (λ p q. p ≢ q) ps
  pub exactly : (i k : ℕ) → Contains ps (i, k)
      ↔ (((m : List (List ℕ)) × Stored M i k m) × ¬ ((m : List (List ℕ)) × Stored L i k m))
