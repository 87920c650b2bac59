-- What is stored after an insertion, by a rule for each kind of pair: members, maps out of them,
-- all else.
--     IsSubfield L E F phi rows i       i has a map into F
--     IsWay L E F phi rows i k j        j has one, its degree is a multiple of i's, and it had a
--                                       map into k before
--     IsStoredByRules L E F phi rows i k m
use Rattle.std.specs.Prelude.{ℕ, ◌<◌, List}
use Prim.Native.Nat.{◌∣◌}
use Rattle.alg_model.specs.Maps.{degree_of, comp}
use Rattle.alg_model.specs.Lattices.{Lattice, Row, field_at, Stored}
use Rattle.alg_model.specs.Filling.{IsMapInto, IsForced}

module _ (L : Lattice) (E F : ℕ) (phi : List (List ℕ)) (rows : List Row) where
  -- a member, or an added field
  abbrev pub IsSubfield : ℕ → Type 0
  IsSubfield i = (m : List (List ℕ)) × IsMapInto L E F phi rows i m

  -- from i, which goes with j's map into F, into k
  pub record IsWay (i k j : ℕ) : Type 0 where
    pub subfield : IsSubfield j
    pub divides : degree_of (field_at rows i) ∣ degree_of (field_at rows j)
    pub is_stored : (n : List (List ℕ)) × Stored L j k n

  -- both have maps into F, and the degree of i divides that of k
  pub record IsForcedPair (i k : ℕ) : Type 0 where
    pub source : IsSubfield i
    pub target : IsSubfield k
    pub divides : degree_of (field_at rows i) ∣ degree_of (field_at rows k)

  -- i alone has a map into F, and there is a way into k
  pub record IsPairBeyond (i k : ℕ) : Type 0 where
    pub source : IsSubfield i
    pub target : ¬ IsSubfield k
    pub way : (j : ℕ) × IsWay i k j

  -- members by the forced map, maps out of them by the least way, all else as before
  pub data IsStoredByRules (i k : ℕ) : List (List ℕ) → Type 0 where
    members : {m : List (List ℕ)} → IsForcedPair i k → IsForced L E F phi rows i k m
        → IsStoredByRules i k m
    overfield : {j : ℕ} {m n : List (List ℕ)} → IsPairBeyond i k → IsWay i k j
        → ((l : ℕ) → l < j → IsWay i k l → ⊥)
        → IsForced L E F phi rows i j m → Stored L j k n
        → IsStoredByRules i k (comp (field_at rows k) m n)
    as_before : {m : List (List ℕ)} → ¬ IsForcedPair i k → ¬ IsPairBeyond i k → Stored L i k m
        → IsStoredByRules i k m
