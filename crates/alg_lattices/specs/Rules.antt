-- What is stored after an insertion, by the rules for members, for maps out of them, and for all
-- else.
--     IsWay o W i k j          j has a stored map into k, and its degree is a multiple of i's
--     IsStoredByRules o W i k m
use Rattle.std.specs.Prelude.{ℕ, ◌<◌}
use Prim.Native.Nat.{◌∣◌}
use Rattle.alg_lattices.specs.Embeddings.{Embeddings}
use Rattle.alg_lattices.specs.Lattices.{IsStoredPair}
use Rattle.alg_lattices.specs.Filling.{Insertion, IsSubfield, IsForced}

-- j has a map into the target and a stored one into k, and the degree of i divides that of j
pub record IsWay {Field Map : Type 0} (o : Embeddings Field Map) (W : Insertion Field Map)
    (i k j : ℕ) : Type 0 where
  pub subfield : IsSubfield o W j
  pub divides : o.degree (W.row i) ∣ o.degree (W.row j)
  pub is_stored : IsStoredPair W.old j k

-- both have maps into the target, and the degree of i divides that of k
abbrev pub IsForcedPair : {Field Map : Type 0} → Embeddings Field Map → Insertion Field Map → ℕ → ℕ
    → Type 0
IsForcedPair o W i k = IsSubfield o W i × IsSubfield o W k
    × (o.degree (W.row i) ∣ o.degree (W.row k))

-- i alone has a map into the target, and there is a way into k
abbrev pub IsPairBeyond : {Field Map : Type 0} → Embeddings Field Map → Insertion Field Map → ℕ → ℕ
    → Type 0
IsPairBeyond o W i k = IsSubfield o W i × ¬ IsSubfield o W k × ((j : ℕ) × IsWay o W i k j)

-- members by forced maps, maps out of them by the least way, all else as before
pub data IsStoredByRules {Field Map : Type 0} (o : Embeddings Field Map) (W : Insertion Field Map)
    (i k : ℕ) : Map → Type 0 where
  members : {m : Map} → IsForcedPair o W i k → IsForced o W i k m → IsStoredByRules o W i k m
  overfield : {j : ℕ} {m n : Map} → IsPairBeyond o W i k → IsWay o W i k j
      → ((l : ℕ) → l < j → IsWay o W i k l → ⊥)
      → IsForced o W i j m → W.old.Has j k n → IsStoredByRules o W i k (o.comp (W.row k) m n)
  as_before : {m : Map} → ¬ IsForcedPair o W i k → ¬ IsPairBeyond o W i k → W.old.Has i k m
      → IsStoredByRules o W i k m
