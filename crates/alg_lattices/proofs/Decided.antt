-- It can be told which pairs have a map after an insertion.
use Rattle.std.proofs.Common.{◌⊎◌, ℕ, ◌<◌, inl, inr, ⊎_elim, arith}
use Rattle.std.proofs.lemmas.Bool.{cases_lt}
use Rattle.alg_rings.proofs.Decisions.{Least, search_below, divides_or_not}
use Rattle.alg_lattices.specs.Embeddings.{Embeddings}
use Rattle.alg_lattices.specs.Lattices.{IsDecided, IsStoredPair}
use Rattle.alg_lattices.specs.Filling.{IsSubfield, Insertion, filled}
use Rattle.alg_lattices.specs.Filling.IsStoredAfter.{before, forced, beyond}
use Rattle.alg_lattices.specs.Rules.{IsWay}
use Rattle.alg_lattices.proofs.ForcedMaps.{Setting}
use Rattle.alg_lattices.proofs.ForcedMaps
use Rattle.alg_lattices.proofs.StoredMaps
use Rattle.alg_lattices.proofs.Rules.{way_or_not, way_below, way_of}

module _ {Field Map : Type 0} {o : Embeddings Field Map} {primes : ℕ} {W : Insertion Field Map}
    (S : Setting o primes W) where
  open S use {law, compatible as C}

  -- between two fields with maps into the target: where the degrees divide
  among_or_not : {i k : ℕ} → IsSubfield o W i → IsSubfield o W k
      → IsStoredPair (filled o W) i k ⊎ ¬ IsStoredPair (filled o W) i k
  among_or_not {i} {k} (a, h) (b, n) = ⊎_elim
      (λ d. let (m, f) = ForcedMaps.forced_exists S h n d in inl (m, forced f))
      (λ apart. inr (λ (m, s). apart (law.degree_divides (StoredMaps.among S (b, n) s).embedding)))
      (divides_or_not (o.degree (W.row i)) (o.degree (W.row k)))

  -- out of these fields: where there is a way
  leaving_or_not : {i k : ℕ} → IsSubfield o W i → ¬ IsSubfield o W k
      → IsStoredPair (filled o W) i k ⊎ ¬ IsStoredPair (filled o W) i k
  leaving_or_not {i} {k} x z = ⊎_elim
      (λ (l : Least (IsWay o W i k) W.count).
      let (u, f) = ForcedMaps.forced_exists S x.1 l.holds.subfield.1 l.holds.divides in
      let (n, h) = l.holds.is_stored in
      inl (o.comp (W.row k) u n, beyond f h))
      (λ none. inr (λ (m, s).
      let w = way_of S (StoredMaps.leaving S x z s) in
      none w.0 (way_below S w.1) w.1))
      (search_below (IsWay o W i k) W.count (way_or_not S i k))

  within_or_not : {i k : ℕ} → i < W.count → k < W.count
      → IsStoredPair (filled o W) i k ⊎ ¬ IsStoredPair (filled o W) i k
  within_or_not {i} {k} a b = ⊎_elim
      (λ z. ⊎_elim
      (λ x. among_or_not x z)
      (λ x. inr (λ (m, s). x (StoredMaps.source_subfield S z s)))
      (ForcedMaps.subfield_or_not S i a))
      (λ z. ⊎_elim
      (λ x. leaving_or_not x z)
      (λ x. ⊎_elim
      (λ (m, h). inl (m, before h))
      (λ none. inr (λ (m, s). none (m, StoredMaps.outside S x s)))
      (S.decided i k))
      (ForcedMaps.subfield_or_not S i a))
      (ForcedMaps.subfield_or_not S k b)

  -- **which pairs have a map after an insertion can be told**
  pub filled_decided : IsDecided (filled o W)
  filled_decided i k = ⊎_elim
      (λ a. ⊎_elim
      (λ b. within_or_not a b)
      (λ b. inr (λ (m, s). let c = (StoredMaps.stored_within S s).1 in omega arith))
      (cases_lt k W.count))
      (λ a. inr (λ (m, s). let c = (StoredMaps.stored_within S s).0 in omega arith))
      (cases_lt i W.count)
