-- What a program must show to have stored what an insertion adds: that each map it stores is one of
-- those, and that each pair that
-- can be reached has some map.
--     Shows o W P     this, of the program's maps P
use Rattle.std.proofs.Common.{◌↔◌, ℕ, subst}
use Prim.Native.Nat.{◌∣◌}
use Rattle.alg_lattices.specs.Embeddings.{Embeddings}
use Rattle.alg_lattices.specs.Filling.{IsSubfield, Insertion, IsStoredAfter}
use Rattle.alg_lattices.specs.Filling.IsStoredAfter.{before, forced, beyond}
use Rattle.alg_lattices.proofs.ForcedMaps.{Setting}
use Rattle.alg_lattices.proofs.StoredMaps

-- each map of P is stored after the insertion, and each pair that can be reached has a map in P
pub record Shows {Field Map : Type 0} (o : Embeddings Field Map) (W : Insertion Field Map)
    (P : ℕ → ℕ → Map → Type 0) : Type 0 where
  pub only : {i k : ℕ} {m : Map} → P i k m → IsStoredAfter o W i k m
  pub old : {i k : ℕ} {m : Map} → W.old.Has i k m → (n : Map) × P i k n
  pub members : {i j : ℕ} → IsSubfield o W i → IsSubfield o W j
      → o.degree (W.row i) ∣ o.degree (W.row j) → (n : Map) × P i j n
  pub overfields : {i j k : ℕ} {m : Map} → IsSubfield o W i → IsSubfield o W j
      → o.degree (W.row i) ∣ o.degree (W.row j) → W.old.Has j k m
      → (n : Map) × P i k n

module _ {Field Map : Type 0} {o : Embeddings Field Map} {primes : ℕ} {W : Insertion Field Map}
    {P : ℕ → ℕ → Map → Type 0}
    (S : Setting o primes W) (H : Shows o W P) where
  open S use {law}

  some : {i k : ℕ} {m : Map} → IsStoredAfter o W i k m → (n : Map) × P i k n
  some (before h) = H.old h
  some (forced f) = H.members (f.first, f.first_into) (f.second, f.second_into) (law.degree_divides f.embedding)
  some (beyond f h) = H.overfields (f.first, f.first_into) (f.second, f.second_into) (law.degree_divides f.embedding) h

  -- **the program's maps are those that are stored after the insertion**
  pub stores_exactly : {i k : ℕ} {m : Map} → P i k m ↔ IsStoredAfter o W i k m
  stores_exactly {i} {k} {m} = (
    H.only,
    λ h. let (n, p) = some h in subst (λ x. P i k x) (StoredMaps.stored_one S (H.only p) h) p,
  )
