-- The maps that are stored after an insertion: each is forced, or leaves the fields with a map into
-- the target, or was stored
-- before outside them. A pair has at most one.
--     IsBeyond o W i k m       m is a forced map followed by one that was stored before
use Rattle.std.proofs.Common.{◌≡◌, ◌⊎◌, ℕ, ◌<◌, refl, sym, ap, ◌∙◌, ⊎_elim, arith}
use Rattle.alg_lattices.specs.Embeddings.{Embeddings}
use Rattle.alg_lattices.specs.Filling.{IsSubfield, Insertion, IsMapInto, IsForced, IsStoredAfter}
use Rattle.alg_lattices.specs.Filling.IsMapInto.{stored}
use Rattle.alg_lattices.specs.Filling.IsStoredAfter.{before, forced, beyond}
use Rattle.alg_lattices.proofs.ForcedMaps.{Setting, base}
use Rattle.alg_lattices.proofs.ForcedMaps
use Rattle.alg_lattices.proofs.Meets.{CommonSubfield, common_subfield}

-- a way out of the fields with a map into the target
pub record IsBeyond {Field Map : Type 0} (o : Embeddings Field Map) (W : Insertion Field Map)
    (i k : ℕ) (m : Map) : Type 0 where
  pub between : ℕ
  pub first : Map
  pub second : Map
  pub first_forced : IsForced o W i between first
  pub second_before : W.old.Has between k second
  pub composed : o.comp (W.row k) first second ≡ m

module _ {Field Map : Type 0} {o : Embeddings Field Map} {primes : ℕ} {W : Insertion Field Map}
    (S : Setting o primes W) where
  open S use {law, compatible as C, insertion as I}

  -- a stored map into a field with a map into the target is forced
  pub among : {i k : ℕ} {m : Map} → IsSubfield o W k → IsStoredAfter o W i k m → IsForced o W i k m
  among (b, c) (before h) = ForcedMaps.forced_before S h c
  among (b, c) (forced f) = f
  among (b, c) (beyond f h) = ForcedMaps.forced_comp S f (ForcedMaps.forced_before S h c)

  -- a stored map out of these fields is a forced one followed by one stored before
  pub leaving : {i k : ℕ} {m : Map} → IsSubfield o W i → ¬ IsSubfield o W k
      → IsStoredAfter o W i k m → IsBeyond o W i k m
  leaving {i} {m = m} (a, c) n (before h) = record {
    between = i;
    first = o.identity (W.row i);
    second = m;
    first_forced = ForcedMaps.forced_identity S c;
    second_before = h;
    composed = law.identity_comp (C.embedding h);
  }
  leaving a n (forced f) = absurd (n (f.second, f.second_into))
  leaving a n (beyond {j} {m} {n = n2} f h) = record {
    between = j;
    first = m;
    second = n2;
    first_forced = f;
    second_before = h;
    composed = refl;
  }

  -- all others were stored before
  pub outside : {i k : ℕ} {m : Map} → ¬ IsSubfield o W i → IsStoredAfter o W i k m → W.old.Has i k m
  outside n (before h) = h
  outside n (forced f) = absurd (n (f.first, f.first_into))
  outside n (beyond f h) = absurd (n (f.first, f.first_into))

  -- a stored map into a field with a map into the target comes from such a field
  pub source_subfield : {i k : ℕ} {m : Map} → IsSubfield o W k → IsStoredAfter o W i k m
      → IsSubfield o W i
  source_subfield a h = let f = among a h in (f.first, f.first_into)

  -- **a way out does not depend on the field where it leaves**
  pub beyond_one : {i k : ℕ} {m n : Map} → IsBeyond o W i k m → IsBeyond o W i k n → m ≡ n
  beyond_one {i} {k} f g = sym f.composed ∙ same ∙ g.composed
    where
      K : Field
      K = W.row k

      c : CommonSubfield o (base W) f.between g.between k f.second g.second
      c = common_subfield law C f.second_before g.second_before

      first : IsForced o W c.field f.between c.first
      first = ForcedMaps.forced_before S c.first_stored f.first_forced.second_into

      second : IsForced o W c.field g.between c.second
      second = ForcedMaps.forced_before S c.second_stored g.first_forced.second_into

      down : (w : Map) × IsForced o W i c.field w
      down = ForcedMaps.forced_exists S f.first_forced.first_into first.first_into
          (c.gcd.2 (o.degree (W.row i)) (law.degree_divides f.first_forced.embedding) (law.degree_divides g.first_forced.embedding))

      same : o.comp K f.first f.second ≡ o.comp K g.first g.second
      same =
          ap (λ x. o.comp K x f.second) (ForcedMaps.forced_one S f.first_forced (ForcedMaps.forced_comp S down.1 first))
          ∙ law.assoc down.1.embedding first.embedding (C.embedding f.second_before)
          ∙ ap (λ x. o.comp K down.0 x) c.square
          ∙ sym (law.assoc down.1.embedding second.embedding (C.embedding g.second_before))
          ∙ ap (λ x. o.comp K x g.second) (ForcedMaps.forced_one S (ForcedMaps.forced_comp S down.1 second) g.first_forced)

  -- stored maps are between numbers below the count
  pub stored_within : {i k : ℕ} {m : Map} → IsStoredAfter o W i k m → (i < W.count) × (k < W.count)
  stored_within (before h) = let a = (C.within h).0 in let b = (C.within h).1 in let c = I.count in (omega arith, omega arith)
  stored_within (forced f) = (ForcedMaps.into_within S f.first_into, ForcedMaps.into_within S f.second_into)
  stored_within (beyond f h) = let b = (C.within h).1 in let c = I.count in (ForcedMaps.into_within S f.first_into, omega arith)

  -- stored maps are embeddings
  pub stored_embedding : {i k : ℕ} {m : Map} → IsStoredAfter o W i k m
      → o.IsEmbedding (W.row i) (W.row k) m
  stored_embedding (before h) = C.embedding h
  stored_embedding (forced f) = f.embedding
  stored_embedding (beyond f h) = law.comp f.embedding (C.embedding h)

  -- whether the source has a map into the target can be told
  pub source_subfield_or_not : {i k : ℕ} {m : Map} → IsStoredAfter o W i k m
      → IsSubfield o W i ⊎ ¬ IsSubfield o W i
  source_subfield_or_not {i} h = ForcedMaps.subfield_or_not S i (stored_within h).0

  -- and whether the target has one
  pub target_subfield_or_not : {i k : ℕ} {m : Map} → IsStoredAfter o W i k m
      → IsSubfield o W k ⊎ ¬ IsSubfield o W k
  target_subfield_or_not {k = k} h = ForcedMaps.subfield_or_not S k (stored_within h).1

  -- a pair has at most one map
  pub stored_one : {i k : ℕ} {m n : Map} → IsStoredAfter o W i k m → IsStoredAfter o W i k n → m ≡ n
  stored_one h n = ⊎_elim
      (λ b. ForcedMaps.forced_one S (among b h) (among b n))
      (λ b. ⊎_elim (λ a. beyond_one (leaving a b h) (leaving a b n)) (λ a. C.one (outside a h) (outside a n)) (source_subfield_or_not h))
      (target_subfield_or_not h)

  -- each map into the target is stored
  pub into_stored : {i : ℕ} {m : Map} → IsMapInto o W i m → IsStoredAfter o W i W.target m
  into_stored {i} {m} h = forced (record {
    first = m;
    second = o.identity (W.row W.target);
    first_into = h;
    second_into = stored (C.identity W.target I.target);
    embedding = ForcedMaps.into_embedding S h;
    followed = law.comp_identity (ForcedMaps.into_embedding S h);
  })
