-- Maps into the target of an insertion: a field has at most one, and what is forced by two of them
-- is one map.
--     Setting o primes W       an insertion in a compatible lattice
--     IsSubfield o W i               i has a map into the target
use Rattle.std.proofs.Common.{◌≡◌, ◌⊎◌, ℕ, ◌<◌, refl, sym, ap, ◌∙◌, inl, inr, ⊎_elim, arith}
use Rattle.std.proofs.lemmas.Bool.{cases_lt}
use Prim.Native.Nat.{◌∣◌}
use Rattle.alg_lattices.specs.Embeddings.{Embeddings, EmbeddingLaws}
use Rattle.alg_lattices.specs.Lattices.{Lattice, Compatible, IsDecided}
use Rattle.alg_lattices.specs.Filling.{Insertion, IsInsertion, IsMapInto, IsForced, IsSubfield}
use Rattle.alg_lattices.specs.Filling.IsMapInto.{stored, through, made}

-- the lattice before the insertion, with the fields after it
abbrev pub base : {Field Map : Type 0} → Insertion Field Map → Lattice Field Map
base W = record W.old { row = W.row }

-- an insertion in a compatible lattice, over embeddings that keep the laws
pub record Setting {Field Map : Type 0} (o : Embeddings Field Map) (primes : ℕ)
    (W : Insertion Field Map) : Type 0 where
  pub law : EmbeddingLaws o
  pub compatible : Compatible o primes (base W)
  pub decided : IsDecided W.old
  pub insertion : IsInsertion o W

module _ {Field Map : Type 0} {o : Embeddings Field Map} {primes : ℕ} {W : Insertion Field Map}
    (S : Setting o primes W) where
  open S use {law, compatible as C, insertion as I}

  -- the map chosen is an embedding of the fields after the insertion
  pub chosen_embedding : o.IsEmbedding (W.row W.source) (W.row W.target) W.chosen
  chosen_embedding = rw (I.rows W.source I.source, I.rows W.target I.target) I.candidate.embedding

  chosen_agrees : {d : ℕ} {m n : Map} → W.old.Has d W.source m → W.old.Has d W.target n
      → o.comp (W.row W.target) m W.chosen ≡ n
  chosen_agrees h k = rw (I.rows W.target I.target) (I.candidate.agrees h k)

  old_not_made : {i j : ℕ} {m n : Map} → W.old.Has i j m → W.Made i n → ⊥
  old_not_made h k = let a = (C.within h).0 in let b = (I.made_within k).0 in omega arith

  -- a map into the target is an embedding
  pub into_embedding : {i : ℕ} {m : Map} → IsMapInto o W i m
      → o.IsEmbedding (W.row i) (W.row W.target) m
  into_embedding (stored h) = C.embedding h
  into_embedding (through h) = law.comp (C.embedding h) chosen_embedding
  into_embedding (made h) = I.made_embedding h

  -- a field has at most one map into the target
  pub into_one : {i : ℕ} {m n : Map} → IsMapInto o W i m → IsMapInto o W i n → m ≡ n
  into_one (stored h) (stored k) = C.one h k
  into_one (stored h) (through k) = sym (chosen_agrees k h)
  into_one (stored h) (made k) = absurd (old_not_made h k)
  into_one (through h) (stored k) = chosen_agrees h k
  into_one (through h) (through k) = ap (λ x. o.comp (W.row W.target) x W.chosen) (C.one h k)
  into_one (through h) (made k) = absurd (old_not_made h k)
  into_one (made h) (stored k) = absurd (old_not_made k h)
  into_one (made h) (through k) = absurd (old_not_made k h)
  into_one (made h) (made k) = I.made_one h k

  -- a field with a map into the target is below the count
  pub into_within : {i : ℕ} {m : Map} → IsMapInto o W i m → i < W.count
  into_within (stored h) = let a = (C.within h).0 in let b = I.count in omega arith
  into_within (through h) = let a = (C.within h).0 in let b = I.count in omega arith
  into_within (made h) = (I.made_within h).1

  -- whether a field has a map into the target can be told
  pub subfield_or_not : (i : ℕ) → i < W.count → IsSubfield o W i ⊎ ¬ IsSubfield o W i
  subfield_or_not i w = ⊎_elim below (λ h. let (m, k) = I.made i h w in inl (m, made k)) (cases_lt i W.old.count)
    where
      neither : i < W.old.count → ((m : Map) → W.old.Has i W.target m → ⊥)
          → ((m : Map) → W.old.Has i W.source m → ⊥) → {m : Map} → IsMapInto o W i m → ⊥
      neither h a b (stored {m} k) = a m k
      neither h a b (through {m} k) = b m k
      neither h a b (made k) = let c = (I.made_within k).0 in omega arith

      below : i < W.old.count → IsSubfield o W i ⊎ ¬ IsSubfield o W i
      below h = ⊎_elim
          (λ (m, k). inl (m, stored k))
          (λ a. ⊎_elim (λ (m, k). inl (o.comp (W.row W.target) m W.chosen, through k)) (λ b. inr (λ (m, k). neither h (λ m k. a (m, k)) (λ m k. b (m, k)) k)) (S.decided i W.source))
          (S.decided i W.target)

  -- followed by any map of j into the target, a forced map is i's map into it
  pub forced_square : {i j : ℕ} {m a b : Map} → IsForced o W i j m → IsMapInto o W i a
      → IsMapInto o W j b
      → o.comp (W.row W.target) m b ≡ a
  forced_square {m = m} f h k = ap (λ x. o.comp (W.row W.target) m x) (into_one k f.second_into) ∙ f.followed ∙ into_one f.first_into h

  -- a pair has at most one forced map
  pub forced_one : {i j : ℕ} {m n : Map} → IsForced o W i j m → IsForced o W i j n → m ≡ n
  forced_one f g =
      law.cancel f.embedding g.embedding (into_embedding f.second_into) (f.followed ∙ sym (forced_square g f.first_into f.second_into))

  -- forced maps that follow one another are forced as one
  pub forced_comp : {i j k : ℕ} {m n : Map} → IsForced o W i j m → IsForced o W j k n
      → IsForced o W i k (o.comp (W.row k) m n)
  forced_comp {m = m} f g = record {
    first = f.first;
    second = g.second;
    first_into = f.first_into;
    second_into = g.second_into;
    embedding = law.comp f.embedding g.embedding;
    followed = law.assoc f.embedding g.embedding (into_embedding g.second_into)
        ∙ ap (λ x. o.comp (W.row W.target) m x) (forced_square g f.second_into g.second_into) ∙ f.followed;
  }

  -- identities are forced
  pub forced_identity : {i : ℕ} {m : Map} → IsMapInto o W i m
      → IsForced o W i i (o.identity (W.row i))
  forced_identity {m = m} h = record {
    first = m;
    second = m;
    first_into = h;
    second_into = h;
    embedding = law.identity (law.source (into_embedding h));
    followed = law.identity_comp (into_embedding h);
  }

  -- where the degrees divide there is a forced map
  pub forced_exists : {i j : ℕ} {a b : Map} → IsMapInto o W i a → IsMapInto o W j b
      → o.degree (W.row i) ∣ o.degree (W.row j)
      → (m : Map) × IsForced o W i j m
  forced_exists {a = a} {b = b} h k d =
      let (m, e, f) = law.factor (into_embedding h) (into_embedding k) d in
      (m, record { first = a; second = b; first_into = h; second_into = k; embedding = e; followed = f })

  -- a map stored before into a field that has one into the target is forced
  pub forced_before : {i j : ℕ} {m b : Map} → W.old.Has i j m → IsMapInto o W j b
      → IsForced o W i j m
  forced_before {m = m} h (stored {m = b} k) = record {
    first = o.comp (W.row W.target) m b;
    second = b;
    first_into = stored (C.transitive h k);
    second_into = stored k;
    embedding = C.embedding h;
    followed = refl;
  }
  forced_before {m = m} h (through {m = b} k) = record {
    first = o.comp (W.row W.target) (o.comp (W.row W.source) m b) W.chosen;
    second = o.comp (W.row W.target) b W.chosen;
    first_into = through (C.transitive h k);
    second_into = through k;
    embedding = C.embedding h;
    followed = sym (law.assoc (C.embedding h) (C.embedding k) chosen_embedding);
  }
  forced_before h (made k) = let a = (C.within h).1 in let b = (I.made_within k).0 in absurd (omega arith)
