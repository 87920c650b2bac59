-- After an insertion a compatible lattice is compatible again, and has grown.
use Rattle.std.proofs.Common.{ℕ, refl, sym, subst, ⊎_elim, arith}
use Rattle.std.proofs.lemmas.Nat.Gcd.{IsGcd-swap, dvd_trans}
use Rattle.std.specs.Int.{IsGcd}
use Prim.Native.Nat.{◌∣◌}
use Rattle.alg_lattices.specs.Embeddings.{Embeddings, EmbeddingLaws}
use Rattle.alg_lattices.specs.Lattices.{Compatible, IsDecided, Grows, HasMeet}
use Rattle.alg_lattices.specs.Filling.{IsSubfield, Insertion, IsInsertion, IsStoredAfter, filled}
use Rattle.alg_lattices.specs.Filling.IsStoredAfter.{before, forced}
use Rattle.alg_lattices.proofs.Congruences.{Bezout, bezout}
use Rattle.alg_lattices.proofs.AddedFields.{count_grows}
use Rattle.alg_lattices.proofs.Meets.{CommonSubfield, common_subfield}
use Rattle.alg_lattices.proofs.Rows.{compatible_same}
use Rattle.alg_lattices.proofs.ForcedMaps.{Setting, base}
use Rattle.alg_lattices.proofs.ForcedMaps
use Rattle.alg_lattices.proofs.StoredMaps.{IsBeyond}
use Rattle.alg_lattices.proofs.StoredMaps
use Rattle.alg_lattices.proofs.Closure
use Rattle.alg_lattices.proofs.FilledRules

-- the gcd of i and j, where i divides k, by the gcd of k and j
gcd_below : (i j k l m : ℕ) → i ∣ k → IsGcd k j l → IsGcd i l m → IsGcd i j m
gcd_below i j k l m h a b = (b.0, dvd_trans m b.1 a.1, λ d p q. b.2 d p (a.2 d (dvd_trans d p h) q))

-- a field with stored maps into i and j, of the degree gcd
record Lower {Field Map : Type 0} (o : Embeddings Field Map) (W : Insertion Field Map) (i j : ℕ)
    : Type 0 where
  field : ℕ
  first : Map
  second : Map
  first_stored : IsStoredAfter o W field i first
  second_stored : IsStoredAfter o W field j second
  gcd : IsGcd (o.degree (W.row i)) (o.degree (W.row j)) (o.degree (W.row field))

lower_swap : {Field Map : Type 0} {o : Embeddings Field Map} {W : Insertion Field Map} {i j : ℕ}
    → Lower o W i j → Lower o W j i
lower_swap {o = o} {W = W} {i} {j} l = record {
  field = l.field;
  first = l.second;
  second = l.first;
  first_stored = l.second_stored;
  second_stored = l.first_stored;
  gcd = IsGcd-swap (o.degree (W.row i)) (o.degree (W.row j)) (o.degree (W.row l.field)) l.gcd;
}

module _ {Field Map : Type 0} {o : Embeddings Field Map} {primes : ℕ} {W : Insertion Field Map}
    (S : Setting o primes W) where
  open S use {law, compatible as C, insertion as I}

  lower_subfields : {i j : ℕ} → IsSubfield o W i → IsSubfield o W j → Lower o W i j
  lower_subfields {i} {j} (a, h) (b, k) =
      let g : Bezout (o.degree (W.row i)) (o.degree (W.row j)) = bezout (o.degree (W.row i)) (o.degree (W.row j)) in
      let (l, (c, n), e) = Closure.subfield_of_gcd S (a, h) (b, k) g.is_gcd in
      let is_gcd : IsGcd (o.degree (W.row i)) (o.degree (W.row j)) (o.degree (W.row l)) =
      subst (λ d. IsGcd (o.degree (W.row i)) (o.degree (W.row j)) d) (sym e) g.is_gcd in
      let (u, f) = ForcedMaps.forced_exists S n h is_gcd.0 in
      let (v, q) = ForcedMaps.forced_exists S n k is_gcd.1 in
      record
      { field = l; first = u; second = v; first_stored = forced f; second_stored = forced q; gcd = is_gcd }

  -- where i alone has a map into the target: the gcd is found below the field by which i's map
  -- leaves
  lower_mixed : {i j k : ℕ} {a b : Map} → IsSubfield o W i → IsBeyond o W i k a → W.old.Has j k b
      → Lower o W i j
  lower_mixed {i} {j} {k} {b = b} x f h = record {
    field = l.field;
    first = l.first;
    second = o.comp (W.row j) l.second c.second;
    first_stored = l.first_stored;
    second_stored = FilledRules.transitive_after S l.second_stored (before c.second_stored);
    gcd = gcd_below (o.degree (W.row i)) (o.degree (W.row j)) (o.degree (W.row f.between)) (o.degree (W.row c.field)) (o.degree (W.row l.field))
        (law.degree_divides f.first_forced.embedding) c.gcd l.gcd;
  }
    where
      c : CommonSubfield o (base W) f.between j k f.second b
      c = common_subfield law C f.second_before h

      l : Lower o W i c.field
      l = lower_subfields x (StoredMaps.source_subfield S (f.first_forced.second, f.first_forced.second_into) (before c.first_stored))

  lower_before : {i j k : ℕ} {a b : Map} → W.old.Has i k a → W.old.Has j k b → Lower o W i j
  lower_before {i} {j} {k} {a} {b} h n =
      let c : CommonSubfield o (base W) i j k a b = common_subfield law C h n in
      record {
        field = c.field;
        first = c.first;
        second = c.second;
        first_stored = before c.first_stored;
        second_stored = before c.second_stored;
        gcd = c.gcd;
      }

  lower : {i j k : ℕ} {a b : Map} → IsStoredAfter o W i k a → IsStoredAfter o W j k b
      → Lower o W i j
  lower {i} {j} {k} h n = ⊎_elim
      (λ z. lower_subfields (StoredMaps.source_subfield S z h) (StoredMaps.source_subfield S z n))
      (λ z. ⊎_elim
      (λ x. ⊎_elim (λ y. lower_subfields x y) (λ y. lower_mixed x (StoredMaps.leaving S x z h) (StoredMaps.outside S y n)) (StoredMaps.source_subfield_or_not S n))
      (λ x. ⊎_elim
      (λ y. lower_swap (lower_mixed y (StoredMaps.leaving S y z n) (StoredMaps.outside S x h)))
      (λ y. lower_before (StoredMaps.outside S x h) (StoredMaps.outside S y n))
      (StoredMaps.source_subfield_or_not S n))
      (StoredMaps.source_subfield_or_not S h))
      (StoredMaps.target_subfield_or_not S h)

  meet_after : {i j k : ℕ} {a b : Map} → IsStoredAfter o W i k a → IsStoredAfter o W j k b
      → HasMeet o (filled o W) i j k a b
  meet_after {i} {j} {k} {a} {b} h n =
      let l : Lower o W i j = lower h n in
      let square = StoredMaps.stored_one S (FilledRules.transitive_after S l.first_stored h) (FilledRules.transitive_after S l.second_stored n) in (
        l.field,
        l.first,
        l.second,
        l.first_stored,
        l.second_stored,
        (law.meet (StoredMaps.stored_embedding S l.first_stored) (StoredMaps.stored_embedding S l.second_stored)
            (StoredMaps.stored_embedding S h) (StoredMaps.stored_embedding S n) square).1 l.gcd,
      )

  -- the rules together
  pub compatible_after : Compatible o primes (filled o W)
  compatible_after = record {
    within = λ h. StoredMaps.stored_within S h;
    embedding = λ h. StoredMaps.stored_embedding S h;
    one = λ h k. StoredMaps.stored_one S h k;
    identity = FilledRules.identity_after S;
    prime_fields = let a = C.prime_fields in let b = I.count in omega arith;
    degree_one = C.degree_one;
    only_degree_one = FilledRules.only_degree_one_after S;
    primes_apart = λ {m = m} h k e. C.primes_apart {m = m} h k e;
    prime_subfield = FilledRules.prime_subfield_after S;
    inverse = λ h e. FilledRules.inverse_after S h e;
    transitive = λ h k. FilledRules.transitive_after S h k;
    meet = λ h k. meet_after h k;
  }

module _ {Field Map : Type 0} {o : Embeddings Field Map} {primes : ℕ} {W : Insertion Field Map}
    (law : EmbeddingLaws o) (C : Compatible o primes W.old) (D : IsDecided W.old)
    (I : IsInsertion o W) where
  pub setting : Setting o primes W
  setting = record {
    law = law;
    compatible = compatible_same (record { count = refl; rows = λ i h. sym (I.rows i h); maps = (λ h. h, λ h. h) }) C;
    decided = D;
    insertion = I;
  }

  -- **an insertion keeps a lattice compatible**
  pub filled_compatible : Compatible o primes (filled o W)
  filled_compatible = compatible_after setting

-- the lattice after an insertion has grown
pub filled_grows : {Field Map : Type 0} {o : Embeddings Field Map} {W : Insertion Field Map}
    → IsInsertion o W → Grows W.old (filled o W)
filled_grows I = record { count = count_grows I; rows = I.rows; maps = λ h. before h }
