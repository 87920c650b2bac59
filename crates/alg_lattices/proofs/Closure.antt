-- The degrees of the fields with a map into the target are closed under gcd, after the missing ones
-- were added.
use Rattle.std.proofs.Common.{◌≡◌, ◌⊎◌, ℕ, ◌<◌, ◌≤◌, sym, ap, ◌∙◌, inl, inr, ⊎_elim}
use Rattle.std.proofs.lemmas.Bool.{cases_eq}
use Rattle.std.specs.Int.{IsGcd}
use Rattle.alg_rings.proofs.Decisions.{Least, search_below, both_or_not}
use Rattle.alg_lattices.specs.Embeddings.{Embeddings}
use Rattle.alg_lattices.specs.Lattices.{Lattice, IsDecided}
use Rattle.alg_lattices.specs.Filling.{IsSubfield, Insertion, IsMember, IsClosureDegree, IsMissing, IsMapInto}
use Rattle.alg_lattices.specs.Filling.IsMember.{of_source, of_target}
use Rattle.alg_lattices.specs.Filling.IsClosureDegree.{of_member, of_gcd}
use Rattle.alg_lattices.specs.Filling.IsMapInto.{stored, through, made}
use Rattle.alg_lattices.proofs.AddedFields.{Added, added_missing, added_each}
use Rattle.alg_lattices.proofs.ForcedMaps.{Setting}

module _ {Field Map : Type 0} {L : Lattice Field Map} (D : IsDecided L) (E F : ℕ) where
  pub member_or_not : (i : ℕ) → IsMember L E F i ⊎ ¬ IsMember L E F i
  member_or_not i = ⊎_elim
      (λ (m, k). inl (of_source k))
      (λ a. ⊎_elim (λ (m, k). inl (of_target k)) (λ b. inr (neither a b)) (D i F))
      (D i E)
    where
      neither : ((m : Map) × L.Has i E m → ⊥) → ((m : Map) × L.Has i F m → ⊥) → IsMember L E F i → ⊥
      neither a b (of_source {m} k) = a (m, k)
      neither a b (of_target {m} k) = b (m, k)

module _ {Field Map : Type 0} {o : Embeddings Field Map} {primes : ℕ} {W : Insertion Field Map}
    (S : Setting o primes W) where
  open S use {law, compatible as C, insertion as I}

  -- a member has a map into the target
  pub subfield_of_member : {i : ℕ} → IsMember W.old W.source W.target i → IsSubfield o W i
  subfield_of_member (of_source {m} k) = (o.comp (W.row W.target) m W.chosen, through k)
  subfield_of_member (of_target {m} k) = (m, stored k)

  member_within : {i : ℕ} → IsMember W.old W.source W.target i → i < W.old.count
  member_within (of_source k) = (C.within k).0
  member_within (of_target k) = (C.within k).0

  member_row : {i : ℕ} → IsMember W.old W.source W.target i → W.row i ≡ W.old.row i
  member_row {i} h = I.rows i (member_within h)

  of_old : {i : ℕ} → IsMember W.old W.source W.target i
      → IsClosureDegree o W.old W.source W.target (o.degree (W.row i))
  of_old h = rw (member_row h) (of_member h)

  -- the degree of a field with a map into the target is in the closure
  pub closure_degree : {i : ℕ} {m : Map} → IsMapInto o W i m
      → IsClosureDegree o W.old W.source W.target (o.degree (W.row i))
  closure_degree (stored h) = of_old (of_target h)
  closure_degree (through h) = of_old (of_source h)
  closure_degree {i} (made h) = let (a, b) = I.made_within h in (added_missing I i a b).in_closure

  -- a closure degree is the degree of a field with a map into the target
  pub subfield_of_degree : {d : ℕ} → IsClosureDegree o W.old W.source W.target d
      → (i : ℕ) × IsSubfield o W i × (o.degree (W.row i) ≡ d)
  subfield_of_degree {d} c = ⊎_elim
      (λ (l : Least Found W.old.count). (l.number, subfield_of_member l.holds.0, l.holds.1))
      (λ none.
      let a : Added o W d = added_each I (missing none) in
      (a.number, let (m, h) = I.made a.number a.new a.below in (m, made h), a.degree))
      (search_below Found W.old.count (λ i h. both_or_not (member_or_not S.decided W.source W.target i) (cases_eq (o.degree (W.row i)) d)))
    where
      Found : ℕ → Type 0
      Found i = IsMember W.old W.source W.target i × (o.degree (W.row i) ≡ d)

      missing : ((i : ℕ) → i < W.old.count → Found i → ⊥) → IsMissing o W.old W.source W.target d
      missing none = record {
        in_closure = c;
        no_member = λ {i} h e. none i (member_within h) (h, ap o.degree (member_row h) ∙ e);
      }

  -- the closure under gcd
  pub subfield_of_gcd : {i j g : ℕ} → IsSubfield o W i → IsSubfield o W j
      → IsGcd (o.degree (W.row i)) (o.degree (W.row j)) g
      → (l : ℕ) × IsSubfield o W l × (o.degree (W.row l) ≡ g)
  subfield_of_gcd (a, h) (b, k) c = subfield_of_degree (of_gcd (closure_degree h) (closure_degree k) c)

  -- no field of degree one is added
  pub added_degree : (i : ℕ) → W.old.count ≤ i → i < W.count → o.degree (W.row i) ≡ 1 → ⊥
  added_degree i a b e =
      let (q, m, p, h) = C.prime_subfield W.target I.target in
      (added_missing I i a b).no_member (of_target h) (ap o.degree (sym (I.rows q (C.within h).0)) ∙ C.degree_one q p ∙ sym e)
