-- What is stored after an insertion is what is stored by the rules.
use Rattle.std.proofs.Common.{◌≡◌, ◌↔◌, ◌⊎◌, ℕ, ◌<◌, subst, inl, inr, ⊎_elim, arith}
use Rattle.alg_rings.proofs.Decisions.{Least, search_below, divides_or_not, both_or_not}
use Rattle.alg_lattices.specs.Embeddings.{Embeddings}
use Rattle.alg_lattices.specs.Filling.{Insertion, IsSubfield, IsStoredAfter}
use Rattle.alg_lattices.specs.Filling.IsStoredAfter.{before, forced, beyond}
use Rattle.alg_lattices.specs.Rules.{IsWay, IsStoredByRules}
use Rattle.alg_lattices.specs.Rules.IsStoredByRules.{members, overfield, as_before}
use Rattle.alg_lattices.proofs.ForcedMaps.{Setting}
use Rattle.alg_lattices.proofs.ForcedMaps
use Rattle.alg_lattices.proofs.StoredMaps.{IsBeyond}
use Rattle.alg_lattices.proofs.StoredMaps

module _ {Field Map : Type 0} {o : Embeddings Field Map} {primes : ℕ} {W : Insertion Field Map}
    (S : Setting o primes W) where
  open S use {law, compatible as C, insertion as I}

  -- whether j is a way can be told
  pub way_or_not : (i k j : ℕ) → j < W.count → IsWay o W i k j ⊎ ¬ IsWay o W i k j
  way_or_not i k j h = ⊎_elim
      (λ ((a, b), c). inl (record { subfield = a; divides = b; is_stored = c }))
      (λ n. inr (λ (w : IsWay o W i k j). n ((w.subfield, w.divides), w.is_stored)))
      (both_or_not (both_or_not (ForcedMaps.subfield_or_not S j h) (divides_or_not (o.degree (W.row i)) (o.degree (W.row j)))) (S.decided j k))

  -- a way is a field's number
  pub way_below : {i k j : ℕ} → IsWay o W i k j → j < W.count
  way_below w = let a = (C.within w.is_stored.1).0 in let b = I.count in omega arith

  -- a map out of these fields shows a way
  pub way_of : {i k : ℕ} {m : Map} → IsBeyond o W i k m → (j : ℕ) × IsWay o W i k j
  way_of f = (
    f.between,
    record {
      subfield = (f.first_forced.second, f.first_forced.second_into);
      divides = law.degree_divides f.first_forced.embedding;
      is_stored = (f.second, f.second_before);
    },
  )

  -- out of the fields with a map into the target, by the least way
  by_least : {i k : ℕ} {m : Map} → IsSubfield o W i → ¬ IsSubfield o W k → IsBeyond o W i k m
      → IsStoredByRules o W i k m
  by_least {i} {k} {m} x z f = ⊎_elim least (λ none. absurd (none (way_of f).0 (way_below (way_of f).1) (way_of f).1)) (search_below (IsWay o W i k) W.count (way_or_not i k))
    where
      least : Least (IsWay o W i k) W.count → IsStoredByRules o W i k m
      least l =
          let (n, h) = l.holds.is_stored in
          let (u, g) = ForcedMaps.forced_exists S x.1 l.holds.subfield.1 l.holds.divides in
          let e : o.comp (W.row k) u n ≡ m = StoredMaps.stored_one S (beyond g h) (rw (← f.composed) (beyond f.first_forced f.second_before)) in
          subst (λ x. IsStoredByRules o W i k x) e (overfield (x, z, way_of f) l.holds l.least g h)

  -- what is stored after an insertion is stored by the rules
  pub to_rules : {i k : ℕ} {m : Map} → IsStoredAfter o W i k m → IsStoredByRules o W i k m
  to_rules h = ⊎_elim
      (λ z. let f = StoredMaps.among S z h in members ((f.first, f.first_into), z, law.degree_divides f.embedding) f)
      (λ z. ⊎_elim
      (λ x. by_least x z (StoredMaps.leaving S x z h))
      (λ x. as_before (λ p. x p.0) (λ p. x p.0) (StoredMaps.outside S x h))
      (StoredMaps.source_subfield_or_not S h))
      (StoredMaps.target_subfield_or_not S h)

  from_rules : {i k : ℕ} {m : Map} → IsStoredByRules o W i k m → IsStoredAfter o W i k m
  from_rules (members p f) = forced f
  from_rules (overfield p w l f h) = beyond f h
  from_rules (as_before p q h) = before h

  -- **what is stored after an insertion is what is stored by the rules**
  pub stored_by_rules : {i k : ℕ} {m : Map} → IsStoredAfter o W i k m ↔ IsStoredByRules o W i k m
  stored_by_rules = (to_rules, from_rules)
