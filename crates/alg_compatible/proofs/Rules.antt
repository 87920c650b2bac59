-- What is stored after an insertion in a lattice of finite fields is what is stored by the rules.
use Rattle.std.proofs.Common.{◌↔◌, ℕ, List}
use Rattle.alg_model.specs.Lattices.{Lattice, Row}
use Rattle.alg_model.specs.Filling.{IsStoredAfter}
use Rattle.alg_lattices.specs.Filling as TheoryFilling
use Rattle.alg_lattices.specs.Rules as Theory
use Rattle.alg_lattices.proofs.Rules as TheoryRules
use Rattle.alg_lattices.proofs.Filling.{setting}
use Rattle.alg_compatible.specs.Rules.{IsSubfield, IsWay, IsForcedPair, IsPairBeyond, IsStoredByRules}
use Rattle.alg_compatible.specs.Rules.IsStoredByRules.{members, overfield, as_before}
use Rattle.alg_compatible.proofs.FiniteFields.{finite_fields, embedding_laws}
use Rattle.alg_compatible.proofs.Transfer.{lattice_decided, to_theory}
use Rattle.alg_compatible.proofs.Insertions.{insertion_of, to_into, from_into, to_forced, from_forced, to_stored, from_stored}
use Rattle.alg_compatible.proofs.Filling.{Inserted, is_insertion, fields}

module _ {L : Lattice} {E F : ℕ} {phi : List (List ℕ)} {rows : List Row} where
  to_subfield : {i : ℕ} → IsSubfield L E F phi rows i
      → TheoryFilling.IsSubfield finite_fields (insertion_of L E F phi rows) i
  to_subfield (m, h) = (m, to_into h)

  from_subfield : {i : ℕ} → TheoryFilling.IsSubfield finite_fields (insertion_of L E F phi rows) i
      → IsSubfield L E F phi rows i
  from_subfield (m, h) = (m, from_into h)

  to_way : {i k j : ℕ} → IsWay L E F phi rows i k j
      → Theory.IsWay finite_fields (insertion_of L E F phi rows) i k j
  to_way w = record { subfield = to_subfield w.subfield; divides = w.divides; is_stored = w.is_stored }

  from_way : {i k j : ℕ} → Theory.IsWay finite_fields (insertion_of L E F phi rows) i k j
      → IsWay L E F phi rows i k j
  from_way w = record { subfield = from_subfield w.subfield; divides = w.divides; is_stored = w.is_stored }

  to_pair : {i k : ℕ} → IsForcedPair L E F phi rows i k
      → Theory.IsForcedPair finite_fields (insertion_of L E F phi rows) i k
  to_pair p = (to_subfield p.source, to_subfield p.target, p.divides)

  from_pair : {i k : ℕ} → Theory.IsForcedPair finite_fields (insertion_of L E F phi rows) i k
      → IsForcedPair L E F phi rows i k
  from_pair (a, b, d) = record { source = from_subfield a; target = from_subfield b; divides = d }

  to_beyond : {i k : ℕ} → IsPairBeyond L E F phi rows i k
      → Theory.IsPairBeyond finite_fields (insertion_of L E F phi rows) i k
  to_beyond p = (to_subfield p.source, λ s. p.target (from_subfield s), (p.way.0, to_way p.way.1))

  from_beyond : {i k : ℕ} → Theory.IsPairBeyond finite_fields (insertion_of L E F phi rows) i k
      → IsPairBeyond L E F phi rows i k
  from_beyond (a, b, w) = record { source = from_subfield a; target = λ s. b (to_subfield s); way = (w.0, from_way w.1) }

  from_rules : {i k : ℕ} {m : List (List ℕ)}
      → Theory.IsStoredByRules finite_fields (insertion_of L E F phi rows) i k m
      → IsStoredByRules L E F phi rows i k m
  from_rules (Theory.IsStoredByRules.members p f) = members (from_pair p) (from_forced f)
  from_rules (Theory.IsStoredByRules.overfield p w l f h) =
      overfield (from_beyond p) (from_way w) (λ n b v. l n b (to_way v)) (from_forced f) h
  from_rules (Theory.IsStoredByRules.as_before p q h) = as_before (λ x. p (to_pair x)) (λ x. q (to_beyond x)) h

module _ {L : Lattice} {E F : ℕ} {phi : List (List ℕ)} {rows : List Row}
    (H : Inserted L E F phi rows) where
  to_rules : {i k : ℕ} {m : List (List ℕ)} → IsStoredByRules L E F phi rows i k m
      → Theory.IsStoredByRules finite_fields (insertion_of L E F phi rows) i k m
  to_rules (members p f) = Theory.IsStoredByRules.members (to_pair p) (to_forced (fields H) f)
  to_rules (overfield p w l f h) =
      Theory.IsStoredByRules.overfield (to_beyond p) (to_way w) (λ n b v. l n b (from_way v)) (to_forced (fields H) f) h
  to_rules (as_before p q h) = Theory.IsStoredByRules.as_before (λ x. p (from_pair x)) (λ x. q (from_beyond x)) h

  -- **what is stored after an insertion is what is stored by the rules**
  pub stored_by_rules : {i k : ℕ} {m : List (List ℕ)}
      → IsStoredAfter L E F phi rows i k m ↔ IsStoredByRules L E F phi rows i k m
  stored_by_rules = (λ h. from_rules (rules.0 (to_stored (fields H) h)), λ h. from_stored (rules.1 (to_rules h)))
    where
      rules : {i k : ℕ} {m : List (List ℕ)}
          → TheoryFilling.IsStoredAfter finite_fields (insertion_of L E F phi rows) i k m
          ↔ Theory.IsStoredByRules finite_fields (insertion_of L E F phi rows) i k m
      rules = TheoryRules.stored_by_rules (setting embedding_laws (to_theory L H.before H.compatible) (lattice_decided L) (is_insertion H))
