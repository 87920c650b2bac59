-- A lattice is filled exactly as the rule of filling is told.
use Rattle.std.proofs.Common.{◌≡◌, ◌⊎◌, ◌↔◌, ℕ, ◌≤◌, List, length, sym, ap, ◌∙◌, subst, inl, inr, ⊎_elim, arith}
use Rattle.std.proofs.lemmas.Bool.{cases_lt}
use Prim.Native.Nat.{◌∣◌}
use Rattle.alg_model.specs.Maps.{Field, field_values, degree_of, apply, comp}
use Rattle.alg_model.specs.Lattices.{Lattice, Row, field_at}
use Rattle.alg_model.specs.Candidates.IsMember.{of_source, of_target}
use Rattle.alg_model.specs.Filling.{IsMapInto, IsForced, IsStoredAfter, IsFilled}
use Rattle.alg_lattices.specs.Filling as Theory
use Rattle.alg_lattices.proofs.ForcedMaps.{Setting, into_one, into_embedding, forced_exists}
use Rattle.alg_lattices.proofs.Filling.{setting}
use Rattle.alg_galois.proofs.Embeddings.{embedding_injective}
use Rattle.alg_compatible.specs.Rules as Rules
use Rattle.alg_compatible.specs.Rules.{IsSubfield, IsStoredByRules}
use Rattle.alg_compatible.proofs.FiniteFields.{Embedded, finite_fields, embedding_laws}
use Rattle.alg_compatible.proofs.Transfer.{lattice_decided, to_theory}
use Rattle.alg_compatible.proofs.Insertions.{insertion_of, to_into, from_into, from_forced}
use Rattle.alg_compatible.proofs.Filling.{Inserted, is_insertion}
use Rattle.alg_compatible.proofs.Rules.{stored_by_rules}
use Rattle.lat_insert.specs.Wording.{IsStoredPair, IsMemberAfter, IsMemberPair, IsWay, IsPairOut, IsRuledPair, IsMap, IsMapOfMember, Agrees, IsOnlyMap, IsStoredAsWorded, IsFilledAsWorded}
use Rattle.lat_insert.specs.Wording.IsMemberAfter.{before, added}
use Rattle.lat_insert.specs.Wording.IsMapOfMember.{stored, through, by_root}
use Rattle.lat_insert.specs.Wording.IsStoredAsWorded.{among, out, as_before}
use Rattle.lat_insert.proofs.MappedLists.{valid_lists_equal}

-- **a map after which an embedding follows is determined, whatever it keeps**
pub followed_determined : {I J K : Field} {k : List (List ℕ)} → Embedded J K k
    → {m n : List (List ℕ)} → IsMap I J m → IsMap I J n → comp K m k ≡ comp K n k → m ≡ n
followed_determined {J = J} {K} {k} D {m} {n} a b e = valid_lists_equal (apply K k) (field_values J).Valid
    (embedding_injective J K D.source D.target k D.embedding) m n a.images b.images e

module _ {L : Lattice} {E F : ℕ} {phi : List (List ℕ)} {rows : List Row}
    (H : Inserted L E F phi rows) where
  theory : Setting finite_fields (length L.edition.primes) (insertion_of L E F phi rows)
  theory = setting embedding_laws (to_theory L H.before H.compatible) (lattice_decided L) (is_insertion H)

  -- ---- the map of a member into F
  into_f : {i : ℕ} {m : List (List ℕ)} → IsMapOfMember L E F phi rows i m
      → IsMapInto L E F phi rows i m
  into_f (stored h) = IsMapInto.stored h
  into_f (through none h) = IsMapInto.through h
  into_f (by_root a b r) = IsMapInto.made a b r

  of_member : {i : ℕ} {m : List (List ℕ)} → IsMapInto L E F phi rows i m
      → IsMapOfMember L E F phi rows i m
  of_member (IsMapInto.stored h) = stored h
  of_member {i} (IsMapInto.through {m} h) = ⊎_elim
      (λ (n, s). subst (IsMapOfMember L E F phi rows i) (into_one theory (to_into (IsMapInto.stored s)) (to_into (IsMapInto.through h))) (stored s))
      (λ none. through none h)
      (lattice_decided L i F)
  of_member (IsMapInto.made a b r) = by_root a b r

  -- a member has one, and only members have
  to_subfield : {i : ℕ} → IsMemberAfter L E F rows i → IsSubfield L E F phi rows i
  to_subfield (before (of_source {m} h)) = (comp (field_at rows F) m phi, IsMapInto.through h)
  to_subfield (before (of_target {m} h)) = (m, IsMapInto.stored h)
  to_subfield {i} (added a b) = let (m, h) = (is_insertion H).made i a b in (m, from_into (Theory.IsMapInto.made h))

  has_map : {i : ℕ} {m : List (List ℕ)} → IsMapInto L E F phi rows i m → IsMemberAfter L E F rows i
  has_map (IsMapInto.stored h) = before (of_target h)
  has_map (IsMapInto.through h) = before (of_source h)
  has_map (IsMapInto.made a b r) = added a b

  from_subfield : {i : ℕ} → IsSubfield L E F phi rows i → IsMemberAfter L E F rows i
  from_subfield (m, h) = has_map h

  -- ---- the one map of a pair
  -- a forced map is the only map that agrees
  to_only : {i j : ℕ} {m : List (List ℕ)} → IsForced L E F phi rows i j m
      → IsOnlyMap L E F phi rows i j m
  to_only {i} {j} {m} f = record {
    is_map = is_map;
    agrees = record {
      first = f.first;
      second = f.second;
      first_into = of_member f.first_into;
      second_into = of_member f.second_into;
      followed = f.followed;
    };
    only = λ n x a. followed_determined (into_embedding theory (to_into f.second_into)) x is_map (same a ∙ sym f.followed);
  }
    where
      is_map : IsMap (field_at rows i) (field_at rows j) m
      is_map = record { count = f.embedding.count; images = f.embedding.images }

      same : {n : List (List ℕ)} (a : Agrees L E F phi rows i j n)
          → comp (field_at rows F) n f.second ≡ f.first
      same {n} a =
          ap (λ x. comp (field_at rows F) n x) (into_one theory (to_into f.second_into) (to_into (into_f a.second_into)))
          ∙ a.followed ∙ into_one theory (to_into (into_f a.first_into)) (to_into f.first_into)

  -- where the degrees divide, two members have a forced map
  forced_of_members : {i j : ℕ} → IsMemberAfter L E F rows i → IsMemberAfter L E F rows j
      → degree_of (field_at rows i) ∣ degree_of (field_at rows j)
      → (m : List (List ℕ)) × IsForced L E F phi rows i j m
  forced_of_members x y d =
      let (a, h) = to_subfield x in
      let (b, k) = to_subfield y in
      let (m, f) = forced_exists theory (to_into h) (to_into k) d in
      (m, from_forced f)

  -- so the only map that agrees is forced
  from_only : {i j : ℕ} {m : List (List ℕ)} → IsMemberAfter L E F rows i → IsMemberAfter L E F rows j
      → degree_of (field_at rows i) ∣ degree_of (field_at rows j)
      → IsOnlyMap L E F phi rows i j m → IsForced L E F phi rows i j m
  from_only {i} {j} x y d o =
      let (n, f) = forced_of_members x y d in
      subst (IsForced L E F phi rows i j) (o.only n (to_only f).is_map (to_only f).agrees) f

  -- ---- pairs
  to_way : {i k j : ℕ} → IsWay L E F rows i k j → Rules.IsWay L E F phi rows i k j
  to_way w = record { subfield = to_subfield w.member; divides = w.divides; is_stored = w.is_stored }

  from_way : {i k j : ℕ} → Rules.IsWay L E F phi rows i k j → IsWay L E F rows i k j
  from_way w = record { member = from_subfield w.subfield; is_stored = w.is_stored; divides = w.divides }

  to_pair : {i k : ℕ} → IsMemberPair L E F rows i k → Rules.IsForcedPair L E F phi rows i k
  to_pair p = record { source = to_subfield p.source; target = to_subfield p.target; divides = p.divides }

  from_pair : {i k : ℕ} → Rules.IsForcedPair L E F phi rows i k → IsMemberPair L E F rows i k
  from_pair p = record { source = from_subfield p.source; target = from_subfield p.target; divides = p.divides }

  to_beyond : {i k : ℕ} → IsPairOut L E F rows i k → Rules.IsPairBeyond L E F phi rows i k
  to_beyond p = record { source = to_subfield p.source; target = λ s. p.target (from_subfield s); way = (p.way.0, to_way p.way.1) }

  from_beyond : {i k : ℕ} → Rules.IsPairBeyond L E F phi rows i k → IsPairOut L E F rows i k
  from_beyond p = record { source = from_subfield p.source; target = λ s. p.target (to_subfield s); way = (p.way.0, from_way p.way.1) }

  not_ruled : {i k : ℕ} → ¬ Rules.IsForcedPair L E F phi rows i k
      → ¬ Rules.IsPairBeyond L E F phi rows i k → IsRuledPair L E F rows i k → ⊥
  not_ruled p q (IsRuledPair.among x) = p (to_pair x)
  not_ruled p q (IsRuledPair.out x) = q (to_beyond x)

  -- ---- stored maps
  to_worded : {i k : ℕ} {m : List (List ℕ)} → IsStoredByRules L E F phi rows i k m
      → IsStoredAsWorded L E F phi rows i k m
  to_worded (IsStoredByRules.members p f) = among (from_pair p) (to_only f)
  to_worded {i} {k} (IsStoredByRules.overfield {j} p w first f h) =
      out (from_beyond p) (record { way = from_way w; least = least }) (to_only f) h
    where
      least : (l : ℕ) → IsWay L E F rows i k l → j ≤ l
      least l x = ⊎_elim (λ below. absurd (first l below (to_way x))) (λ above. above) (cases_lt l j)
  to_worded (IsStoredByRules.as_before p q h) = as_before (λ x. not_ruled p q x) h

  from_worded : {i k : ℕ} {m : List (List ℕ)} → IsStoredAsWorded L E F phi rows i k m
      → IsStoredByRules L E F phi rows i k m
  from_worded (among p o) = IsStoredByRules.members (to_pair p) (from_only p.source p.target p.divides o)
  from_worded (out p w o h) =
      IsStoredByRules.overfield (to_beyond p) (to_way w.way)
      (λ l below x. let above = w.least l (from_way x) in omega (arith, below, above))
      (from_only p.source w.way.member w.way.divides o) h
  from_worded (as_before n h) =
      IsStoredByRules.as_before (λ p. n (IsRuledPair.among (from_pair p))) (λ p. n (IsRuledPair.out (from_beyond p))) h

  -- **what is stored after an insertion is what the rule names**
  pub stored_as_worded : {i k : ℕ} {m : List (List ℕ)}
      → IsStoredAfter L E F phi rows i k m ↔ IsStoredAsWorded L E F phi rows i k m
  stored_as_worded =
      (λ h. to_worded ((stored_by_rules H).0 h), λ h. (stored_by_rules H).1 (from_worded h))

  -- **a pair for which the rule asks has a map**
  pub ruled_stored : {i k : ℕ} → IsRuledPair L E F rows i k
      → (m : List (List ℕ)) × IsStoredAfter L E F phi rows i k m
  ruled_stored (IsRuledPair.among p) =
      let (m, f) = forced_of_members p.source p.target p.divides in
      (m, IsStoredAfter.forced f)
  ruled_stored {k = k} (IsRuledPair.out p) =
      let (j, w) = p.way in
      let (n, h) = w.is_stored in
      let (m, f) = forced_of_members p.source w.member w.divides in
      (comp (field_at rows k) m n, IsStoredAfter.beyond f h)

module _ {L : Lattice} {E F : ℕ} {phi : List (List ℕ)} {M : Lattice}
    (H : Inserted L E F phi M.rows) where
  -- **a lattice is filled exactly if it is as the rule is told**
  pub filled_as_worded : IsFilled L E F phi M ↔ IsFilledAsWorded L E F phi M
  filled_as_worded = (
    λ D. record {
      edition = D.edition;
      rows = D.rows;
      maps = λ i k m. (λ s. (stored_as_worded H).0 (D.maps.0 s), λ h. D.maps.1 ((stored_as_worded H).1 h));
    },
    λ D. record {
      edition = D.edition;
      rows = D.rows;
      maps = λ {i} {k} {m}. (λ s. (stored_as_worded H).1 ((D.maps i k m).0 s), λ h. (D.maps i k m).1 ((stored_as_worded H).0 h));
    },
  )

  -- **the pairs with a map are those that had one and those for which the rule asks**
  pub pairs_after : IsFilled L E F phi M → (i k : ℕ)
      → IsStoredPair M i k ↔ (IsStoredPair L i k ⊎ IsRuledPair L E F M.rows i k)
  pairs_after D i k = (λ (m, s). asked ((stored_as_worded H).0 (D.maps.0 s)), λ h. ⊎_elim kept ruled h)
    where
      asked : {m : List (List ℕ)} → IsStoredAsWorded L E F phi M.rows i k m
          → IsStoredPair L i k ⊎ IsRuledPair L E F M.rows i k
      asked (among p o) = inr (IsRuledPair.among p)
      asked (out p w o h) = inr (IsRuledPair.out p)
      asked (as_before {m} n h) = inl (m, h)

      kept : IsStoredPair L i k → IsStoredPair M i k
      kept (m, h) = (m, D.maps.1 (IsStoredAfter.before h))

      ruled : IsRuledPair L E F M.rows i k → IsStoredPair M i k
      ruled x = let (m, h) = ruled_stored H x in (m, D.maps.1 h)
