-- An insertion in a lattice of finite fields is one of the theory.
use Rattle.std.proofs.Common.{◌≡◌, ℕ, ◌<◌, ◌≤◌, List, length, refl, sym, subst, arith}
use Rattle.alg_model.specs.Maps.{Field, IsFiniteField, constants}
use Rattle.alg_model.specs.Roots.{IsLeastRoot}
use Rattle.alg_model.specs.Lattices.{Lattice, Compatible, field_at, Row}
use Rattle.alg_model.specs.Candidates.{map_sending, IsMember, IsClosureDegree, IsMissing, AreMissing}
use Rattle.alg_model.specs.Candidates.IsMember.{of_source, of_target}
use Rattle.alg_model.specs.Candidates.IsClosureDegree.{of_member, of_gcd}
use Rattle.alg_model.specs.Filling.{IsMapInto, IsForced, IsStoredAfter}
use Rattle.alg_model.specs.Filling.IsMapInto.{stored, through, made}
use Rattle.alg_model.specs.Filling.IsStoredAfter.{before, forced, beyond}
use Rattle.alg_lattices.specs.Filling as Theory
use Rattle.alg_compatible.proofs.FiniteFields.{finite_fields}
use Rattle.alg_compatible.proofs.Transfer.{lattice_of}

-- the map of an added field into F by the least root of its polynomial
pub record MadeMap (L : Lattice) (F : ℕ) (rows : List Row) (i : ℕ) (m : List (List ℕ)) : Type 0
  where
    pub new : length L.rows ≤ i
    pub below : i < length rows
    pub root : List ℕ
    pub least : IsLeastRoot (field_at rows F)
        (constants (field_at rows F) (field_at rows i).polynomial) root
    pub is_map : m ≡ map_sending (field_at rows i) (field_at rows F) root

-- an insertion, in the theory
abbrev pub insertion_of : Lattice → ℕ → ℕ → List (List ℕ) → List Row
    → Theory.Insertion Field (List (List ℕ))
insertion_of L E F phi rows = record {
  old = lattice_of L;
  source = E;
  target = F;
  chosen = phi;
  count = length rows;
  row = field_at rows;
  Made = MadeMap L F rows;
}

-- members and missing degrees
module _ {L : Lattice} {E F : ℕ} where
  -- members are members, and missing degrees are missing degrees
  pub to_member : {i : ℕ} → IsMember L E F i → Theory.IsMember (lattice_of L) E F i
  to_member (of_source h) = Theory.IsMember.of_source h
  to_member (of_target h) = Theory.IsMember.of_target h

  pub from_member : {i : ℕ} → Theory.IsMember (lattice_of L) E F i → IsMember L E F i
  from_member (Theory.IsMember.of_source h) = of_source h
  from_member (Theory.IsMember.of_target h) = of_target h

  pub to_closure : {d : ℕ} → IsClosureDegree L E F d
      → Theory.IsClosureDegree finite_fields (lattice_of L) E F d
  to_closure (of_member m) = Theory.IsClosureDegree.of_member (to_member m)
  to_closure (of_gcd p q g) = Theory.IsClosureDegree.of_gcd (to_closure p) (to_closure q) g

  pub from_closure : {d : ℕ} → Theory.IsClosureDegree finite_fields (lattice_of L) E F d
      → IsClosureDegree L E F d
  from_closure (Theory.IsClosureDegree.of_member m) = of_member (from_member m)
  from_closure (Theory.IsClosureDegree.of_gcd p q g) = of_gcd (from_closure p) (from_closure q) g

  pub to_missing : {d : ℕ} → IsMissing L E F d → Theory.IsMissing finite_fields (lattice_of L) E F d
  to_missing m = record { in_closure = to_closure m.in_closure; no_member = λ h e. m.no_member (from_member h) e }

  pub from_missing : {d : ℕ} → Theory.IsMissing finite_fields (lattice_of L) E F d
      → IsMissing L E F d
  from_missing m = record { in_closure = from_closure m.in_closure; no_member = λ h e. m.no_member (to_member h) e }

  pub to_list : {ds : List ℕ} → AreMissing L E F ds
      → Theory.AreMissing finite_fields (lattice_of L) E F ds
  to_list a = record { rising = a.rising; exactly = λ d. (λ c. to_missing ((a.exactly d).0 c), λ m. (a.exactly d).1 (from_missing m)) }

  pub from_list : {ds : List ℕ} → Theory.AreMissing finite_fields (lattice_of L) E F ds
      → AreMissing L E F ds
  from_list a = record { rising = a.rising; exactly = λ d. (λ c. from_missing ((a.exactly d).0 c), λ m. (a.exactly d).1 (to_missing m)) }

-- maps into F, forced maps, stored maps: for numbers, fields and maps of one insertion
module _ {L : Lattice} {E F : ℕ} {phi : List (List ℕ)} {rows : List Row} where
  -- maps into F, forced maps and stored maps are those of the theory
  pub to_into : {i : ℕ} {m : List (List ℕ)} → IsMapInto L E F phi rows i m
      → Theory.IsMapInto finite_fields (insertion_of L E F phi rows) i m
  to_into (stored h) = Theory.IsMapInto.stored h
  to_into (through h) = Theory.IsMapInto.through h
  to_into (made {v} n b r) = Theory.IsMapInto.made (record { new = n; below = b; root = v; least = r; is_map = refl })

  pub from_into : {i : ℕ} {m : List (List ℕ)}
      → Theory.IsMapInto finite_fields (insertion_of L E F phi rows) i m
      → IsMapInto L E F phi rows i m
  from_into (Theory.IsMapInto.stored h) = stored h
  from_into (Theory.IsMapInto.through h) = through h
  from_into {i} (Theory.IsMapInto.made h) = subst (IsMapInto L E F phi rows i) (sym h.is_map) (made h.new h.below h.least)

  pub from_forced : {i j : ℕ} {m : List (List ℕ)}
      → Theory.IsForced finite_fields (insertion_of L E F phi rows) i j m
      → IsForced L E F phi rows i j m
  from_forced f = record {
    first = f.first;
    second = f.second;
    first_into = from_into f.first_into;
    second_into = from_into f.second_into;
    embedding = f.embedding.embedding;
    followed = f.followed;
  }

  pub from_stored : {i k : ℕ} {m : List (List ℕ)}
      → Theory.IsStoredAfter finite_fields (insertion_of L E F phi rows) i k m
      → IsStoredAfter L E F phi rows i k m
  from_stored (Theory.IsStoredAfter.before h) = before h
  from_stored (Theory.IsStoredAfter.forced f) = forced (from_forced f)
  from_stored (Theory.IsStoredAfter.beyond f h) = beyond (from_forced f) h

-- the fields of an insertion are finite fields
pub record AreFields (L : Lattice) (rows : List Row) : Type 0 where
  pub compatible : Compatible L
  pub count : length L.rows ≤ length rows
  pub finite : (i : ℕ) → i < length rows → IsFiniteField (field_at rows i)

module _ {L : Lattice} {E F : ℕ} {phi : List (List ℕ)} {rows : List Row} (A : AreFields L rows)
  where
    into_within : {i : ℕ} {m : List (List ℕ)} → IsMapInto L E F phi rows i m → i < length rows
    into_within (stored h) = let a = (A.compatible.within h).0 in let b = A.count in omega arith
    into_within (through h) = let a = (A.compatible.within h).0 in let b = A.count in omega arith
    into_within (made n b r) = b

    -- and those of the theory are forced and stored maps here
    pub to_forced : {i j : ℕ} {m : List (List ℕ)} → IsForced L E F phi rows i j m
        → Theory.IsForced finite_fields (insertion_of L E F phi rows) i j m
    to_forced {i} {j} f = record {
      first = f.first;
      second = f.second;
      first_into = to_into f.first_into;
      second_into = to_into f.second_into;
      embedding = record { source = A.finite i (into_within f.first_into); target = A.finite j (into_within f.second_into); embedding = f.embedding };
      followed = f.followed;
    }

    pub to_stored : {i k : ℕ} {m : List (List ℕ)} → IsStoredAfter L E F phi rows i k m
        → Theory.IsStoredAfter finite_fields (insertion_of L E F phi rows) i k m
    to_stored (before h) = Theory.IsStoredAfter.before h
    to_stored (forced f) = Theory.IsStoredAfter.forced (to_forced f)
    to_stored (beyond f h) = Theory.IsStoredAfter.beyond (to_forced f) h
