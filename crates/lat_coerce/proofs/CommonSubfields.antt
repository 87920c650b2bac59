-- The meet of two fields within a third one: the first common subfield whose degree is the greatest
-- common divisor of theirs.
use Rattle.std.proofs.Common.{◌≡◌, ◌↔◌, ◌⊎◌, ℕ, ◌<◌, ◌≤◌, List, length, refl, sym, inl, inr, ⊎_elim, subst}
use Rattle.std.specs.Int.{IsGcd}
use Rattle.std.proofs.lemmas.Bool.{cases_eq, cases_lt}
use Rattle.std.proofs.lemmas.Nat.Gcd.{same_from_IsGcd}
use Rattle.alg_model.specs.Maps.{degree_of, IsMeet}
use Rattle.alg_model.specs.Lattices.{Lattice, field_at, Stored, IsCompatible}
use Rattle.alg_rings.proofs.Decisions.{Least, search_below}
use Rattle.alg_galois.proofs.Meets.{meet_is_gcd}
use Rattle.alg_compatible.proofs.Transfer.{stored_one}
use Rattle.lat_core.specs.declared.questions.CoerceFault.TheVariants.{NotEmbedded}
use Rattle.lat_core.specs.declared.questions.Answer.{Answer}
use Rattle.lat_core.specs.declared.questions.Answer.TheVariants.{Is, Refused}
use Rattle.lat_core.specs.Answers.{IsStoredPair, MeetsIn, HasMeet}
use Rattle.lat_core.specs.Answers.HasMeet.{first_not_embedded, second_not_embedded, meet}
use Rattle.lat_coerce.specs.PrivateSearches.{IsCommonSubfield, IsFirstOfDegree}
use Rattle.lat_coerce.proofs.StoredPairs.{stored_or_not, source_within, source_finite, target_finite}

module _ {L : Lattice} (C : IsCompatible L) {i j k : ℕ} {a b : List (List ℕ)} (A : Stored L i k a)
    (B : Stored L j k b) where
  -- a common subfield has all common images exactly if its degree is the gcd
  meet_by_degree : {l : ℕ} {u v : List (List ℕ)} → Stored L l i u → Stored L l j v
      → IsMeet (field_at L.rows i) (field_at L.rows j) (field_at L.rows k) (field_at L.rows l) u v a b
      ↔ IsGcd (degree_of (field_at L.rows i)) (degree_of (field_at L.rows j)) (degree_of (field_at L.rows l))
  meet_by_degree {l} {u} {v} U V = meet_is_gcd
      (field_at L.rows i) (field_at L.rows j) (field_at L.rows k) (field_at L.rows l)
      (source_finite C A) (source_finite C B) (target_finite C A) (source_finite C U) u v a b
      (C.compatible.embedding U) (C.compatible.embedding V) (C.compatible.embedding A) (C.compatible.embedding B)
      (stored_one (C.compatible.transitive U A) (C.compatible.transitive V B))

  module _ {d : ℕ} (g : IsGcd (degree_of (field_at L.rows i)) (degree_of (field_at L.rows j)) d) where
    -- there is a common subfield of that degree
    pub common_subfield_exists : (l : ℕ) × IsCommonSubfield L i j d l
    common_subfield_exists =
        let (l, u, v, U, V, meets) = C.compatible.meet A B in (
          l,
          record {
            first = (u, U);
            second = (v, V);
            of_degree = same_from_IsGcd _ _ _ _ ((meet_by_degree U V).0 meets) g;
          },
        )

    meets_in : {l : ℕ} → IsCommonSubfield L i j d l → MeetsIn L i j k l a b
    meets_in {l} c =
        let (u, U) = c.first in
        let (v, V) = c.second in
        record {
          into_first = u;
          into_second = v;
          first_stored = U;
          second_stored = V;
          meets = (meet_by_degree U V).1 (subst (λ n. IsGcd (degree_of (field_at L.rows i)) (degree_of (field_at L.rows j)) n) (sym c.of_degree) g);
        }

    common_of_meet : {l : ℕ} → MeetsIn L i j k l a b → IsCommonSubfield L i j d l
    common_of_meet m = record {
      first = (m.into_first, m.first_stored);
      second = (m.into_second, m.second_stored);
      of_degree = same_from_IsGcd _ _ _ _ ((meet_by_degree m.first_stored m.second_stored).0 m.meets) g;
    }

    -- **the first of them is the meet**
    pub first_is_meet : {l : ℕ} → IsFirstOfDegree L i j d l → HasMeet L i j k (Is l)
    first_is_meet f = meet A B (meets_in f.common) (λ m h. f.first m (common_of_meet h))

-- ---- the answer
common_subfield_or_not : (L : Lattice) (i j d l : ℕ)
    → IsCommonSubfield L i j d l ⊎ ¬ IsCommonSubfield L i j d l
common_subfield_or_not L i j d l = ⊎_elim
    (λ (s, t, e). inl (record { first = s; second = t; of_degree = e }))
    (λ absent. inr (λ h. absent (h.first, h.second, h.of_degree)))
    (all_or_not (stored_or_not L l i) (stored_or_not L l j) (cases_eq (degree_of (field_at L.rows l)) d))
  where
    all_or_not : {P Q R : Type 0} → P ⊎ ¬ P → Q ⊎ ¬ Q → R ⊎ ¬ R → (P × Q × R) ⊎ ¬ (P × Q × R)
    all_or_not p q r = ⊎_elim
        (λ a. ⊎_elim
        (λ b. ⊎_elim (λ c. inl (a, b, c)) (λ n. inr (λ h. n h.2)) r)
        (λ n. inr (λ h. n h.1)) q)
        (λ n. inr (λ h. n h.0)) p

-- a first one, where there is one
first_exists : {L : Lattice} → IsCompatible L → {i j d l : ℕ} → IsCommonSubfield L i j d l
    → (l : ℕ) × IsFirstOfDegree L i j d l
first_exists {L} C {i} {j} {d} {l} c = ⊎_elim
    (λ (f : Least (λ m. IsCommonSubfield L i j d m) (length L.rows)). (
      f.number,
      record {
        common = f.holds;
        first = λ m h. ⊎_elim (λ below. absurd (f.least m below h)) (λ k. k) (cases_lt m f.number);
      },
    ))
    (λ none. absurd (none l (source_within C c.first) c))
    (search_below (λ m. IsCommonSubfield L i j d m) (length L.rows) (λ m h. common_subfield_or_not L i j d m))

-- **a question for a meet has an answer**
pub meet_exists : {L : Lattice} → IsCompatible L → (i j k : ℕ)
    → (answer : Answer) × HasMeet L i j k answer
meet_exists {L} C i j k = ⊎_elim
    (λ (a, A). ⊎_elim
    (λ (b, B). found A B)
    (λ absent. (Refused (NotEmbedded j k), second_not_embedded (a, A) absent))
    (stored_or_not L j k))
    (λ absent. (Refused (NotEmbedded i k), first_not_embedded absent))
    (stored_or_not L i k)
  where
    found : {a b : List (List ℕ)} → Stored L i k a → Stored L j k b
        → (answer : Answer) × HasMeet L i j k answer
    found A B =
        let (l, u, v, U, V, meets) = C.compatible.meet A B in
        let g = (meet_by_degree C A B U V).0 meets in
        let (m, first) = first_exists C (record { first = (u, U); second = (v, V); of_degree = refl }) in
        (Is m, first_is_meet C A B g first)

-- ---- what the calls tell of a meet
module _ {L : Lattice} (C : IsCompatible L) {i j k : ℕ} (A : IsStoredPair L i k)
    (B : IsStoredPair L j k) {m n d : ℕ} (first : m ≡ degree_of (field_at L.rows i))
    (second : n ≡ degree_of (field_at L.rows j)) (g : IsGcd m n d) where
  gcd_of_degrees : IsGcd (degree_of (field_at L.rows i)) (degree_of (field_at L.rows j)) d
  gcd_of_degrees = subst (λ x. IsGcd x (degree_of (field_at L.rows j)) d) first (subst (λ x. IsGcd m x d) second g)

  pub subfield_given : (l : ℕ) × IsCommonSubfield L i j d l
  subfield_given = common_subfield_exists C A.1 B.1 gcd_of_degrees

  pub meet_given : {l : ℕ} → IsFirstOfDegree L i j d l → HasMeet L i j k (Is l)
  meet_given f = first_is_meet C A.1 B.1 gcd_of_degrees f
