-- The common overfield of two fields: the first of lowest degree, found by going through the fields
-- one by one.
use Rattle.std.proofs.Common.{◌≡◌, ◌⊎◌, ℕ, zero, suc, ◌+◌, ◌<◌, ◌≤◌, length, sym, ⊎_elim, subst, arith, Option, Some, None}
use Rattle.std.specs.Prelude.{MatchOption}
use Rattle.std.proofs.lemmas.Bool.{cases_lt}
use Rattle.alg_model.specs.Maps.{degree_of, identity_map}
use Rattle.alg_model.specs.Lattices.{Lattice, field_at, IsCompatible}
use Rattle.alg_rings.proofs.Decisions.{both_or_not}
use Rattle.lat_core.specs.declared.questions.CoerceFault.TheVariants.{NoCommonField}
use Rattle.lat_core.specs.declared.questions.Answer.{Answer}
use Rattle.lat_core.specs.declared.questions.Answer.TheVariants.{Is, Refused}
use Rattle.lat_core.specs.Answers.{IsStoredPair, IsCommon, IsLowestCommon, HasCommon}
use Rattle.lat_core.specs.Answers.HasCommon.{first, second, other, none as none_common}
use Rattle.lat_coerce.specs.PrivateSearches.{IsLowestBelow, IsBestBelow}
use Rattle.lat_coerce.proofs.StoredPairs.{last_or_below, stored_or_not, source_within, target_within, degree_rises}

abbrev degree_at : Lattice → ℕ → ℕ
degree_at L h = degree_of (field_at L.rows h)

-- ---- one field more
module _ {L : Lattice} {a b n m : ℕ} (next : m ≡ n + 1) where
  -- what holds of n, and of all common overfields below it, holds of all below the next number
  below_next : (P : ℕ → Type 0) → (IsCommon L a b n → P n)
      → ((h : ℕ) → h < n → IsCommon L a b h → P h)
      → (h : ℕ) → h < m → IsCommon L a b h → P h
  below_next P here before h l c = ⊎_elim
      (λ e. subst P e (here (subst (λ z. IsCommon L a b z) (sym e) c)))
      (λ k. before h k c)
      (last_or_below next l)

  -- a field that isn't common changes nothing
  pub best_skips : (best : Option ℕ) → ¬ IsCommon L a b n → IsBestBelow L a b n best
      → IsBestBelow L a b m best
  best_skips None absent none = below_next (λ h. ⊥) absent none
  best_skips (Some g) absent B = record {
    below = let l : g < n = B.below in omega arith;
    common = B.common;
    lowest = below_next (λ h. degree_at L g ≤ degree_at L h) (λ c. absurd (absent c)) B.lowest;
    first = λ h l c. below_next (λ h. degree_at L h ≤ degree_at L g → g ≤ h) (λ c. absurd (absent c)) B.first h l c;
  }

  -- the first common field is the best
  pub best_begins : IsCommon L a b n → ((h : ℕ) → h < n → ¬ IsCommon L a b h)
      → IsLowestBelow L a b m n
  best_begins c none = record {
    below = omega arith;
    common = c;
    lowest = below_next (λ h. degree_at L n ≤ degree_at L h) (λ d. omega arith) (λ h l d. absurd (none h l d));
    first = below_next (λ h. degree_at L h ≤ degree_at L n → n ≤ h) (λ d e. omega arith) (λ h l d. absurd (none h l d));
  }

  module _ {g : ℕ} (c : IsCommon L a b n) (B : IsLowestBelow L a b n g) where
    -- one of lower degree takes its place
    pub best_changes : degree_at L n < degree_at L g → IsLowestBelow L a b m n
    best_changes lower = record {
      below = omega arith;
      common = c;
      lowest = below_next (λ h. degree_at L n ≤ degree_at L h) (λ d. omega arith)
          (λ h l d. let k = B.lowest h l d in omega (arith, k, lower));
      first = below_next (λ h. degree_at L h ≤ degree_at L n → n ≤ h) (λ d e. omega arith)
          (λ h l d e. let k = B.lowest h l d in absurd (omega (arith, k, lower, e)));
    }

    -- and no other one
    pub best_stays : degree_at L g ≤ degree_at L n → IsLowestBelow L a b m g
    best_stays higher = record {
      below = let l : g < n = B.below in omega arith;
      common = B.common;
      lowest = below_next (λ h. degree_at L g ≤ degree_at L h) (λ d. higher) B.lowest;
      first = below_next (λ h. degree_at L h ≤ degree_at L g → g ≤ h)
          (λ d e. let l : g < n = B.below in omega arith) B.first;
    }

-- ---- all fields
common_or_not : (L : Lattice) (a b g : ℕ) → IsCommon L a b g ⊎ ¬ IsCommon L a b g
common_or_not L a b g = both_or_not (stored_or_not L a g) (stored_or_not L b g)

-- below each number there is a best one or none
pub best_exists : (L : Lattice) (a b n : ℕ) → (best : Option ℕ) × IsBestBelow L a b n best
best_exists L a b zero = (None, λ h l c. absurd (omega arith))
best_exists L a b (suc n) = step (best_exists L a b n)
  where
    next : suc n ≡ n + 1
    next = omega arith

    step : (best : Option ℕ) × IsBestBelow L a b n best
        → (best : Option ℕ) × IsBestBelow L a b (suc n) best
    step (best, B) = ⊎_elim
        (λ c. taken best B c)
        (λ absent. (best, best_skips next best absent B))
        (common_or_not L a b n)
      where
        taken : (best : Option ℕ) → IsBestBelow L a b n best → IsCommon L a b n
            → (best : Option ℕ) × IsBestBelow L a b (suc n) best
        taken None none c = (Some n, best_begins next c none)
        taken (Some g) B c = ⊎_elim
            (λ lower. (Some n, best_changes next c B lower))
            (λ higher. (Some g, best_stays next c B higher))
            (cases_lt (degree_at L n) (degree_at L g))

-- ---- the answer
module _ {L : Lattice} (C : IsCompatible L) {a b : ℕ} where
  -- a field into which the other has a map is lowest, since degrees don't fall
  first_lowest : IsStoredPair L b a → IsLowestCommon L a b a
  first_lowest s = record {
    common = ((identity_map (field_at L.rows a), C.compatible.identity a (target_within C s)), s);
    lowest = λ h c. degree_rises C c.0;
  }

  second_lowest : IsStoredPair L a b → IsLowestCommon L a b b
  second_lowest s = record {
    common = (s, (identity_map (field_at L.rows b), C.compatible.identity b (target_within C s)));
    lowest = λ h c. degree_rises C c.1;
  }

  pub common_first : IsStoredPair L b a → HasCommon L a b (Is a)
  common_first s = first (first_lowest s)

  pub common_second : ¬ IsStoredPair L b a → IsStoredPair L a b → HasCommon L a b (Is b)
  common_second absent s = second (λ l. absent l.common.1) (second_lowest s)

  module _ (not_first : ¬ IsStoredPair L b a) (not_second : ¬ IsStoredPair L a b) where
    pub common_found : {g : ℕ} → IsLowestBelow L a b (length L.rows) g → HasCommon L a b (Is g)
    common_found B = other (λ l. not_first l.common.1) (λ l. not_second l.common.0)
        (record { common = B.common; lowest = λ h c. B.lowest h (target_within C c.0) c })
        (λ h l. B.first h (target_within C l.common.0) l.common (l.lowest _ B.common))

    pub common_missing : ((h : ℕ) → h < length L.rows → ¬ IsCommon L a b h)
        → HasCommon L a b (Refused (NoCommonField a b))
    common_missing absent = none_common (λ h c. absent h (target_within C c.0) c)

    common_of_best : (best : Option ℕ) → IsBestBelow L a b (length L.rows) best
        → (answer : Answer) × HasCommon L a b answer
    common_of_best None absent = (Refused (NoCommonField a b), common_missing absent)
    common_of_best (Some g) B = (Is g, common_found B)

  -- **a question for a common overfield has an answer**
  pub common_exists : (answer : Answer) × HasCommon L a b answer
  common_exists = ⊎_elim
      (λ s. (Is a, common_first s))
      (λ absent. ⊎_elim
      (λ s. (Is b, common_second absent s))
      (λ nor. let (best, B) = best_exists L a b (length L.rows) in common_of_best absent nor best B)
      (stored_or_not L a b))
      (stored_or_not L b a)
