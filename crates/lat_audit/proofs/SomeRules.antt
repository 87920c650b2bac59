-- The first fields at which a rule is broken, or that it is kept.
use Rattle.std.proofs.Common.{◌≡◌, ℕ, zero, suc, ◌+◌, ◌%◌, ◌<◌, Option, Some, None, List, length, refl, subst, inl, inr, ⊎_elim, arith, nat_cmp}
use Rattle.std.specs.Prelude.{slice_index}
use Rattle.std.specs.Int.{IsGcd}
use Rattle.std.specs.FinMap.{get}
use Rattle.std.proofs.Math.Nat.{mod-lt}
use Rattle.std.proofs.lemmas.Nat.Gcd.{IsGcd-from_zero, IsGcd-from_mod, same_from_IsGcd}
use Rattle.std.proofs.lemmas.Bool.{cases_eq}
use Rattle.alg_model.specs.Maps.{degree_of, comp, identity_map}
use Rattle.alg_model.specs.Lattices.{Lattice, Stored, field_at, pair_cmp}
use Rattle.lat_language.specs.PrivateDecisions.{Decided, same_words}
use Rattle.lat_audit.specs.Verdicts.{None as Never, triple_cmp, LacksIdentity, LacksPrimeSubfield, HasInverse, LacksInverse, LacksComposition, LacksIntersection}
use Rattle.lat_audit.specs.PrivateRules.{HasPrimeSubfield, HoldsMaps, AreComposed, IsCommonSubfield, KeepsComposition, KeepsIntersection}
use Rattle.lat_audit.proofs.RuleMaps.{stored_once}
use Rattle.lat_audit.proofs.RuleFaults.{are_composed}
use Rattle.lat_audit.proofs.RuleDegrees.{meets_by_degree, lacks_by_degree, intersection_kept}
use Rattle.lat_audit.proofs.FiniteSearches.{FirstOrNone, told_as, both_told, fails_told, holds_told, found_then, some_below, number_or_none, pair_or_none, triple_or_none}

-- ---- greatest common divisors
-- by remainders, for b below the bound
gcd_below : (bound a b : ℕ) → b < bound → (g : ℕ) × IsGcd a b g
gcd_below zero a b l = absurd (omega (arith, l))
gcd_below (suc bound) a zero l = (a, IsGcd-from_zero a zero refl)
gcd_below (suc bound) a (suc b) l =
    let smaller : a % suc b < suc b = mod-lt a (omega arith) in
    let more = gcd_below bound (suc b) (a % suc b) (omega (arith, l, smaller)) in
    (more.0, IsGcd-from_mod a (suc b) more.0 more.1)

gcd_told : (a b d : ℕ) → Decided (IsGcd a b d)
gcd_told a b d =
    let g = gcd_below (b + 1) a b (omega arith) in
    told_as
    (λ same. subst (IsGcd a b) same g.1)
    (λ h. same_from_IsGcd a b g.0 d g.1 h)
    (cases_eq g.0 d)

module _ (L : Lattice) where
  abbrev Map : Type 0
  Map = List (List ℕ)

  -- ---- what is stored
  some_stored : (i j : ℕ) → Decided ((m : Map) × Stored L i j m)
  some_stored i j = found (get L.maps (i, j)) refl
    where
      found : (r : Option Map) → get L.maps (i, j) ≡ r → Decided ((m : Map) × Stored L i j m)
      found (Some m) e = inl (m, record { found = e })
      found None e = inr (λ (m, s). let f : get L.maps (i, j) ≡ Some m = s.found in cc)

  stored_told : (i j : ℕ) (m : Map) → Decided (Stored L i j m)
  stored_told i j m = told_as
      (λ (n, s, e). subst (Stored L i j) e s)
      (λ s. (m, s, refl))
      (stored_then i j (λ n. n ≡ m) (λ n s. same_words n m))
    where
      stored_then : (i j : ℕ) (Q : Map → Type 0) → ((m : Map) → Stored L i j m → Decided (Q m))
          → Decided ((m : Map) × Stored L i j m × Q m)
      stored_then i j Q told = found_then (Stored L i j) Q (stored_once L i j) told (some_stored i j)

  -- ---- identities and prime subfields
  pub identity_or_none : FirstOrNone nat_cmp (LacksIdentity L)
  identity_or_none = number_or_none (LacksIdentity L) (length L.rows) (λ i x. x.within)
      (λ i l. told_as (λ fails. record { within = l; lacking = fails }) (λ x. x.lacking)
      (fails_told (stored_told i i (identity_map (field_at L.rows i)))))

  pub identities_kept : Never (LacksIdentity L) → (i : ℕ) → i < length L.rows
      → Stored L i i (identity_map (field_at L.rows i))
  identities_kept none i l = holds_told (stored_told i i (identity_map (field_at L.rows i)))
      (λ fails. none i (record { within = l; lacking = fails }))

  abbrev HasPrime : ℕ → ℕ → Type 0
  HasPrime j q = (slice_index L.edition.primes q ≡ (field_at L.rows j).characteristic)
      × ((m : Map) × Stored L q j m)

  some_prime : (j : ℕ) → Decided ((q : ℕ) × (q < length L.edition.primes) × HasPrime j q)
  some_prime j = some_below (HasPrime j) (length L.edition.primes)
      (λ q w. both_told (cases_eq (slice_index L.edition.primes q) (field_at L.rows j).characteristic)
      (some_stored q j))

  lacks_prime : (j : ℕ) → j < length L.rows
      → ¬ ((q : ℕ) × (q < length L.edition.primes) × HasPrime j q) → LacksPrimeSubfield L j
  lacks_prime j l fails = record {
    within = l;
    lacking = λ q m is s. fails (q, is.within, (is.prime, (m, s)));
  }

  prime_told : (j : ℕ) → j < length L.rows → Decided (LacksPrimeSubfield L j)
  prime_told j l = told_as
      (lacks_prime j l)
      (λ lacks (q, w, (e, (m, s))). lacks.lacking q m (record { within = w; prime = e }) s)
      (fails_told (some_prime j))

  pub prime_subfields_kept : Never (LacksPrimeSubfield L) → (j : ℕ) → j < length L.rows
      → HasPrimeSubfield L j
  prime_subfields_kept none j l =
      let (q, w, (e, (m, s))) = holds_told (some_prime j) (λ fails. none j (lacks_prime j l fails)) in
      record { number = q; map = m; prime = record { within = w; prime = e }; stored = s }

  pub prime_subfield_or_none : FirstOrNone nat_cmp (LacksPrimeSubfield L)
  prime_subfield_or_none =
      number_or_none (LacksPrimeSubfield L) (length L.rows) (λ j x. x.within) prime_told

  module _ (M : HoldsMaps L) where
    -- ---- inverses
    has_inverse_told : (i j : ℕ) (m : Map) → Decided ((n : Map) × HasInverse L i j m n)
    has_inverse_told i j m = told_as
        (λ (n, s, (back, forth)). (n, record { stored = s; back = back; forth = forth }))
        (λ (n, h). (n, h.stored, (h.back, h.forth)))
        (found_then (Stored L j i)
        (λ n. (comp (field_at L.rows i) m n ≡ identity_map (field_at L.rows i))
        × (comp (field_at L.rows j) n m ≡ identity_map (field_at L.rows j)))
        (stored_once L j i)
        (λ n s. both_told (same_words (comp (field_at L.rows i) m n) (identity_map (field_at L.rows i)))
        (same_words (comp (field_at L.rows j) n m) (identity_map (field_at L.rows j))))
        (some_stored j i))

    abbrev Lacking : ℕ → ℕ → Map → Type 0
    Lacking i j m = (degree_of (field_at L.rows i) ≡ degree_of (field_at L.rows j))
        × ¬ ((n : Map) × HasInverse L i j m n)

    inverse_told : (i j : ℕ) → Decided (LacksInverse L (i, j))
    inverse_told i j = told_as
        (λ (m, s, (same, fails)). record {
          map = m;
          stored = s;
          isomorphism = same;
          lacking = λ n h. fails (n, h);
        })
        (λ x. (x.map, x.stored, (x.isomorphism, λ (n, h). x.lacking n h)))
        (found_then (Stored L i j) (Lacking i j) (stored_once L i j)
        (λ m s. both_told (cases_eq (degree_of (field_at L.rows i)) (degree_of (field_at L.rows j)))
        (fails_told (has_inverse_told i j m)))
        (some_stored i j))

    pub inverse_or_none : FirstOrNone pair_cmp (LacksInverse L)
    inverse_or_none = pair_or_none (LacksInverse L) (length L.rows)
        (λ i j x. M.within i j x.map x.stored) (λ i j li lj. inverse_told i j)

    pub inverses_kept : Never (LacksInverse L) → (i j : ℕ) (m : Map) → Stored L i j m
        → degree_of (field_at L.rows i) ≡ degree_of (field_at L.rows j)
        → (n : Map) × HasInverse L i j m n
    inverses_kept none i j m s same = holds_told (has_inverse_told i j m)
        (λ fails. none (i, j) (record {
          map = m;
          stored = s;
          isomorphism = same;
          lacking = λ n h. fails (n, h);
        }))

    -- ---- compositions
    abbrev Open : ℕ → ℕ → ℕ → Map → Type 0
    Open i j k m = (n : Map) × Stored L j k n × ¬ Stored L i k (comp (field_at L.rows k) m n)

    composition_told : (i j k : ℕ) → Decided (LacksComposition L (i, j, k))
    composition_told i j k = told_as
        (λ (m, s, (n, t, fails)). record {
          first = m;
          second = n;
          first_stored = s;
          second_stored = t;
          lacking = fails;
        })
        (λ x. (x.first, x.first_stored, (x.second, x.second_stored, x.lacking)))
        (found_then (Stored L i j) (Open i j k) (stored_once L i j)
        (λ m s. found_then (Stored L j k) (λ n. ¬ Stored L i k (comp (field_at L.rows k) m n)) (stored_once L j k)
        (λ n t. fails_told (stored_told i k (comp (field_at L.rows k) m n))) (some_stored j k))
        (some_stored i j))

    pub composition_or_none : FirstOrNone triple_cmp (LacksComposition L)
    composition_or_none = triple_or_none (LacksComposition L) (length L.rows)
        (λ i j k x.
        let first = M.within i j x.first x.first_stored in
        let second = M.within j k x.second x.second_stored in
        (first.0, first.1, second.1))
        (λ i j k li lj lk. composition_told i j k)

    -- compositions that aren't lacking are stored
    pub compositions_kept : Never (LacksComposition L) → AreComposed L
    compositions_kept none = are_composed L M keeps where
      keeps : (i j k : ℕ) → i < length L.rows → j < length L.rows → k < length L.rows
          → KeepsComposition L i j k
      keeps i j k li lj lk m n s t = holds_told (stored_told i k (comp (field_at L.rows k) m n))
          (λ fails. none (i, j, k) (record {
            first = m;
            second = n;
            first_stored = s;
            second_stored = t;
            lacking = fails;
          }))

    -- ---- intersections
    common_told : (i j l : ℕ) → Decided (IsCommonSubfield L i j l)
    common_told i j l = told_as
        (λ h. record { first = h.0; second = h.1.0; degree = h.1.1 })
        (λ is. (is.first, (is.second, is.degree)))
        (both_told (some_stored l i) (both_told (some_stored l j)
        (gcd_told (degree_of (field_at L.rows i)) (degree_of (field_at L.rows j)) (degree_of (field_at L.rows l)))))

    some_common : (i j : ℕ) → Decided ((l : ℕ) × (l < length L.rows) × IsCommonSubfield L i j l)
    some_common i j = some_below (IsCommonSubfield L i j) (length L.rows) (λ l w. common_told i j l)

    module _ (C : AreComposed L) where
      intersection_told : (i j k : ℕ) → Decided (LacksIntersection L (i, j, k))
      intersection_told i j k = told_as
          (λ (common, ((a, A), (b, B))). lacks_by_degree L C i j k a b A B
          (λ l is. common (l, (M.within l i is.first.0 is.first.1).0, is)))
          (λ x. (
            λ (l, w, is). intersection_kept L i j k (meets_by_degree L C i j k l is) x,
            ((x.first, x.first_stored), (x.second, x.second_stored)),
          ))
          (both_told (fails_told (some_common i j)) (both_told (some_stored i k) (some_stored j k)))

      pub intersection_or_none : FirstOrNone triple_cmp (LacksIntersection L)
      intersection_or_none = triple_or_none (LacksIntersection L) (length L.rows)
          (λ i j k x.
          let first = M.within i k x.first x.first_stored in
          let second = M.within j k x.second x.second_stored in
          (first.0, second.0, first.1))
          (λ i j k li lj lk. intersection_told i j k)

      pub intersections_kept : Never (LacksIntersection L) → (i j k : ℕ) → KeepsIntersection L i j k
      intersections_kept none i j k a b A B = ⊎_elim
          (λ (l, w, is). meets_by_degree L C i j k l is a b A B)
          (λ nowhere. absurd (none (i, j, k) (lacks_by_degree L C i j k a b A B
          (λ l is. nowhere (l, (M.within l i is.first.0 is.first.1).0, is)))))
          (some_common i j)
