-- The lists of degrees, made in steps.
use Rattle.std.proofs.Common.{◌≡◌, ◌↔◌, ℕ, ◌+◌, ◌*◌, ◌/◌, ◌%◌, ◌<◌, ◌≤◌, List, [], ◌∷◌, ◌++◌, length, refl, sym, ap, ◌∙◌, subst, ⊎_elim, arith, AllPairs, true, false, is_some, Option, Some, None}
use Rattle.std.specs.List.{Contains}
use Rattle.std.specs.Prelude.{MatchOption, Bool, All}
use Rattle.std.specs.FinMap.{get}
use Rattle.std.proofs.lemmas.Bool.{cases_eq}
use Rattle.std.proofs.lemmas.List.Elements.{Contains-push, Contains-append_left, Contains-push_cases, Contains-get_or, All-contains}
use Rattle.std.proofs.lemmas.List.Quantifiers.{all_pairs_push}
use Rattle.std.proofs.lemmas.Nat.Gcd.{le_of_dvd, mod-eq-zero_of_dvd}
use native.Mathlib.Nat.{div-add-mod}
use Prim.Native.Nat.{◌∣◌}
use Rattle.alg_model.specs.Maps.{degree_of}
use Rattle.alg_model.specs.Lattices.{Lattice, field_at, IsCompatible}
use Rattle.alg_model.specs.Candidates.{IsMember, AreMissing}
use Rattle.alg_model.specs.Candidates.IsMember.{of_source, of_target}
use Rattle.alg_choices.specs.Degrees.{AreDegrees}
use Rattle.alg_choices.proofs.Members.{are_missing}
use Rattle.lat_world.proofs.WorldLemmas.{lacks}
use Rattle.ff_meet.specs.Degrees.{Holds}
use Rattle.ff_meet.specs.Degrees as Sets
use Rattle.lat_core.specs.declared.editions.Edition as declared
use Rattle.lat_core.specs.Editions.{edition_of}
use Rattle.lat_fill.specs.PrivateListing.{AreDegreesBelow, IsSmallDegree}
use Rattle.lat_fill.proofs.WayLists.{stored_none}

module _ {L : Lattice} {E F : ℕ} where
  -- what the second look-up tells of a member, where the first finds nothing
  pub told_member : {A B : Type 0} {i : ℕ} (into : Option A) (from : Option B) (P : A → Type 0) (Q : B → Type 0)
      → MatchOption into (get L.maps (i, F) ≡ None) P → MatchOption from (get L.maps (i, E) ≡ None) Q
      → is_some into ≡ false → IsMember L E F i → is_some from ≡ true
  told_member into (Some y) P Q h k a m = refl
  told_member (Some x) None P Q h k a m = cc
  told_member None None P Q h k a (of_source s) = absurd (stored_none k s)
  told_member None None P Q h k a (of_target s) = absurd (stored_none h s)

  -- ---- the degrees of the members
  pub degrees_none : (ds : List ℕ) → ds ≡ [] → AreDegreesBelow L E F 0 ds
  degrees_none ds e d = (
    λ (k, h, x). absurd (let n : length ds ≡ 0 = ap length e in omega (arith, h, n)),
    λ (i, h, m, x). absurd (omega (arith, h)),
  )

  pub degrees_push : {n : ℕ} (ds : List ℕ) (d : ℕ) → AreDegreesBelow L E F n ds → IsMember L E F n
      → d ≡ degree_of (field_at L.rows n) → AreDegreesBelow L E F (n + 1) (ds ++ d ∷ [])
  degrees_push {n} ds d H m e x = (
    λ c. ⊎_elim
        (λ c. let (i, h, k, f) = (H x).0 c in (i, omega (arith, h), k, f))
        (λ f. (n, omega arith, m, sym e ∙ f))
        (Contains-push_cases ds d x c),
    λ (i, h, k, f). ⊎_elim
        (λ (g : i ≡ n). subst (Contains (ds ++ d ∷ [])) (e ∙ ap (λ j. degree_of (field_at L.rows j)) (sym g) ∙ f) (Contains-push ds d))
        (λ g. Contains-append_left ds (d ∷ []) x ((H x).1 (i, omega (arith, h, g), k, f)))
        (cases_eq i n),
  )

  pub degrees_skip : {n : ℕ} (ds : List ℕ) → AreDegreesBelow L E F n ds → (IsMember L E F n → ⊥)
      → AreDegreesBelow L E F (n + 1) ds
  degrees_skip {n} ds H none x = (
    λ c. let (i, h, k, f) = (H x).0 c in (i, omega (arith, h), k, f),
    λ (i, h, k, f). ⊎_elim
        (λ (g : i ≡ n). absurd (none (subst (IsMember L E F) g k)))
        (λ g. (H x).1 (i, omega (arith, h, g), k, f))
        (cases_eq i n),
  )

  member_below : IsCompatible L → {i : ℕ} → IsMember L E F i → i < length L.rows
  member_below C (of_source h) = (C.compatible.within h).0
  member_below C (of_target h) = (C.compatible.within h).0

  pub degrees_all : IsCompatible L → (ds : List ℕ) → AreDegreesBelow L E F (length L.rows) ds
      → AreDegrees L E F (Contains ds)
  degrees_all C ds H = record {
    exactly = λ d. (
      λ c. let (i, h, m, e) = (H d).0 c in (i, m, e),
      λ (i, m, e). (H d).1 (i, member_below C m, m, e),
    );
  }

  -- **what a set of the members' degrees lacks is missing**
  pub missing_degrees : (set more : List Bool) (ds es : List ℕ) → AreDegrees L E F (Contains ds)
      → ((d : ℕ) → Holds set d ↔ Contains ds d)
      → ((d : ℕ) → Holds more d ↔ (Sets.InClosure set d × (Holds set d → ⊥)))
      → AllPairs (λ a b. a < b) es → ((d : ℕ) → Contains es d ↔ Holds more d)
      → AreMissing L E F es
  missing_degrees set more ds es D same missing rising exactly = are_missing D rising (λ d.
      let l = lacks same d in
      (λ c. l.0 ((missing d).0 ((exactly d).0 c)), λ x. (exactly d).1 ((missing d).1 (l.1 x))))

-- ---- the rising list of what a set holds
pub record IsRisingBelow (set : List Bool) (n : ℕ) (ds : List ℕ) : Type 0 where
  pub rising : AllPairs (λ a b. a < b) ds
  pub exactly : (d : ℕ) → Contains ds d ↔ ((d < n) × Holds set d)

pub rising_none : {set : List Bool} {ds : List ℕ} → ((d : ℕ) → Holds set d → IsSmallDegree d) → ds ≡ []
    → IsRisingBelow set 1 ds
rising_none {set} {ds} small e = subst (IsRisingBelow set 1) (sym e) (record {
  rising = λ i j d h k. absurd (omega arith);
  exactly = λ d. (
    λ (k, h, x). absurd (omega arith),
    λ (h, x). let s : 0 < d = (small d x).0 in absurd (omega (arith, h, s)),
  );
})

module _ {set : List Bool} {n : ℕ} {ds : List ℕ} (H : IsRisingBelow set n ds) where
  pub rising_push : Holds set n → IsRisingBelow set (n + 1) (ds ++ n ∷ [])
  rising_push held = record {
    rising = all_pairs_push (λ a b. a < b) ds n H.rising (λ k d h. ((H.exactly _).0 (Contains-get_or ds k d h)).0);
    exactly = λ d. (
      λ c. ⊎_elim
          (λ c. let (h, x) = (H.exactly d).0 c in (omega (arith, h), x))
          (λ (e : n ≡ d). (omega (arith, e), subst (Holds set) e held))
          (Contains-push_cases ds n d c),
      λ (h, x). ⊎_elim
          (λ (e : d ≡ n). subst (Contains (ds ++ n ∷ [])) (sym e) (Contains-push ds n))
          (λ e. Contains-append_left ds (n ∷ []) d ((H.exactly d).1 (omega (arith, h, e), x)))
          (cases_eq d n),
    );
  }

  pub rising_skip : (Holds set n → ⊥) → IsRisingBelow set (n + 1) ds
  rising_skip none = record {
    rising = H.rising;
    exactly = λ d. (
      λ c. let (h, x) = (H.exactly d).0 c in (omega (arith, h), x),
      λ (h, x). ⊎_elim
          (λ (e : d ≡ n). absurd (none (subst (Holds set) e x)))
          (λ e. (H.exactly d).1 (omega (arith, h, e), x))
          (cases_eq d n),
    );
  }

-- ---- small degrees
-- a divisor of a number that isn't zero isn't zero
divisor_positive : (d a : ℕ) → 0 < a → d ∣ a → 0 < d
divisor_positive d a h k = ⊎_elim
    (λ (e : d ≡ 0).
    let z : a % 0 ≡ 0 = subst (λ x. a % x ≡ 0) e (mod-eq-zero_of_dvd d k) in
    let n : 0 * (a / 0) + a % 0 ≡ a = div-add-mod a 0 in
    absurd (omega (arith, h, z, n)))
    (λ apart. omega (arith, apart))
    (cases_eq d 0)

-- **the closure of small degrees has small degrees**
pub closure_small : {set : List Bool} → ((d : ℕ) → Holds set d → IsSmallDegree d) → {d : ℕ}
    → Sets.InClosure set d → IsSmallDegree d
closure_small small (Sets.InClosure.of_member {d} h) = small d h
closure_small small (Sets.InClosure.of_gcd {a} {b} {d} p q g) =
    let (low, high) = closure_small small p in
    let n : d ≤ a = le_of_dvd low g.0 in
    (divisor_positive d a low g.0, omega (arith, n, high))

pub held_small : (set : List Bool) (xs ds : List ℕ) → ((d : ℕ) → Holds set d ↔ Contains xs d)
    → xs ≡ ds → All IsSmallDegree ds → (d : ℕ) → Holds set d → IsSmallDegree d
held_small set xs ds same e small d h = All-contains IsSmallDegree ds d small (subst (λ ys. Contains ys d) e ((same d).0 h))

-- ---- room
pub room_is : (e : declared.Edition) → (edition_of e).room ≡ 200
room_is declared.TheVariants.One = refl
room_is declared.TheVariants.Two = refl

-- a lattice has at most 200 fields
pub few_fields : {L : Lattice} (e : declared.Edition) → edition_of e ≡ L.edition → IsCompatible L
    → length L.rows ≤ 200
few_fields {L} e same C =
    let r : length L.rows ≤ L.edition.room = C.rows.room in
    let k : L.edition.room ≡ 200 = sym (ap (λ x. x.room) same) ∙ room_is e in
    omega (arith, r, k)
