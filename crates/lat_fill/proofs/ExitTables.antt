-- The table of the members that lead into a field, made in steps.
use Prim.Native.Nat.{◌∣◌}
use Rattle.std.proofs.Common.{◌≡◌, ◌↔◌, ◌⊎◌, ℕ, ◌%◌, ◌+◌, ◌<◌, ◌≤◌, List, length, slice_index_or, slice_set, Option, Some, None, sym, ap, ◌∙◌, refl, subst, inl, inr, ⊎_elim, arith, get_or-set_same, get_or-set_other, replicate}
use Rattle.std.proofs.Math.Nat.{eq-zero_of_zero-dvd}
use Rattle.std.proofs.lemmas.Bool.{cases_eq, cases_lt}
use Rattle.std.proofs.lemmas.List.{get_or_past, get_or_default, length-set, get_or-replicate, length-replicate}
use Rattle.std.proofs.lemmas.Nat.Gcd.{dvd_trans, dvd_of_mod-eq-zero, mod-eq-zero_of_dvd, le_of_dvd}
use borrow.Author.Count.{below_more}
use Rattle.alg_model.specs.Maps.{degree_of}
use Rattle.alg_model.specs.Lattices.{Lattice, Stored}
use Rattle.ff_poly.specs.declared.TheConstants.{MAX_DEGREE}
use Rattle.lat_world.specs.declared.members.Member.{Member}
use Rattle.lat_world.specs.Worlds.{no_member, map_at}
use Rattle.lat_fill.specs.PrivateWays.{Leads, AreExits, IsExit, IsReached}

divides_or_not : (d n : ℕ) → (d ∣ n) ⊎ (d ∣ n → ⊥)
divides_or_not d n = ⊎_elim
    (λ e. inl (dvd_of_mod-eq-zero d e))
    (λ apart. inr (λ h. apart (mod-eq-zero_of_dvd d h)))
    (cases_eq (n % d) 0)

same_place : {o p : Option ℕ} {x y : ℕ} → o ≡ Some x → p ≡ Some y → o ≡ p → x ≡ y
same_place {o} {p} {x} {y} e f g = cc

some_is_not_none : {o : Option ℕ} {x : ℕ} → o ≡ Some x → o ≡ None → ⊥
some_is_not_none e f = cc

pub degree_is : (ms : List Member) (b x : ℕ) (d : Member) → b < length ms
    → x ≡ degree_of (slice_index_or ms b d).map.source → x ≡ degree_of (map_at ms b).source
degree_is ms b x d l e = e ∙ ap (λ r. degree_of r.map.source) (get_or_default ms b d no_member l)

-- a look-up tells whether a member leads into k
pub leads_iff : {L : Lattice} {k : ℕ} {P : Type 0} (ms : List Member) (b : ℕ) (d : Member) → b < length ms
    → P ↔ ((m : List (List ℕ)) × Stored L (slice_index_or ms b d).number k m) → P ↔ Leads L ms b k
leads_iff {L} {k} {P} ms b d l h =
    subst (λ i. P ↔ ((m : List (List ℕ)) × Stored L i k m)) (ap (λ r. r.number) (get_or_default ms b d no_member l)) h

-- ---- a place at each divisor
-- new is old with the place at each divisor of n below i
pub record IsOpenedBelow (old new : List (Option ℕ)) (n place i : ℕ) : Type 0 where
  pub count : length new ≡ MAX_DEGREE + 1
  pub divisors : (d : ℕ) → d < i → d ∣ n → slice_index_or new d None ≡ Some place
  pub others : (d : ℕ) → (d ∣ n → ⊥) → slice_index_or new d None ≡ slice_index_or old d None

pub opened_none : (old : List (Option ℕ)) (n place : ℕ) → 0 < n → length old ≡ MAX_DEGREE + 1
    → IsOpenedBelow old old n place 1
opened_none old n place positive count = record {
  count = count;
  divisors = λ d l h. absurd (
      let z : d ≡ 0 = omega arith in
      let e : n ≡ 0 = eq-zero_of_zero-dvd (subst (λ x. x ∣ n) z h) in
      omega (arith, positive, e));
  others = λ d h. refl;
}

pub opened_more : {old new : List (Option ℕ)} {n place i : ℕ} → i ∣ n → i < MAX_DEGREE + 1
    → IsOpenedBelow old new n place i → IsOpenedBelow old (slice_set new i (Some place)) n place (i + 1)
opened_more {old} {new} {n} {place} {i} divides within O =
    let c : length new ≡ MAX_DEGREE + 1 = O.count in
    record {
      count = length-set new i (Some place) ∙ c;
      divisors = below_more (λ d. d ∣ n → slice_index_or (slice_set new i (Some place)) d None ≡ Some place) i
          (λ d l h. get_or-set_other new i d (Some place) None (omega arith) ∙ O.divisors d l h)
          (λ h. get_or-set_same new i (Some place) None (omega (arith, within, c)));
      others = λ d h.
          get_or-set_other new i d (Some place) None (λ e. h (subst (λ x. x ∣ n) (sym e) divides)) ∙ O.others d h;
    }

pub opened_past : {old new : List (Option ℕ)} {n place i : ℕ} → (i ∣ n → ⊥)
    → IsOpenedBelow old new n place i → IsOpenedBelow old new n place (i + 1)
opened_past {old} {new} {n} {place} {i} apart O = record {
  count = O.count;
  divisors = below_more (λ d. d ∣ n → slice_index_or new d None ≡ Some place) i O.divisors (λ h. absurd (apart h));
  others = O.others;
}

-- a divisor of a positive number is no greater
pub opened_all : {old new : List (Option ℕ)} {n place i : ℕ} → 0 < n → n < i
    → IsOpenedBelow old new n place i → (d : ℕ) → d ∣ n → slice_index_or new d None ≡ Some place
opened_all {n = n} positive past O d h =
    let l : d ≤ n = le_of_dvd positive h in O.divisors d (omega (arith, l, past)) h

-- ---- the table, member after member
abbrev no_place : Option ℕ
no_place = None

abbrev pub no_exits : List (Option ℕ)
no_exits = replicate (MAX_DEGREE + 1) no_place

module _ {L : Lattice} {ms : List Member} {k : ℕ} where
  pub exits_none : AreExits L ms k 0 no_exits
  exits_none = record {
    count = count;
    below = λ d b e. absurd (some_is_not_none e (empty d));
    leads = λ d b e. absurd (some_is_not_none e (empty d));
    divides = λ d b e. absurd (some_is_not_none e (empty d));
    all = λ d b l. absurd (omega arith);
  }
    where
      count : length no_exits ≡ MAX_DEGREE + 1
      count = length-replicate (MAX_DEGREE + 1) no_place

      empty : (d : ℕ) → slice_index_or no_exits d None ≡ None
      empty d = ⊎_elim
          (λ l. get_or-replicate (MAX_DEGREE + 1) d no_place no_place l)
          (λ l. get_or_past no_exits d None (omega (arith, count, l)))
          (cases_lt d (MAX_DEGREE + 1))

  module _ {n : ℕ} {exits : List (Option ℕ)} (H : AreExits L ms k n exits) where
    -- the next member leads nowhere
    pub exits_past : (Leads L ms n k → ⊥) → AreExits L ms k (n + 1) exits
    exits_past none = record {
      count = H.count;
      below = λ d b e. let l : b < n = H.below d b e in omega (arith, l);
      leads = H.leads;
      divides = H.divides;
      all = λ d b. below_more (λ x. Leads L ms x k → d ∣ degree_of (map_at ms x).source → slice_index_or exits d None ≡ None → ⊥) n
          (λ x l. H.all d x l) (λ s. absurd (none s)) b;
    }

    -- another one of a multiple of its degree leads there already
    pub exits_kept : (b : ℕ) → slice_index_or exits (degree_of (map_at ms n).source) None ≡ Some b
        → AreExits L ms k (n + 1) exits
    exits_kept b e = record {
      count = H.count;
      below = λ d x f. let l : x < n = H.below d x f in omega (arith, l);
      leads = H.leads;
      divides = H.divides;
      all = λ d x. below_more (λ x. Leads L ms x k → d ∣ degree_of (map_at ms x).source → slice_index_or exits d None ≡ None → ⊥) n
          (λ x l. H.all d x l)
          (λ s h. H.all d b (H.below _ b e) (H.leads _ b e) (dvd_trans d h (H.divides _ b e))) x;
    }

    -- its place is put at each divisor of its degree
    exits_more : (new : List (Option ℕ)) → Leads L ms n k → length new ≡ MAX_DEGREE + 1
        → ((d : ℕ) → d ∣ degree_of (map_at ms n).source → slice_index_or new d None ≡ Some n)
        → ((d : ℕ) → (d ∣ degree_of (map_at ms n).source → ⊥) → slice_index_or new d None ≡ slice_index_or exits d None)
        → AreExits L ms k (n + 1) new
    exits_more new s count divisors others = record {
      count = count;
      below = λ d b e. at (λ d b. b < n + 1) (λ d h. omega arith) (λ d b f. let l : b < n = H.below d b f in omega (arith, l)) d b e;
      leads = λ d b e. at (λ d b. Leads L ms b k) (λ d h. s) H.leads d b e;
      divides = λ d b e. at (λ d b. d ∣ degree_of (map_at ms b).source) (λ d h. h) H.divides d b e;
      all = λ d b. below_more (λ x. Leads L ms x k → d ∣ degree_of (map_at ms x).source → slice_index_or new d None ≡ None → ⊥) n
          (λ x l t h z. ⊎_elim
          (λ i. some_is_not_none (divisors d i) z)
          (λ apart. H.all d x l t h (sym (others d apart) ∙ z))
          (divides_or_not d (degree_of (map_at ms n).source)))
          (λ t h z. some_is_not_none (divisors d h) z) b;
    }
      where
        at : (P : ℕ → ℕ → Type 0)
            → ((d : ℕ) → d ∣ degree_of (map_at ms n).source → P d n)
            → ((d b : ℕ) → slice_index_or exits d None ≡ Some b → P d b)
            → (d b : ℕ) → slice_index_or new d None ≡ Some b → P d b
        at P here before d b e = ⊎_elim
            (λ h. subst (P d) (same_place (divisors d h) e refl) (here d h))
            (λ apart. before d b (sym (others d apart) ∙ e))
            (divides_or_not d (degree_of (map_at ms n).source))

    -- the same, where its degree is known by another name
    pub exits_opened : (degree : ℕ) (new : List (Option ℕ)) → degree ≡ degree_of (map_at ms n).source
        → Leads L ms n k → length new ≡ MAX_DEGREE + 1
        → ((d : ℕ) → d ∣ degree → slice_index_or new d None ≡ Some n)
        → ((d : ℕ) → (d ∣ degree → ⊥) → slice_index_or new d None ≡ slice_index_or exits d None)
        → AreExits L ms k (n + 1) new
    exits_opened degree new e s count divisors others = exits_more new s count
        (λ d h. divisors d (subst (λ x. d ∣ x) (sym e) h)) (λ d apart. others d (λ h. apart (subst (λ x. d ∣ x) e h)))

  -- ---- what the whole table tells
  module _ {exits : List (Option ℕ)} (H : AreExits L ms k (length ms) exits) (a : ℕ) where
    -- a place leads out
    pub exit_at : (b : ℕ) → slice_index_or exits (degree_of (map_at ms a).source) None ≡ Some b
        → IsExit L ms a b k
    exit_at b e = record { divides = H.divides _ b e; is_stored = H.leads _ b e }

    -- where there is none, there is no way
    pub none_at : slice_index_or exits (degree_of (map_at ms a).source) None ≡ None → IsReached L ms a k → ⊥
    none_at e r = H.all _ r.through r.within r.exit.is_stored r.exit.divides e
