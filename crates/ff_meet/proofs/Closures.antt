-- The closure of a set of degrees under greatest common divisors.
--     BuiltBelow P s i       s is built up to the degree i: it holds those that P holds for
--     IsCommonBelow s d i g       as IsCommon, for the members below i
use Rattle.std.proofs.Common.{◌≡◌, ◌⊎◌, ⊎_elim, inl, inr, ℕ, ◌+◌, ◌<◌, ◌≤◌, ◌↔◌, List, Bool, true, false, length, slice_index_or, slice_set, IsTrue, refl, ap, sym, ◌∙◌, subst, arith, get_or-set_same, get_or-set_other, replicate}
use Rattle.std.specs.Int.{IsGcd, ◌∣◌}
use Rattle.std.proofs.Math.Nat.{eq-zero_of_zero-dvd}
use Rattle.std.proofs.lemmas.Bool.{cases_lt, cases_eq}
use Rattle.std.proofs.lemmas.List.{get_or_past, length-set, get_or-replicate, length-replicate}
use Rattle.std.proofs.lemmas.Nat.Gcd.{dvd_refl, dvd_trans, dvd_antisymm, dvd-zero, le_of_dvd}
use Rattle.ff_poly.specs.declared.TheConstants.{MAX_DEGREE}
use Rattle.ff_meet.specs.Degrees.{Holds, IsDegreeSet, InClosure}
use Rattle.ff_meet.specs.Degrees.InClosure.{of_member, of_gcd}
use Rattle.ff_meet.specs.PrivateCommon.{IsCommon}

false_is_no : IsTrue false → ⊥
false_is_no h = cc

-- what divides all members that d divides divides d, where d is in the closure
divides_closed : (s : List Bool) (d g : ℕ) → InClosure s d → ((e : ℕ) → Holds s e → d ∣ e → g ∣ e) → g ∣ d
divides_closed s d g (of_member h) all = all d h (dvd_refl d)
divides_closed s d g (of_gcd {a} {b} p q i) all =
    i.2 g (divides_closed s a g p (λ e h k. all e h (dvd_trans _ i.0 k)))
    (divides_closed s b g q (λ e h k. all e h (dvd_trans _ i.1 k)))

-- **d is in the closure exactly where it is the greatest common divisor of the members that it divides**
pub closure_from_common : (s : List Bool) (d g : ℕ) → 0 < d → IsCommon s d g → g ≡ d → InClosure s d
closure_from_common s d g positive common e = ⊎_elim
    (λ z. absurd (omega arith))
    (λ c. subst (InClosure s) e c)
    common.made

pub common_from_closure : (s : List Bool) (d g : ℕ) → IsCommon s d g → InClosure s d → g ≡ d
common_from_closure s d g common c =
    dvd_antisymm (divides_closed s d g c common.divides) (common.greatest d (λ e h k. k))

-- ---- members stand between 1 and MAX_DEGREE, and so do the degrees of the closure
pub past_holds : (s : List Bool) (d : ℕ) → length s ≤ d → Holds s d → ⊥
past_holds s d l h = false_is_no (subst IsTrue (get_or_past s d false l) h)

positive_or_zero : (d : ℕ) → (0 < d) ⊎ (d ≡ 0)
positive_or_zero d = ⊎_elim (λ l. inl l) (λ l. inr (omega arith)) (cases_lt 0 d)

pub closure_bounds : (s : List Bool) (d : ℕ) → IsDegreeSet s → InClosure s d → (0 < d) × (d ≤ MAX_DEGREE)
closure_bounds s d w (of_member h) =
    let c : length s ≡ MAX_DEGREE + 1 = w.count in (
      ⊎_elim (λ z. z) (λ z. absurd (w.above_zero (subst (Holds s) z h))) (positive_or_zero d),
      ⊎_elim (λ l. omega arith) (λ l. absurd (past_holds s d (omega arith) h)) (cases_lt d (MAX_DEGREE + 1)),
    )
closure_bounds s d w (of_gcd {a} {b} p q i) =
    let n = closure_bounds s a w p in
    let m : d ≤ a = le_of_dvd n.0 i.0 in (
      ⊎_elim (λ z. z) (λ z. absurd (let e : a ≡ 0 = eq-zero_of_zero-dvd (subst (λ t. t ∣ a) z i.0) in omega (arith, n.0)))
          (positive_or_zero d),
      omega (arith, n.1, m),
    )

-- ---- a set that is built degree after degree
pub record BuiltBelow (P : ℕ → Type 0) (s : List Bool) (i : ℕ) : Type 0 where
  pub count : length s ≡ MAX_DEGREE + 1
  pub above_zero : Holds s 0 → ⊥
  pub below : (d : ℕ) → 0 < d → d < i → Holds s d ↔ P d
  pub rest : (d : ℕ) → i ≤ d → Holds s d → ⊥

pub built_more : (P : ℕ → Type 0) (s : List Bool) (i : ℕ) (v : Bool) → 0 < i → i < MAX_DEGREE + 1 → (IsTrue v ↔ P i)
    → BuiltBelow P s i → BuiltBelow P (slice_set s i v) (i + 1)
built_more P s i v positive within is b =
    let c : length s ≡ MAX_DEGREE + 1 = b.count in
    record {
      count = length-set s i v ∙ b.count;
      above_zero = λ h. b.above_zero (subst IsTrue (get_or-set_other s i 0 v false (omega arith)) h);
      below = λ d l m. ⊎_elim
          (λ e. let same : slice_index_or (slice_set s i v) d false ≡ v = ap (λ k. slice_index_or (slice_set s i v) k false) e ∙ get_or-set_same s i v false (omega arith) in
          (λ h. subst P (sym e) (is.0 (subst IsTrue same h)), λ h. subst IsTrue (sym same) (is.1 (subst P e h))))
          (λ n. let other : slice_index_or (slice_set s i v) d false ≡ slice_index_or s d false = get_or-set_other s i d v false (omega arith) in
          (λ h. (b.below d l (omega arith)).0 (subst IsTrue other h), λ h. subst IsTrue (sym other) ((b.below d l (omega arith)).1 h)))
          (cases_eq d i);
      rest = λ d l h. b.rest d (omega arith) (subst IsTrue (get_or-set_other s i d v false (omega arith)) h);
    }

pub built_set : (P : ℕ → Type 0) (s : List Bool) (i : ℕ) → BuiltBelow P s i → IsDegreeSet s
built_set P s i b = record { count = b.count; above_zero = b.above_zero }

-- P holds for degrees alone
pub built_all : (P : ℕ → Type 0) (s : List Bool) (i : ℕ) → MAX_DEGREE + 1 ≤ i
    → ((d : ℕ) → P d → (0 < d) × (d ≤ MAX_DEGREE)) → BuiltBelow P s i → (d : ℕ) → Holds s d ↔ P d
built_all P s i past bounds b d = (
  λ h. ⊎_elim
      (λ l. ⊎_elim
      (λ k. (b.below d l k).0 h)
      (λ k. absurd (b.rest d k h))
      (cases_lt d i))
      (λ z. absurd (b.above_zero (subst (Holds s) z h)))
      (positive_or_zero d),
  λ h. (b.below d (bounds d h).0 (let k = (bounds d h).1 in omega (arith, k))).1 h,
)

-- ---- the greatest common divisor of the members that d divides, found one after the other
pub record IsCommonBelow (s : List Bool) (d i g : ℕ) : Type 0 where
  pub divides : (e : ℕ) → e < i → Holds s e → d ∣ e → g ∣ e
  pub greatest : (c : ℕ) → ((e : ℕ) → e < i → Holds s e → d ∣ e → c ∣ e) → c ∣ g
  pub made : (g ≡ 0) ⊎ InClosure s g

pub common_starts : (s : List Bool) (d : ℕ) → (Holds s 0 → ⊥) → IsCommonBelow s d 1 0
common_starts s d above = record {
  divides = λ e l h k. absurd (above (subst (Holds s) (omega arith) h));
  greatest = λ c all. dvd-zero c;
  made = inl refl;
}

pub common_skips : (s : List Bool) (d i g : ℕ) → (Holds s i → d ∣ i → ⊥) → IsCommonBelow s d i g
    → IsCommonBelow s d (i + 1) g
common_skips s d i g not_one c = record {
  divides = λ e l h k. ⊎_elim
      (λ m. c.divides e m h k)
      (λ m. let same : e ≡ i = omega arith in absurd (not_one (subst (Holds s) same h) (subst (λ t. d ∣ t) same k)))
      (cases_lt e i);
  greatest = λ n all. c.greatest n (λ e l h k. all e (omega arith) h k);
  made = c.made;
}

gcd_of_zero : (g h i : ℕ) → g ≡ 0 → IsGcd g i h → h ≡ i
gcd_of_zero g h i z k = dvd_antisymm k.1 (k.2 i (subst (λ t. i ∣ t) (sym z) (dvd-zero i)) (dvd_refl i))

pub common_takes : (s : List Bool) (d i g h : ℕ) → Holds s i → d ∣ i → IsGcd g i h → IsCommonBelow s d i g
    → IsCommonBelow s d (i + 1) h
common_takes s d i g h held divided k c = record {
  divides = λ e l m n. ⊎_elim
      (λ b. dvd_trans _ k.0 (c.divides e b m n))
      (λ b. let same : i ≡ e = omega arith in subst (λ t. h ∣ t) same k.1)
      (cases_lt e i);
  greatest = λ n all. k.2 n (c.greatest n (λ e l m o. all e (omega arith) m o)) (all i (omega arith) held divided);
  made = inr (⊎_elim
      (λ z. subst (InClosure s) (sym (gcd_of_zero g h i z k)) (of_member held))
      (λ m. of_gcd m (of_member held) k)
      c.made);
}

pub common_ends : (s : List Bool) (d i g : ℕ) → length s ≤ i → IsCommonBelow s d i g → IsCommon s d g
common_ends s d i g past c = record {
  divides = λ e h k. ⊎_elim (λ l. c.divides e l h k) (λ l. absurd (past_holds s e (omega arith) h)) (cases_lt e i);
  greatest = λ n all. c.greatest n (λ e l h k. all e h k);
  made = c.made;
}

-- ---- a set with no degree
pub nothing_built : (P : ℕ → Type 0) (s : List Bool) → length s ≡ MAX_DEGREE + 1 → ((d : ℕ) → Holds s d → ⊥) → BuiltBelow P s 1
nothing_built P s count none = record {
  count = count;
  above_zero = none 0;
  below = λ d l m. absurd (omega arith);
  rest = λ d l. none d;
}

pub replicate_holds_nothing : (n d : ℕ) → Holds (replicate n false) d → ⊥
replicate_holds_nothing n d h = ⊎_elim
    (λ l. false_is_no (subst IsTrue (get_or-replicate n d false false l) h))
    (λ l. past_holds (replicate n false) d (omega (arith, length-replicate {A = Bool} n false)) h)
    (cases_lt d n)

-- ---- a set made from a list
pub set_more : (s : List Bool) (d : ℕ) → 0 < d → d ≤ MAX_DEGREE → IsDegreeSet s → IsDegreeSet (slice_set s d true)
set_more s d l m w = record {
  count = length-set s d true ∙ w.count;
  above_zero = λ h. w.above_zero (subst IsTrue (get_or-set_other s d 0 true false (omega arith)) h);
}

pub set_holds : (s : List Bool) (d e : ℕ) → Holds s e ⊎ (e ≡ d) → d < length s → Holds (slice_set s d true) e
set_holds s d e h l = ⊎_elim
    (λ same. subst IsTrue (sym (ap (λ k. slice_index_or (slice_set s d true) k false) same ∙ get_or-set_same s d true false l)) refl)
    (λ n. ⊎_elim
    (λ k. subst IsTrue (sym (get_or-set_other s d e true false n)) k)
    (λ k. absurd (n k))
    h)
    (cases_eq e d)

pub set_held : (s : List Bool) (d e : ℕ) → Holds (slice_set s d true) e → Holds s e ⊎ (e ≡ d)
set_held s d e h = ⊎_elim
    (λ same. inr same)
    (λ n. inl (subst IsTrue (get_or-set_other s d e true false n) h))
    (cases_eq e d)
