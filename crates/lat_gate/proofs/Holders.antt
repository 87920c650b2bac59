-- How often a number stands in the views, as views change.
use Rattle.std.proofs.Common.{◌≡◌, ◌≢◌, ◌⊎◌, ℕ, zero, suc, ◌+◌, ◌-◌, ◌<◌, ◌≤◌, eqb, eq-eqb, ne_eqb, cond, List, [], ◌∷◌, ◌++◌, length, get_or, set, take, drop, sym, refl, ap, ◌∙◌, inl, inr, ⊎_elim, arith}
use Rattle.std.specs.Prelude.{Contains}
use Rattle.std.specs.List.{sum_by}
use Rattle.std.proofs.lemmas.List.Sums.{sum_by-cons, sum_by-append, sum_by_push, sum_by-take-drop, get_or-le-sum_by}
use mathlib.Core.Logic.{dite}
use native.Mathlib.Decide.{ℕ_discrete}
use mathlib.Core.Option.{some, some-injective, some-ne-none}
use lib.ListN.{get_elem?}
use Rattle.lat_gate.specs.Rule.{Own, times, holders, numbered, Sits}
use Rattle.lat_gate.specs.declared.view.View.{View}

module _ {A : Type 0} where
  contains_later : (x y : A) (l : List A) (k : ℕ) → k < length (y ∷ l) → get_or (y ∷ l) k x ≡ x
      → (y ≡ x) ⊎ Contains l x
  contains_later x y l zero h e = inl e
  contains_later x y l (suc k) h e = inr (k, omega arith, e)

  -- what a list contains is its head or in its tail
  pub contains_cases : (x y : A) (l : List A) → Contains (y ∷ l) x → (y ≡ x) ⊎ Contains l x
  contains_cases x y l c = contains_later x y l c.0 c.1 c.2

  -- a list contains its head
  pub contains_head : (x : A) (l : List A) → Contains (x ∷ l) x
  contains_head x l = (0, omega arith, refl)

  -- a list contains what its tail contains
  pub contains_tail : (x y : A) (l : List A) → Contains l x → Contains (y ∷ l) x
  contains_tail x y l c = (suc c.0, let h = c.1 in omega arith, c.2)

  -- the empty list contains nothing
  pub contains_none : (x : A) → Contains [] x → ⊥
  contains_none x c = let h = c.1 in omega arith

  -- a list of one element contains that alone
  pub contains_only : (x y : A) → Contains (y ∷ []) x → y ≡ x
  contains_only x y c = ⊎_elim (λ (e : y ≡ x). e)
      (λ (none : Contains [] x). absurd (contains_none x none)) (contains_cases x y [] c)

  -- what is set at a place that there is, stands there
  pub get_here : (l : List A) (i : ℕ) (a b : A) → get_elem? l i ≡ some a
      → get_elem? (set l i b) i ≡ some b
  get_here [] i a b e = absurd (some-ne-none a (sym e))
  get_here (x ∷ xs) zero a b e = refl
  get_here (x ∷ xs) (suc i) a b e = get_here xs i a b e

  module _ (f : A → ℕ) where
    sum_by_set : (l : List A) (i : ℕ) (v w : A) → get_elem? l i ≡ some v
        → sum_by f (set l i w) + f v ≡ sum_by f l + f w
    sum_by_set [] i v w e = absurd (some-ne-none v (sym e))
    sum_by_set (x ∷ xs) zero v w e = omega (arith, ap f (some-injective x v e), sum_by-cons f x xs, sum_by-cons f w xs)
    sum_by_set (x ∷ xs) (suc i) v w e =
        omega (arith, sum_by_set xs i v w e, sum_by-cons f x xs, sum_by-cons f x (set xs i w))

    term_le : (l : List A) (i : ℕ) (v : A) → get_elem? l i ≡ some v → f v ≤ sum_by f l
    term_le [] i v e = absurd (some-ne-none v (sym e))
    term_le (x ∷ xs) zero v e = omega (arith, ap f (some-injective x v e), sum_by-cons f x xs)
    term_le (x ∷ xs) (suc i) v e = omega (arith, term_le xs i v e, sum_by-cons f x xs)

    terms_le : (l : List A) (i j : ℕ) (v w : A) → j ≢ i → get_elem? l i ≡ some v
        → get_elem? l j ≡ some w → f v + f w ≤ sum_by f l
    terms_le [] i j v w ne e d = absurd (some-ne-none v (sym e))
    terms_le (x ∷ xs) zero zero v w ne e d = absurd (ne refl)
    terms_le (x ∷ xs) zero (suc j) v w ne e d =
        omega (arith, ap f (some-injective x v e), term_le xs j w d, sum_by-cons f x xs)
    terms_le (x ∷ xs) (suc i) zero v w ne e d =
        omega (arith, ap f (some-injective x w d), term_le xs i v e, sum_by-cons f x xs)
    terms_le (x ∷ xs) (suc i) (suc j) v w ne e d =
        omega (arith, terms_le xs i j v w (λ h. ne (ap suc h)) e d, sum_by-cons f x xs)

module _ {E : Type 0} where
  abbrev test : ℕ → ℕ × List E → ℕ
  test n o = cond (eqb o.0 n) 1 0

  test_same : (n : ℕ) (o : ℕ × List E) → o.0 ≡ n → test n o ≡ 1
  test_same n o e = ap (λ t. cond t 1 0) (eq-eqb o.0 n e)

  test_other : (n : ℕ) (o : ℕ × List E) → o.0 ≢ n → test n o ≡ 0
  test_other n o ne = ap (λ t. cond t 1 0) (ne_eqb o.0 n ne)

  times-cons : (n : ℕ) (o : ℕ × List E) (own : Own E) → times n (o ∷ own) ≡ test n o + times n own
  times-cons n o own = sum_by-cons (test n) o own

  -- a number stands in two lists as often as in both
  pub times-append : (n : ℕ) (a b : Own E) → times n (a ++ b) ≡ times n a + times n b
  times-append n a b = sum_by-append (test n) a b

  -- a number stands in a list as often as in its first element and in the others
  pub times_cut : (n : ℕ) (own : Own E) → times n (take 1 own) + times n (drop 1 own) ≡ times n own
  times_cut n own = sum_by-take-drop (test n) own 1

  -- a number that a list contains stands there
  pub times_some : (n : ℕ) (mine : List E) (own : Own E) → Contains own (n, mine) → 1 ≤ times n own
  times_some n mine own c = let o : ℕ × List E = (n, mine) in
      omega (arith, get_or-le-sum_by (test n) own c.0 o c.1, ap (test n) c.2, test_same n o refl)

  -- one view becomes another
  pub holders_set : (n : ℕ) (views : List (View E)) (i : ℕ) (v w : View E) → Sits views i v
      → holders n (set views i w) + times n v.own ≡ holders n views + times n w.own
  holders_set n views i v w e = sum_by_set (λ (u : View E). times n u.own) views i v w e

  -- there is one view more
  pub holders_push : (n : ℕ) (views : List (View E)) (w : View E)
      → holders n (views ++ w ∷ []) ≡ holders n views + times n w.own
  holders_push n views w = sum_by_push (λ (u : View E). times n u.own) views w

  -- what two views have, all views have
  pub two_holders : (n : ℕ) (views : List (View E)) (i j : ℕ) (v w : View E) → j ≢ i
      → Sits views i v → Sits views j w → times n v.own + times n w.own ≤ holders n views
  two_holders n views i j v w ne e d = terms_le (λ (u : View E). times n u.own) views i j v w ne e d

  -- what `numbered` contains is one of these numbers with no entries
  pub numbered_contains : (first count n : ℕ) (mine : List E)
      → Contains (numbered first count) (n, mine) → (first ≤ n) × (n < first + count) × (mine ≡ [])
  numbered_contains first zero n mine c = absurd (contains_none (n, mine) c)
  numbered_contains first (suc count) n mine c =
      let o : ℕ × List E = (n, mine) in let q : ℕ × List E = (first, []) in
      ⊎_elim
      (λ (e : q ≡ o). let is : first ≡ n = ap (λ (r : ℕ × List E). r.0) e in
      (omega arith, omega arith, sym (ap (λ (r : ℕ × List E). r.1) e)))
      (λ (later : Contains (numbered (suc first) count) o).
      let t = numbered_contains (suc first) count n mine later in let a = t.0 in let b = t.1 in
      (omega arith, omega arith, t.2))
      (contains_cases o q (numbered (suc first) count) c)

module _ (E : Type 0) where
  -- each number stands once in `numbered`, and those below the first don't
  times_numbered : (n first count : ℕ) → (n < first → times n (numbered {E = E} first count) ≡ 0)
      × (times n (numbered {E = E} first count) ≤ 1)
  times_numbered n first zero = ((λ _. refl), omega arith)
  times_numbered n first (suc count) =
      let o : ℕ × List E = (first, []) in let later = times_numbered n (suc first) count in
      let sum = times-cons {E = E} n o (numbered (suc first) count) in
      dite (ℕ_discrete first n)
      (λ (e : first ≡ n). let here = test_same n o e in let none = later.0 (omega arith) in
      ((λ h. absurd (omega arith)), omega arith))
      (λ (ne : first ≢ n). let here = test_other n o ne in
      ((λ h. let none = later.0 (omega arith) in omega arith), let once = later.1 in omega arith))

  -- each number stands once in `numbered`
  pub numbered_once : (n first count : ℕ) → times n (numbered {E = E} first count) ≤ 1
  numbered_once n first count = (times_numbered n first count).1

  -- the numbers that are left after i of them are the next one and those after it
  pub numbered_next : (i passes : ℕ) → i < passes
      → numbered {E = E} (i + 1) (passes - i)
      ≡ (i + 1, []) ∷ numbered (i + 1 + 1) (passes - (i + 1))
  numbered_next i passes h =
      let left : passes - i ≡ suc (passes - (i + 1)) = omega arith in
      let next : suc (i + 1) ≡ i + 1 + 1 = omega arith in
      ap (numbered {E = E} (i + 1)) left
      ∙ ap (λ (k : ℕ). (i + 1, []) ∷ numbered {E = E} k (passes - (i + 1))) next
