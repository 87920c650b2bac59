-- What is decided: the first of which a statement holds, among numbers, pairs or triples, or that
-- it holds of none; and statements on all or on some of a list.
--     Decided P              P holds, or it fails
--     FirstOrNone cmp P      the first of which P holds, or that there is none
use Rattle.std.proofs.Common.{◌≡◌, ℕ, ◌<◌, List, [], ◌∷◌, length, sym, ◌∙◌, subst, inl, inr, ⊎_elim, Ordering, Less, nat_cmp}
use Rattle.std.specs.Prelude.{◌⊎◌, All, Contains, slice_index_or}
use Rattle.std.specs.Cmp.{ranked}
use Rattle.std.proofs.lemmas.List.{get_or_default}
use Rattle.std.proofs.lemmas.List.Elements.{All-head, All-tail, All-cons, All-nil}
use Rattle.alg_model.specs.Lattices.{pair_cmp}
use Rattle.alg_rings.proofs.Decisions.{Least, search_below}
use Rattle.lat_language.specs.PrivateDecisions.{Decided}
use Rattle.lat_audit.specs.Verdicts.{IsFirst, None, Triple, triple_cmp}
use Rattle.lat_audit.proofs.StoredMaps.{pair_before}
use Rattle.lat_audit.proofs.RuleOrders.{triple_before}

-- ---- statements
-- what means the same is decided as well
pub told_as : {P Q : Type 0} → (P → Q) → (Q → P) → Decided P → Decided Q
told_as f g (inl p) = inl (f p)
told_as f g (inr fails) = inr (λ q. fails (g q))

pub both_told : {P Q : Type 0} → Decided P → Decided Q → Decided (P × Q)
both_told (inl p) (inl q) = inl (p, q)
both_told (inl p) (inr q) = inr (λ h. q h.1)
both_told (inr p) q = inr (λ h. p h.0)

pub either_told : {P Q : Type 0} → Decided P → Decided Q → Decided (P ⊎ Q)
either_told (inl p) q = inl (inl p)
either_told (inr p) (inl q) = inl (inr q)
either_told (inr p) (inr q) = inr (λ h. ⊎_elim p q h)

pub fails_told : {P : Type 0} → Decided P → Decided (¬ P)
fails_told (inl p) = inr (λ fails. fails p)
fails_told (inr fails) = inl fails

-- what doesn't fail holds
pub holds_told : {P : Type 0} → Decided P → ¬ ¬ P → P
holds_told (inl p) not = p
holds_told (inr fails) not = absurd (not fails)

-- of the one thing that there is of a kind a further statement is decided
pub found_then : {A : Type 0} (E Q : A → Type 0) → ((a b : A) → E a → E b → a ≡ b)
    → ((a : A) → E a → Decided (Q a)) → Decided ((a : A) × E a)
    → Decided ((a : A) × E a × Q a)
found_then E Q one told (inr none) = inr (λ h. none (h.0, h.1))
found_then {A} E Q one told (inl (a, e)) = further (told a e) where
  further : Decided (Q a) → Decided ((a : A) × E a × Q a)
  further (inl q) = inl (a, e, q)
  further (inr fails) = inr (λ h. fails (subst Q (one h.0 a h.1 e) h.2))

-- ---- lists
pub all_told : {A : Type 0} (P : A → Type 0) → ((a : A) → Decided (P a)) → (xs : List A)
    → Decided (All P xs)
all_told P told [] = inl (All-nil P)
all_told P told (x ∷ xs) = told_as
    (λ h. All-cons P x xs h.0 h.1)
    (λ all. (All-head P x xs all, All-tail P x xs all))
    (both_told (told x) (all_told P told xs))

-- ---- numbers
-- a number below a bound
pub some_below : (P : ℕ → Type 0) (n : ℕ) → ((i : ℕ) → i < n → Decided (P i))
    → Decided ((i : ℕ) × (i < n) × P i)
some_below P n told = ⊎_elim
    (λ (l : Least P n). inl (l.number, l.below, l.holds))
    (λ none. inr (λ h. none h.0 h.1 h.2))
    (search_below P n told)

-- a member of a list, where one stands past its end
pub some_member : {A : Type 0} (P : A → Type 0) → ((a : A) → Decided (P a)) → (past : A) (xs : List A)
    → Decided ((a : A) × Contains xs a × P a)
some_member P told past xs = told_as
    (λ h. (slice_index_or xs h.0 past, (h.0, h.1, get_or_default xs h.0 (slice_index_or xs h.0 past) past h.1), h.2))
    (λ h. let (a, (k, l, e), p) = h in (k, l, subst P (sym e ∙ get_or_default xs k a past l) p))
    (some_below (λ k. P (slice_index_or xs k past)) (length xs) (λ k l. told (slice_index_or xs k past)))

abbrev pub FirstOrNone : {A : Type 0} → (A → A → Ordering) → (A → Type 0) → Type 0
FirstOrNone {A} cmp P = ((a : A) × IsFirst cmp P a) ⊎ None P

pub number_or_none : (P : ℕ → Type 0) (n : ℕ) → ((i : ℕ) → P i → i < n)
    → ((i : ℕ) → i < n → Decided (P i)) → FirstOrNone nat_cmp P
number_or_none P n within told = ⊎_elim
    (λ (l : Least P n). inl (l.number, (l.holds, λ b less. l.least b (ranked b l.number Less (sym less)))))
    (λ none. inr (λ i p. none i (within i p) p))
    (search_below P n told)

-- ---- pairs
module _ (P : ℕ × ℕ → Type 0) (n : ℕ) (within : (i j : ℕ) → P (i, j) → (i < n) × (j < n))
    (told : (i j : ℕ) → i < n → j < n → Decided (P (i, j))) where
  -- the first second number beside a first one
  Second : ℕ → Type 0
  Second i = Least (λ j. P (i, j)) n

  second_or_none : (i : ℕ) → i < n → Decided (Second i)
  unfolding Second
  second_or_none i l = ⊎_elim
      (λ s. inl s)
      (λ none. inr (λ s. none s.number s.below s.holds))
      (search_below (λ j. P (i, j)) n (λ j k. told i j l k))

  second_of : (i j : ℕ) → P (i, j) → Second i
  unfolding Second
  second_of i j p = let w = within i j p in ⊎_elim
      (λ s. s)
      (λ none. absurd (none j w.1 p))
      (search_below (λ j. P (i, j)) n (λ j k. told i j w.0 k))

  pub pair_or_none : FirstOrNone pair_cmp P
  unfolding Second
  pair_or_none = ⊎_elim
      (λ (l : Least Second n). inl (
        (l.number, l.holds.number),
        (
          l.holds.holds,
          λ q less p. ⊎_elim
              (λ before. l.least q.0 before (second_of q.0 q.1 p))
              (λ (e, before). l.holds.least q.1 before (subst (λ i. P (i, q.1)) e p))
              (pair_before q (l.number, l.holds.number) less),
        ),
      ))
      (λ none. inr (λ q p. none q.0 (within q.0 q.1 p).0 (second_of q.0 q.1 p)))
      (search_below Second n second_or_none)

-- ---- triples
module _ (P : Triple → Type 0) (n : ℕ)
    (within : (i j k : ℕ) → P (i, j, k) → (i < n) × (j < n) × (k < n))
    (told : (i j k : ℕ) → i < n → j < n → k < n → Decided (P (i, j, k))) where
  -- the first pair behind a first number
  Rest : ℕ → Type 0
  Rest i = (q : ℕ × ℕ) × IsFirst pair_cmp (λ q. P (i, q.0, q.1)) q

  rest_or_none : (i : ℕ) → i < n → FirstOrNone pair_cmp (λ q. P (i, q.0, q.1))
  rest_or_none i l = pair_or_none (λ q. P (i, q.0, q.1)) n
      (λ j k p. let w = within i j k p in (w.1, w.2)) (λ j k. told i j k l)

  rest_told : (i : ℕ) → i < n → Decided (Rest i)
  unfolding Rest
  rest_told i l = ⊎_elim (λ r. inl r) (λ none. inr (λ r. none r.0 r.1.0)) (rest_or_none i l)

  rest_of : (i j k : ℕ) → P (i, j, k) → Rest i
  unfolding Rest
  rest_of i j k p = ⊎_elim
      (λ r. r)
      (λ none. absurd (none (j, k) p))
      (rest_or_none i (within i j k p).0)

  pub triple_or_none : FirstOrNone triple_cmp P
  unfolding Rest
  triple_or_none = ⊎_elim
      (λ (l : Least Rest n).
      let q = l.holds.0 in
      inl (
        (l.number, q.0, q.1),
        (
          l.holds.1.0,
          λ t less p. ⊎_elim
              (λ before. l.least t.0 before (rest_of t.0 t.1 t.2 p))
              (λ (e, before). l.holds.1.1 (t.1, t.2) before (subst (λ i. P (i, t.1, t.2)) e p))
              (triple_before t (l.number, q.0, q.1) less),
        ),
      ))
      (λ none. inr (λ t p. none t.0 (within t.0 t.1 t.2 p).0 (rest_of t.0 t.1 t.2 p)))
      (search_below Rest n rest_told)
