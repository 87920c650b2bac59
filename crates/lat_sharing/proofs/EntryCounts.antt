-- How many entries a history has of each number.
--     sum_below f m           the sum of f over the numbers below m
--     fewer_below             it is smaller where one term is, and none is greater
--     entries_counted         where only numbers below m have entries, these are all
--     own_count               the entries of a number, with or without their places, are as many
use Rattle.std.proofs.Common.{◌≡◌, ℕ, zero, suc, ◌+◌, ◌<◌, ◌≤◌, Bool, true, false, cond, List, [], ◌∷◌, length, refl, sym, ap, ap₂, ◌∙◌, arith, inl, inr}
use Rattle.std.specs.Prelude.{◌==◌, if◌then◌else◌}
use Rattle.std.proofs.lemmas.List.{nil_from_length}
use Rattle.std.proofs.lemmas.Bool.{cases_lt, eq-eqb, ne_eqb}
use Rattle.lat_core.specs.declared.replies.Entry.{Entry}
use Rattle.lat_core.specs.Histories.{entries_of}
use Rattle.lat_playing.specs.Theorems.{own_entries_from}

-- ---- sums over the numbers below a bound
abbrev pub sum_below : (ℕ → ℕ) → ℕ → ℕ
sum_below f zero = 0
sum_below f (suc m) = f 0 + sum_below (λ n. f (suc n)) m

pub same_sums : (f g : ℕ → ℕ) (m : ℕ) → ((n : ℕ) → f n ≡ g n) → sum_below f m ≡ sum_below g m
same_sums f g zero same = refl
same_sums f g (suc m) same =
    ap₂ ◌+◌ (same 0) (same_sums (λ n. f (suc n)) (λ n. g (suc n)) m (λ n. same (suc n)))

-- nothing at each number
no_sum : (f : ℕ → ℕ) (m : ℕ) → ((n : ℕ) → f n ≡ 0) → sum_below f m ≡ 0
no_sum f zero none = refl
no_sum f (suc m) none =
    let later = no_sum (λ n. f (suc n)) m (λ n. none (suc n)) in
    omega (arith, none 0, later)

-- one more at one number
one_more : (f g : ℕ → ℕ) (m j : ℕ) → j < m → f j ≡ 1 + g j
    → ((n : ℕ) → (n ≡ j → ⊥) → f n ≡ g n) → sum_below f m ≡ 1 + sum_below g m
one_more f g zero j within more same = absurd (omega (arith, within))
one_more f g (suc m) zero within more same =
    let later = same_sums (λ n. f (suc n)) (λ n. g (suc n)) m (λ n. same (suc n) (λ e. omega (arith, e))) in
    omega (arith, more, later)
one_more f g (suc m) (suc j) within more same =
    let first = same 0 (λ e. omega (arith, e)) in
    let later = one_more (λ n. f (suc n)) (λ n. g (suc n)) m j (omega (arith, within)) more (λ n other. same (suc n) (λ e. other (omega (arith, e)))) in
    omega (arith, first, later)

-- no more at each number
sums_within : (f g : ℕ → ℕ) (m : ℕ) → ((n : ℕ) → n < m → f n ≤ g n)
    → sum_below f m ≤ sum_below g m
sums_within f g zero within = omega arith
sums_within f g (suc m) within =
    let first = within 0 (omega arith) in
    let later = sums_within (λ n. f (suc n)) (λ n. g (suc n)) m (λ n l. within (suc n) (omega (arith, l))) in
    omega (arith, first, later)

-- **and fewer at one**
pub fewer_below : (f g : ℕ → ℕ) (m j : ℕ) → j < m → ((n : ℕ) → n < m → f n ≤ g n) → f j < g j
    → sum_below f m < sum_below g m
fewer_below f g zero j inside within fewer = absurd (omega (arith, inside))
fewer_below f g (suc m) zero inside within fewer =
    let later = sums_within (λ n. f (suc n)) (λ n. g (suc n)) m (λ n l. within (suc n) (omega (arith, l))) in
    omega (arith, fewer, later)
fewer_below f g (suc m) (suc j) inside within fewer =
    let first = within 0 (omega arith) in
    let later = fewer_below (λ n. f (suc n)) (λ n. g (suc n)) m j (omega (arith, inside)) (λ n l. within (suc n) (omega (arith, l))) fewer in
    omega (arith, first, later)

-- ---- entries
count_here : (n : ℕ) (e : Entry) (entries : List Entry) → e.session ≡ n
    → length (entries_of n (e ∷ entries)) ≡ 1 + length (entries_of n entries)
count_here n e entries same =
    ap (λ b. length (cond b (e ∷ entries_of n entries) (entries_of n entries))) (eq-eqb e.session n same)
    ∙ omega arith

count_there : (n : ℕ) (e : Entry) (entries : List Entry) → (e.session ≡ n → ⊥)
    → length (entries_of n (e ∷ entries)) ≡ length (entries_of n entries)
count_there n e entries other =
    ap (λ b. length (cond b (e ∷ entries_of n entries) (entries_of n entries))) (ne_eqb e.session n other)

-- **where each number from m on has none, the numbers below m have all entries**
pub entries_counted : (m : ℕ) (entries : List Entry)
    → ((n : ℕ) → m ≤ n → entries_of n entries ≡ [])
    → length entries ≡ sum_below (λ n. length (entries_of n entries)) m
entries_counted m [] none = sym (no_sum (λ n. length (entries_of n [])) m (λ n. refl))
entries_counted m (e ∷ entries) none =
    let within : e.session < m = elim (cases_lt e.session m) [
      | inl low ↦ low
      | inr past ↦
          let none_here : length (entries_of e.session (e ∷ entries)) ≡ 0 = ap length (none e.session past) in
          absurd (omega (arith, none_here, count_here e.session e entries refl))
    ] in
    let later = entries_counted m entries (λ n past.
    let none_here : length (entries_of n (e ∷ entries)) ≡ 0 = ap length (none n past) in
    let other : e.session ≡ n → ⊥ = λ same. omega (arith, same, within, past) in
    nil_from_length (entries_of n entries) (sym (count_there n e entries other) ∙ none_here)) in
    let more = one_more (λ n. length (entries_of n (e ∷ entries))) (λ n. length (entries_of n entries)) m e.session within
    (count_here e.session e entries refl) (λ n other. count_there n e entries (λ same. other (sym same))) in
    omega (arith, later, more)

-- **the entries of a number, with their places, are as many**
pub own_count : (n place : ℕ) (entries : List Entry)
    → length (own_entries_from n place entries) ≡ length (entries_of n entries)
own_count n place [] = refl
own_count n place (e ∷ entries) =
    by_test (e.session == n) (own_count n (suc place) entries)
  where
    by_test : (b : Bool)
        → length (own_entries_from n (suc place) entries) ≡ length (entries_of n entries)
        → length (if b then (place, e.reply) ∷ own_entries_from n (suc place) entries
        else own_entries_from n (suc place) entries)
        ≡ length (cond b (e ∷ entries_of n entries) (entries_of n entries))
    by_test true same = ap suc same
    by_test false same = same
