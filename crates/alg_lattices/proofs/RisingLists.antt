-- Rising lists of numbers: of what can be told of each number there is one, and it is the only one.
--     Listed P n                 the rising list of the numbers below n with the property P
use Rattle.std.proofs.Common.{◌≡◌, ◌↔◌, ◌⊎◌, ℕ, zero, suc, ◌<◌, List, [], ◌∷◌, ◌++◌, refl, sym, ap₂, subst, inl, inr, ⊎_elim, arith}
use Rattle.std.specs.List.{Contains}
use Rattle.alg_lattices.specs.Filling.{IsRising}
use Rattle.std.proofs.lemmas.Bool.{cases_lt}
use Rattle.std.proofs.lemmas.List.Elements.{Contains-append_right, Contains-append_left, Contains-push, Contains-push_cases, Contains-get_or}
use Rattle.std.proofs.lemmas.List.Quantifiers.{all_pairs_push}

-- the first of a rising list is below all others
head_below : (x : ℕ) (xs : List ℕ) → IsRising (x ∷ xs) → (d : ℕ) → Contains xs d → x < d
head_below x xs r d (k, h, e) = subst (λ z. x < z) e (r 0 (suc k) d (omega arith) (omega arith))

tail_rising : (x : ℕ) (xs : List ℕ) → IsRising (x ∷ xs) → IsRising xs
tail_rising x xs r = λ i j d h k. r (suc i) (suc j) d (omega arith) (omega arith)

of_cons : (x : ℕ) (xs : List ℕ) (d : ℕ) → Contains (x ∷ xs) d → (x ≡ d) ⊎ Contains xs d
of_cons x xs d (zero, h, e) = inl e
of_cons x xs d (suc k, h, e) = inr (k, omega arith, e)

head_in : (x : ℕ) (xs : List ℕ) → Contains (x ∷ xs) x
head_in x xs = (0, omega arith, refl)

-- **two rising lists of the same numbers are equal**
pub rising_one : (xs ys : List ℕ) → IsRising xs → IsRising ys
    → ((d : ℕ) → Contains xs d ↔ Contains ys d) → xs ≡ ys
rising_one [] [] r s same = refl
rising_one [] (y ∷ ys) r s same = let (k, h, e) = (same y).1 (head_in y ys) in absurd (omega arith)
rising_one (x ∷ xs) [] r s same = let (k, h, e) = (same x).0 (head_in x xs) in absurd (omega arith)
rising_one (x ∷ xs) (y ∷ ys) r s same = ap₂ ◌∷◌ heads
    (rising_one xs ys (tail_rising x xs r) (tail_rising y ys s) (λ d. (tail xs ys heads r (same d).0, tail ys xs (sym heads) s (same d).1)))
  where
    heads : x ≡ y
    heads = ⊎_elim (λ e. sym e)
        (λ h. ⊎_elim (λ e. e)
        (λ k. let a = head_below y ys s x h in let b = head_below x xs r y k in absurd (omega arith))
        (of_cons x xs y ((same y).1 (head_in y ys))))
        (of_cons y ys x ((same x).0 (head_in x xs)))

    tail : {a b d : ℕ} (us vs : List ℕ) → a ≡ b → IsRising (a ∷ us)
        → (Contains (a ∷ us) d → Contains (b ∷ vs) d) → Contains us d → Contains vs d
    tail {a} {b} {d} us vs e q f c = ⊎_elim
        (λ g. let l = head_below a us q d c in absurd (omega arith))
        (λ g. g)
        (of_cons b vs d (f (Contains-append_right (a ∷ []) us d c)))

pub record Listed (P : ℕ → Type 0) (n : ℕ) : Type 0 where
  pub list : List ℕ
  pub rising : IsRising list
  pub below : {d : ℕ} → Contains list d → d < n
  pub holds : {d : ℕ} → Contains list d → P d
  pub all : {d : ℕ} → d < n → P d → Contains list d

-- the numbers below n with a property that can be told
pub listed : (P : ℕ → Type 0) → ((d : ℕ) → P d ⊎ ¬ P d) → (n : ℕ) → Listed P n
listed P told zero = record {
  list = [];
  rising = λ i j d h k. absurd (omega arith);
  below = λ (k, h, e). absurd (omega arith);
  holds = λ (k, h, e). absurd (omega arith);
  all = λ h p. absurd (omega arith);
}
listed P told (suc n) = next (listed P told n) (told n)
  where
    last_or_below : {d : ℕ} → d < suc n → (n ≡ d) ⊎ (d < n)
    last_or_below {d} h = ⊎_elim (λ k. inr k) (λ k. inl (omega arith)) (cases_lt d n)

    next : Listed P n → P n ⊎ ¬ P n → Listed P (suc n)
    next l (inl p) = record {
      list = l.list ++ n ∷ [];
      rising = all_pairs_push (λ a b. a < b) l.list n l.rising (λ k d h. l.below (Contains-get_or l.list k d h));
      below = λ {d} c. ⊎_elim (λ h. let a = l.below h in omega arith) (λ e. omega arith) (Contains-push_cases l.list n d c);
      holds = λ {d} c. ⊎_elim (λ h. l.holds h) (λ e. subst P e p) (Contains-push_cases l.list n d c);
      all = λ {d} h q. ⊎_elim
          (λ e. subst (λ z. Contains (l.list ++ n ∷ []) z) e (Contains-push l.list n))
          (λ k. Contains-append_left l.list (n ∷ []) d (l.all k q))
          (last_or_below h);
    }
    next l (inr none) = record {
      list = l.list;
      rising = l.rising;
      below = λ c. let a = l.below c in omega arith;
      holds = λ c. l.holds c;
      all = λ {d} h q. ⊎_elim (λ e. absurd (none (subst P (sym e) q))) (λ k. l.all k q) (last_or_below h);
    }
