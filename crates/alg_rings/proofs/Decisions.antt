-- What can be told: the least number below a bound with a property that can be told, whether one
-- number divides another, whether lists are equal.
--     Least P n     the least number below n with the property P
use Rattle.std.proofs.Common.{◌≡◌, refl, ◌⊎◌, ℕ, zero, suc, ◌%◌, ◌<◌, subst, inl, inr, ⊎_elim, arith, List, [], ◌∷◌, ap₂}
use Rattle.std.proofs.lemmas.Bool.{cases_eq}
use Rattle.std.proofs.lemmas.Nat.Gcd.{dvd_of_mod-eq-zero, mod-eq-zero_of_dvd}
use Prim.Native.Nat.{◌∣◌}

-- a number divides another or not
pub divides_or_not : (d n : ℕ) → (d ∣ n) ⊎ ¬ (d ∣ n)
divides_or_not d n = ⊎_elim
    (λ e. inl (dvd_of_mod-eq-zero d e))
    (λ n. inr (λ h. n (mod-eq-zero_of_dvd d h)))
    (cases_eq (n % d) 0)

-- what can be told of two things can be told of both at once
pub both_or_not : {P Q : Type 0} → P ⊎ ¬ P → Q ⊎ ¬ Q → (P × Q) ⊎ ¬ (P × Q)
both_or_not a b = ⊎_elim (λ p. ⊎_elim (λ q. inl (p, q)) (λ n. inr (λ h. n h.1)) b) (λ n. inr (λ h. n h.0)) a

-- and so can that a thing fails
pub fails_or_not : {P : Type 0} → P ⊎ ¬ P → ¬ P ⊎ ¬ ¬ P
fails_or_not told = ⊎_elim (λ p. inr (λ fails. fails p)) (λ fails. inl fails) told

-- the least number below n with a property
pub record Least (P : ℕ → Type 0) (n : ℕ) : Type 0 where
  pub number : ℕ
  pub below : number < n
  pub holds : P number
  pub least : (i : ℕ) → i < number → P i → ⊥

-- what can be told of each number below n is true of a least one, or of none
pub search_below : (P : ℕ → Type 0) (n : ℕ) → ((i : ℕ) → i < n → P i ⊎ ¬ P i)
    → Least P n ⊎ ((i : ℕ) → i < n → P i → ⊥)
search_below P zero told = inr (λ i h k. omega arith)
search_below P (suc n) told = ⊎_elim
    (λ (l : Least P n). inl (record { number = l.number; below = let a = l.below in omega arith; holds = l.holds; least = l.least }))
    (λ none. ⊎_elim
    (λ k. inl (record { number = n; below = omega arith; holds = k; least = none }))
    (λ not. inr (λ i h k. ⊎_elim (λ e. not (subst P e k)) (λ e. none i (omega arith) k) (cases_eq i n)))
    (told n (omega arith)))
    (search_below P n (λ i h. told i (omega arith)))

-- what can be told of each number below n can be told of all of them at once
pub all_or_not : (P : ℕ → Type 0) (n : ℕ) → ((i : ℕ) → i < n → P i ⊎ ¬ P i)
    → ((i : ℕ) → i < n → P i) ⊎ ¬ ((i : ℕ) → i < n → P i)
all_or_not P n told = ⊎_elim
    (λ (l : Least (λ i. ¬ P i) n). inr (λ all. l.holds (all l.number l.below)))
    (λ none. inl (λ i h. ⊎_elim (λ p. p) (λ fails. absurd (none i h fails)) (told i h)))
    (search_below (λ i. ¬ P i) n (λ i h. fails_or_not (told i h)))

-- lists are equal or not where their elements are
pub lists_equal_or_not : {A : Type 0} → ((x y : A) → (x ≡ y) ⊎ ¬ (x ≡ y)) → (xs ys : List A)
    → (xs ≡ ys) ⊎ ¬ (xs ≡ ys)
lists_equal_or_not told [] [] = inl refl
lists_equal_or_not told [] (y ∷ ys) = inr (λ e. cc)
lists_equal_or_not told (x ∷ xs) [] = inr (λ e. cc)
lists_equal_or_not told (x ∷ xs) (y ∷ ys) = ⊎_elim
    (λ (e, f). inl (ap₂ ◌∷◌ e f))
    (λ apart. inr (λ e. let f : x ≡ y = cc in let g : xs ≡ ys = cc in apart (f, g)))
    (both_or_not (told x y) (lists_equal_or_not told xs ys))
