-- Sums f 0 + .. + f (n - 1) of plain numbers, and numbers that agree modulo p.
use Rattle.std.proofs.Common.{◌≡◌, ◌≢◌, ℕ, zero, suc, ◌+◌, ◌*◌, ◌%◌, ◌<◌, ◌≤◌, refl, ap, ap₂, sym, ◌∙◌, arith, ⊎_elim}
use Rattle.std.proofs.lemmas.Bool.{cases_eq}
use Rattle.std.proofs.lemmas.Nat.{mul-mod_second}
use native.Mathlib.Nat.{mod-add-mod, add-mod-mod, add-zero, zero-add, add_assoc}
use Rattle.ff_residues.specs.SumRows.{sum_below}

-- sums of numbers that agree modulo p agree
pub add_agree : (p a b c d : ℕ) → a % p ≡ c % p → b % p ≡ d % p → (a + b) % p ≡ (c + d) % p
add_agree p a b c d e h =
    sym (mod-add-mod a p b) ∙ ap (λ w. (w + b) % p) e ∙ mod-add-mod c p b
    ∙ sym (add-mod-mod c b p) ∙ ap (λ w. (c + w) % p) h ∙ add-mod-mod c d p

-- and multiples
pub mul_agree : (p a b d : ℕ) → b % p ≡ d % p → (a * b) % p ≡ (a * d) % p
mul_agree p a b d h = sym (mul-mod_second a b p) ∙ ap (λ w. (a * w) % p) h ∙ mul-mod_second a d p

-- sums of members that are equal
pub sum_same : (n : ℕ) (f g : ℕ → ℕ) → ((i : ℕ) → i < n → f i ≡ g i) → sum_below n f ≡ sum_below n g
sum_same zero f g h = refl
sum_same (suc n) f g h = ap₂ ◌+◌ (sum_same n f g (λ i l. h i (omega arith))) (h n (omega arith))

-- of members that agree modulo p
pub sum_agree : (p n : ℕ) (f g : ℕ → ℕ) → ((i : ℕ) → i < n → f i % p ≡ g i % p)
    → sum_below n f % p ≡ sum_below n g % p
sum_agree p zero f g h = refl
sum_agree p (suc n) f g h =
    add_agree p (sum_below n f) (f n) (sum_below n g) (g n)
    (sum_agree p n f g (λ i l. h i (omega arith))) (h n (omega arith))

-- of zeros
pub sum_zero : (n : ℕ) (f : ℕ → ℕ) → ((i : ℕ) → i < n → f i ≡ 0) → sum_below n f ≡ 0
sum_zero zero f h = refl
sum_zero (suc n) f h = ap₂ ◌+◌ (sum_zero n f (λ i l. h i (omega arith))) (h n (omega arith))

-- the first member apart
pub sum_first : (n : ℕ) (f : ℕ → ℕ) → sum_below (suc n) f ≡ f 0 + sum_below n (λ i. f (suc i))
sum_first zero f = zero-add (f 0) ∙ sym (add-zero (f 0))
sum_first (suc n) f = ap (λ w. w + f (suc n)) (sum_first n f)
    ∙ add_assoc (f 0) (sum_below n (λ i. f (suc i))) (f (suc n))

-- the first m members and the others
pub sum_split : (m n : ℕ) (f : ℕ → ℕ) → sum_below (m + n) f ≡ sum_below m f + sum_below n (λ i. f (m + i))
sum_split m zero f = ap (λ w. sum_below w f) (add-zero m) ∙ sym (add-zero (sum_below m f))
sum_split m (suc n) f =
    let next : m + suc n ≡ suc (m + n) = omega arith in
    ap (λ w. sum_below w f) next ∙ ap (λ w. w + f (m + n)) (sum_split m n f)
    ∙ add_assoc (sum_below m f) (sum_below n (λ i. f (m + i))) (f (m + n))

-- members that are zero from m on
pub sum_cut : (m n : ℕ) (f : ℕ → ℕ) → ((i : ℕ) → m ≤ i → f i ≡ 0) → sum_below (m + n) f ≡ sum_below m f
sum_cut m n f h = sum_split m n f
    ∙ ap (λ w. sum_below m f + w) (sum_zero n (λ i. f (m + i)) (λ i l. h (m + i) (omega arith)))
    ∙ add-zero (sum_below m f)

-- members that are zero but for one
pub sum_single : (n k : ℕ) (f : ℕ → ℕ) → k < n → ((i : ℕ) → i ≢ k → i < n → f i ≡ 0) → sum_below n f ≡ f k
sum_single zero k f l h = absurd (omega arith)
sum_single (suc n) k f l h = ⊎_elim
    (λ e. ap₂ ◌+◌ (sum_zero n f (λ i m. h i (omega arith) (omega arith))) (ap f (sym e)) ∙ zero-add (f k))
    (λ d. ap₂ ◌+◌ (sum_single n k f (omega arith) (λ i e m. h i e (omega arith))) (h n (λ e. d (sym e)) (omega arith)) ∙ add-zero (f k))
    (cases_eq k n)

-- sums of sums
pub sum_both : (n : ℕ) (f g : ℕ → ℕ) → sum_below n (λ i. f i + g i) ≡ sum_below n f + sum_below n g
sum_both zero f g = refl
sum_both (suc n) f g = ap (λ w. w + (f n + g n)) (sum_both n f g)
    ∙ swap (sum_below n f) (sum_below n g) (f n) (g n)
  where
    swap : (a b c d : ℕ) → a + b + (c + d) ≡ a + c + (b + d)
    swap a b c d = omega arith
