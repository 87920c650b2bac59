-- Residues as the digits of a number: the order of lists of one length is that of their numbers.
use Rattle.std.proofs.Common.{◌≡◌, ◌⊎◌, ⊎_elim, inl, inr, ℕ, zero, suc, ◌+◌, ◌-◌, ◌*◌, ◌^◌, ◌<◌, ◌≤◌, List, [], ◌∷◌, ◌++◌, length, slice_index, slice_set, All, refl, ap, ap₂, sym, ◌∙◌, subst, arith, pow-suc, Ordering, Less, Equal, Greater, nat_cmp}
use Rattle.std.specs.Cmp.{nat_cmp_is}
use Rattle.std.specs.Ordering.{ordering_then}
use Rattle.std.proofs.lemmas.Bool.{cases_lt, cases_eq}
use Rattle.std.proofs.lemmas.List.Elements.{All-head, All-tail}
use Rattle.std.proofs.Math.Nat.{mul-le-mul_left, pow-zero, mul_comm}
use Rattle.alg_model.specs.Factors.{order_by}
use Rattle.ff_factor.specs.PrivateCounting.{number}

-- what comes first decides over what comes after
pub digit_below : (p a b x y : ℕ) → x < p → a < b → x + p * a < y + p * b
digit_below p a b x y lx l =
    let h : p * (a + 1) ≤ p * b = mul-le-mul_left p (omega arith) in
    let e : p * (a + 1) ≡ p * a + p = grind arith in
    omega (arith, h, e)

less : (a b : ℕ) → a < b → nat_cmp a b ≡ Less
less a b l = sym (nat_cmp_is a b Less l)

greater : (a b : ℕ) → b < a → nat_cmp a b ≡ Greater
greater a b l = sym (nat_cmp_is a b Greater l)

equal : (a : ℕ) → nat_cmp a a ≡ Equal
equal a = sym (nat_cmp_is a a Equal refl)

first_digit : (p a x y : ℕ) → nat_cmp x y ≡ nat_cmp (x + p * a) (y + p * a)
first_digit p a x y = ⊎_elim
    (λ l. less x y l ∙ sym (less (x + p * a) (y + p * a) (omega arith)))
    (λ l. ⊎_elim
    (λ e. ap (λ t. nat_cmp x t) (sym e) ∙ equal x ∙ sym (equal (x + p * a)) ∙ ap (λ t. nat_cmp (x + p * a) (t + p * a)) e)
    (λ d. greater x y (omega arith) ∙ sym (greater (x + p * a) (y + p * a) (omega arith)))
    (cases_eq x y))
    (cases_lt x y)

digits_compared : (p a b x y : ℕ) → x < p → y < p
    → ordering_then (nat_cmp a b) (nat_cmp x y) ≡ nat_cmp (x + p * a) (y + p * b)
digits_compared p a b x y lx ly = ⊎_elim
    (λ l. ap (λ t. ordering_then t (nat_cmp x y)) (less a b l) ∙ sym (less (x + p * a) (y + p * b) (digit_below p a b x y lx l)))
    (λ l. ⊎_elim
    (λ e. ap (λ t. ordering_then t (nat_cmp x y)) (ap (λ t. nat_cmp a t) (sym e) ∙ equal a) ∙ first_digit p a x y
    ∙ ap (λ t. nat_cmp (x + p * a) (y + p * t)) e)
    (λ d. ap (λ t. ordering_then t (nat_cmp x y)) (greater a b (omega arith))
    ∙ sym (greater (x + p * a) (y + p * b) (digit_below p b a y x ly (omega arith))))
    (cases_eq a b))
    (cases_lt a b)

-- **the order of two lists of residues of one length is that of their numbers**
pub order_of_numbers : (p : ℕ) (xs ys : List ℕ) → length xs ≡ length ys → All (λ x. x < p) xs → All (λ x. x < p) ys
    → order_by nat_cmp xs ys ≡ nat_cmp (number p xs) (number p ys)
order_of_numbers p [] [] e v w = sym (equal 0)
order_of_numbers p [] (y ∷ ys) e v w = absurd (omega arith)
order_of_numbers p (x ∷ xs) [] e v w = absurd (omega arith)
order_of_numbers p (x ∷ xs) (y ∷ ys) e v w =
    ap (λ t. ordering_then t (nat_cmp x y))
    (order_of_numbers p xs ys (omega arith) (All-tail (λ x. x < p) x xs v) (All-tail (λ x. x < p) y ys w))
    ∙ digits_compared p (number p xs) (number p ys) x y (All-head (λ x. x < p) x xs v) (All-head (λ x. x < p) y ys w)

-- one list is before the other, or is the same, or comes after it
pub compared : (p : ℕ) (xs ys : List ℕ) → length xs ≡ length ys → All (λ x. x < p) xs → All (λ x. x < p) ys
    → order_by nat_cmp xs ys ≡ Less → number p xs < number p ys
compared p xs ys e v w h = ⊎_elim
    (λ l. l)
    (λ l. ⊎_elim
    (λ s. absurd (contradiction (sym h ∙ order_of_numbers p xs ys e v w ∙ ap (λ t. nat_cmp (number p xs) t) (sym s) ∙ equal (number p xs))))
    (λ d. absurd (contradiction₂ (sym h ∙ order_of_numbers p xs ys e v w ∙ greater (number p xs) (number p ys) (omega arith))))
    (cases_eq (number p xs) (number p ys)))
    (cases_lt (number p xs) (number p ys))
  where
    contradiction : Less ≡ Equal → ⊥
    contradiction e = cc

    contradiction₂ : Less ≡ Greater → ⊥
    contradiction₂ e = cc

pub before : (p : ℕ) (xs ys : List ℕ) → length xs ≡ length ys → All (λ x. x < p) xs → All (λ x. x < p) ys
    → number p xs < number p ys → order_by nat_cmp xs ys ≡ Less
before p xs ys e v w l = order_of_numbers p xs ys e v w ∙ less (number p xs) (number p ys) l

-- lists of one length with the same number are the same
pub same_number : (p : ℕ) (xs ys : List ℕ) → length xs ≡ length ys → All (λ x. x < p) xs → All (λ x. x < p) ys
    → number p xs ≡ number p ys → order_by nat_cmp xs ys ≡ Equal
same_number p xs ys e v w s = order_of_numbers p xs ys e v w ∙ ap (λ t. nat_cmp (number p xs) t) (sym s) ∙ equal (number p xs)

one_power_more : (p i : ℕ) → p ^ suc i ≡ p * p ^ i
one_power_more p i = pow-suc p i ∙ mul_comm (p ^ i) p

spread_out : (p b y q : ℕ) → p * (b + y * q) ≡ p * b + y * (p * q)
spread_out p b y q = grind arith

pub number_below : (p : ℕ) (xs : List ℕ) → All (λ x. x < p) xs → number p xs < p ^ length xs
number_below p [] v = let z : p ^ 0 ≡ 1 = pow-zero p in omega (arith, z)
number_below p (x ∷ xs) v =
    let h = digit_below p (number p xs) (p ^ length xs) x 0 (All-head (λ x. x < p) x xs v)
    (number_below p xs (All-tail (λ x. x < p) x xs v)) in
    let e : p ^ suc (length xs) ≡ p * p ^ length xs = one_power_more p (length xs) in
    omega (arith, h, e)

-- a digit more at the end
pub number_at_end : (p : ℕ) (xs : List ℕ) (y : ℕ) → number p (xs ++ y ∷ []) ≡ number p xs + y * p ^ length xs
number_at_end p [] y = let z : y * p ^ 0 ≡ y * 1 = ap (λ t. y * t) (pow-zero p) in omega (arith, z)
number_at_end p (x ∷ xs) y =
    let h : p * number p (xs ++ y ∷ []) ≡ p * number p xs + y * (p * p ^ length xs) =
    ap (λ t. p * t) (number_at_end p xs y) ∙ spread_out p (number p xs) y (p ^ length xs) in
    let e : y * p ^ suc (length xs) ≡ y * (p * p ^ length xs) = ap (λ t. y * t) (one_power_more p (length xs)) in
    omega (arith, h, e)

-- another digit in place i
pub number_changed : (p : ℕ) (xs : List ℕ) (i v : ℕ) → i < length xs
    → number p (slice_set xs i v) + slice_index xs i * p ^ i ≡ number p xs + v * p ^ i
number_changed p [] i v l = absurd (omega arith)
number_changed p (x ∷ xs) zero v l =
    let z : v * p ^ 0 ≡ v * 1 = ap (λ t. v * t) (pow-zero p) in
    let y : x * p ^ 0 ≡ x * 1 = ap (λ t. x * t) (pow-zero p) in
    omega (arith, y, z)
number_changed p (x ∷ xs) (suc i) v l =
    let h : p * (number p (slice_set xs i v) + slice_index xs i * p ^ i) ≡ p * (number p xs + v * p ^ i) =
    ap (λ t. p * t) (number_changed p xs i v (omega arith)) in
    let a = spread_out p (number p (slice_set xs i v)) (slice_index xs i) (p ^ i) in
    let b = spread_out p (number p xs) v (p ^ i) in
    let s : slice_index xs i * p ^ suc i ≡ slice_index xs i * (p * p ^ i) = ap (λ t. slice_index xs i * t) (one_power_more p i) in
    let t : v * p ^ suc i ≡ v * (p * p ^ i) = ap (λ w. v * w) (one_power_more p i) in
    omega (arith, h, a, b, s, t)

-- one more at place i
pub one_added : (p : ℕ) (xs : List ℕ) (i : ℕ) → i < length xs
    → number p (slice_set xs i (slice_index xs i + 1)) ≡ number p xs + p ^ i
one_added p xs i l =
    let h = number_changed p xs i (slice_index xs i + 1) l in
    let e : (slice_index xs i + 1) * p ^ i ≡ slice_index xs i * p ^ i + p ^ i = grind arith in
    omega (arith, h, e)

-- the greatest digit at place i becomes 0, and the one goes up
pub carried : (p : ℕ) (xs : List ℕ) (i : ℕ) → i < length xs → 1 < p → slice_index xs i + 1 ≡ p
    → number p (slice_set xs i 0) + p ^ (i + 1) ≡ number p xs + p ^ i
carried p xs i l above e =
    let h = number_changed p xs i 0 l in
    let s : p ^ (i + 1) ≡ p * p ^ i = ap (λ k. p ^ k) (let k : i + 1 ≡ suc i = omega arith in k) ∙ one_power_more p i in
    let t : (slice_index xs i + 1) * p ^ i ≡ p * p ^ i = ap (λ w. w * p ^ i) e in
    let u : (slice_index xs i + 1) * p ^ i ≡ slice_index xs i * p ^ i + p ^ i = grind arith in
    omega (arith, h, s, t, u)
