-- Polynomials over the residues modulo p are ordered as their numbers in base p.
use Rattle.std.proofs.Common.{◌≡◌, ℕ, zero, suc, ◌+◌, ◌*◌, ◌^◌, ◌<◌, ◌≤◌, List, [], ◌∷◌, ◌++◌, ◌/◌, ◌%◌, add-one, length, refl, arith, cond, Bool, true, false, sym, ◌∙◌, ap, subst, nat_eq}
use Rattle.std.specs.Prelude.{All}
use Rattle.std.specs.declared.cmp.Ordering.{Ordering}
use Rattle.std.specs.declared.cmp.Ordering.TheVariants.{Less, Equal, Greater}
use Rattle.std.proofs.lemmas.Bool.Decides.{nat_tests}
use Rattle.std.proofs.lemmas.List.Elements.{All-head, All-tail}
use Rattle.std.proofs.Math.Nat.{pow-zero, pow-suc, pow-le-pow_right}
use Rattle.std.proofs.lemmas.Cmp.{ranked}
use Rattle.std.specs.Ordering.{nat_cmp, ordering_then, MatchOrdering}
use Rattle.alg_model.specs.Coefficients.{mod_ops, residues}
use Rattle.alg_model.specs.Polynomials.{trim, cons_trimmed}
use Rattle.alg_model.specs.Factors.{order_by, IsPolynomial}
use Rattle.lattice_tests.specs.Numbering.{number_of}

number_of-cons : (p x : ℕ) (ys : List ℕ) → number_of p (cons_trimmed (mod_ops p) x ys) ≡ x + p * number_of p ys
number_of-cons p x [] = one (nat_eq x 0) refl
  where
    one : (b : Bool) → nat_eq x 0 ≡ b → number_of p (cond b [] (x ∷ [])) ≡ x + p * 0
    one true e = grind (arith, nat_tests)
    one false e = omega arith
number_of-cons p x (y ∷ ys) = refl

-- zeros at the end don't count
pub number_of-trim : (p : ℕ) (f : List ℕ) → number_of p (trim (mod_ops p) f) ≡ number_of p f
number_of-trim p [] = refl
number_of-trim p (x ∷ xs) = number_of-cons p x (trim (mod_ops p) xs) ∙ ap (λ n. x + p * n) (number_of-trim p xs)

digit_below : (p x n k : ℕ) → x < p → n < p ^ k → x + p * n < p ^ suc k
digit_below p x n k h l = rw pow-suc (let e : p * suc n ≤ p * p ^ k = grind arith in grind arith)

-- a polynomial of n coefficients has a number below p ^ n
pub number_of-lt : (p : ℕ) (f : List ℕ) → All (λ a. a < p) f → number_of p f < p ^ length f
number_of-lt p [] h = grind (arith, pow-zero)
number_of-lt p (x ∷ xs) h =
    let here : x < p = All-head (λ a. a < p) x xs h in
    let more : number_of p xs < p ^ length xs = number_of-lt p xs (All-tail (λ a. a < p) x xs h) in
    digit_below p x (number_of p xs) (length xs) here more

-- a list without zeros at its end, of two parts: its tail has none either, and where that is empty the head isn't zero
trim-tail : (p x : ℕ) (ys zs : List ℕ) → cons_trimmed (mod_ops p) x ys ≡ x ∷ zs → ys ≡ zs
trim-tail p x [] zs e = one (nat_eq x 0) e
  where
    one : (b : Bool) → cond b [] (x ∷ []) ≡ x ∷ zs → [] ≡ zs
    one true e = cc
    one false e = cc
trim-tail p x (y ∷ ys) zs e = cc

trim-head : (p x : ℕ) → cons_trimmed (mod_ops p) x [] ≡ x ∷ [] → 0 < x
trim-head p x e = one (nat_eq x 0) refl e
  where
    one : (b : Bool) → nat_eq x 0 ≡ b → cond b [] (x ∷ []) ≡ x ∷ [] → 0 < x
    one true e f = cc
    one false e f = grind (arith, nat_tests)

positive_product : (m n : ℕ) → 0 < m → 0 < n → 0 < m * n
positive_product m n h k = grind arith

-- a polynomial that isn't zero has a number above 0
number_of-pos : (p x : ℕ) (xs : List ℕ) → 0 < p → trim (mod_ops p) (x ∷ xs) ≡ x ∷ xs → 0 < number_of p (x ∷ xs)
number_of-pos p x [] h e = let q : 0 < x = trim-head p x e in omega arith
number_of-pos p x (y ∷ ys) h e =
    let q : 0 < number_of p (y ∷ ys) = number_of-pos p y ys h (trim-tail p x (trim (mod_ops p) (y ∷ ys)) (y ∷ ys) e) in
    let r : 0 < p * number_of p (y ∷ ys) = positive_product p (number_of p (y ∷ ys)) h q in
    omega arith

higher_digit : (p x m n : ℕ) → m ≤ n → p * m ≤ x + p * n
higher_digit p x m n h = let e : p * m ≤ p * n = grind arith in omega arith

higher_decides : (p x y a b : ℕ) → x < p → a < b → x + p * a < y + p * b
higher_decides p x y a b h l = let e : p * suc a ≤ p * b = grind arith in grind arith

-- the answer of the order, as numbers
Ranked : ℕ → List ℕ → List ℕ → Ordering → Type 0
Ranked p f g r = MatchOrdering r (number_of p f < number_of p g) (f ≡ g) (number_of p g < number_of p f)

ranked_joined : (p x y : ℕ) (xs ys : List ℕ) → x < p → y < p
    → (s t : Ordering) → Ranked p xs ys s → MatchOrdering t (x < y) (x ≡ y) (y < x) → Ranked p (x ∷ xs) (y ∷ ys) (ordering_then s t)
unfolding Ranked
ranked_joined p x y xs ys here there Less t a b = higher_decides p x y (number_of p xs) (number_of p ys) here a
ranked_joined p x y xs ys here there Greater t a b = higher_decides p y x (number_of p ys) (number_of p xs) there a
ranked_joined p x y xs ys here there Equal Less a b =
    let q : number_of p xs ≡ number_of p ys = ap (number_of p) a in rw q (omega arith)
ranked_joined p x y xs ys here there Equal Equal a b = cc
ranked_joined p x y xs ys here there Equal Greater a b =
    let q : number_of p xs ≡ number_of p ys = ap (number_of p) a in rw q (omega arith)

ranked_lists : (p : ℕ) (f g : List ℕ) → 0 < p
    → All (λ a. a < p) f → All (λ a. a < p) g → trim (mod_ops p) f ≡ f → trim (mod_ops p) g ≡ g
    → Ranked p f g (order_by nat_cmp f g)
unfolding Ranked
ranked_lists p [] [] h vf vg tf tg = refl
ranked_lists p [] (y ∷ ys) h vf vg tf tg = number_of-pos p y ys h tg
ranked_lists p (x ∷ xs) [] h vf vg tf tg = number_of-pos p x xs h tf
ranked_lists p (x ∷ xs) (y ∷ ys) h vf vg tf tg =
    ranked_joined p x y xs ys (All-head (λ a. a < p) x xs vf) (All-head (λ a. a < p) y ys vg) (order_by nat_cmp xs ys) (nat_cmp x y)
    (ranked_lists p xs ys h (All-tail (λ a. a < p) x xs vf) (All-tail (λ a. a < p) y ys vg)
    (trim-tail p x (trim (mod_ops p) xs) xs tf) (trim-tail p y (trim (mod_ops p) ys) ys tg))
    (ranked x y (nat_cmp x y) refl)

-- The order of two polynomials is that of their numbers, and only equal polynomials have equal numbers.
pub number_of-order : (p : ℕ) (f g : List ℕ) → 0 < p
    → IsPolynomial (residues p) f → IsPolynomial (residues p) g
    → (r : Ordering) → r ≡ order_by nat_cmp f g
    → MatchOrdering r (number_of p f < number_of p g) (f ≡ g) (number_of p g < number_of p f)
unfolding Ranked
number_of-order p f g h a b r e = let P : Ordering → Type 0 = Ranked p f g in subst P (sym e) (ranked_lists p f g h a.0 b.0 a.1 b.1)

-- one digit more at the end
pub number_of-append : (p : ℕ) (xs : List ℕ) (y : ℕ) → number_of p (xs ++ y ∷ []) ≡ number_of p xs + p ^ length xs * y
number_of-append p [] y = rw pow-zero (omega arith)
number_of-append p (x ∷ xs) y = rw (number_of-append p xs y, pow-suc) (grind arith)

-- taking the lowest digit off what is left
pub digit_step : (p a q rest n : ℕ) → 0 < p → a + q * rest ≡ n → (a + q * (rest % p)) + (q * p) * (rest / p) ≡ n
digit_step p a q rest n h e =
    let d : p * (rest / p) + rest % p ≡ rest = omega arith in
    let f : q * (p * (rest / p) + rest % p) ≡ q * rest = ap (λ m. q * m) d in
    grind (arith, e, f)

-- where q is above the number nothing is left
pub nothing_left : (a q rest n : ℕ) → a + q * rest ≡ n → n < q → a ≡ n
nothing_left a q zero n e h = omega arith
nothing_left a q (suc rest) n e h = absurd (let b : q ≤ q * suc rest = grind arith in omega arith)

-- one digit more is taken off what is left
pub digit_more : (p rest n k : ℕ) (xs ys : List ℕ) → 0 < p → ys ≡ xs ++ rest % p ∷ [] → length xs ≡ k
    → number_of p xs + p ^ k * rest ≡ n → number_of p ys + p ^ (k + 1) * (rest / p) ≡ n
digit_more p rest n k xs ys h e l i =
    rw (e, number_of-append p xs (rest % p), l, add-one, pow-suc) (digit_step p (number_of p xs) (p ^ k) rest n h i)

-- a polynomial with a place n has a number of at least p ^ n
pub number_of-ge : (p n : ℕ) (f : List ℕ) → 0 < p → trim (mod_ops p) f ≡ f → n < length f → p ^ n ≤ number_of p f
number_of-ge p n [] positive poly big = absurd (omega arith)
number_of-ge p zero (x ∷ xs) positive poly big = rw pow-zero (number_of-pos p x xs positive poly)
number_of-ge p (suc n) (x ∷ ys) positive poly big =
    let q : p ^ n ≤ number_of p ys = number_of-ge p n ys positive (trim-tail p x (trim (mod_ops p) ys) ys poly) (omega arith) in
    let h : p * p ^ n ≤ x + p * number_of p ys = higher_digit p x (p ^ n) (number_of p ys) q in rw pow-suc (omega arith)

pub below_power : (p a m n : ℕ) → 0 < p → a < p ^ m → m ≤ n → a < p ^ n
below_power p a m n positive h l = let q : p ^ m ≤ p ^ n = pow-le-pow_right positive l in omega arith

-- once a power is above the limit, so are the later ones
pub power_above : (p n m limit : ℕ) → 0 < p → limit < p ^ n → n ≤ m → p ^ m ≤ limit → ⊥
power_above p n m limit positive h l k = let q : p ^ n ≤ p ^ m = pow-le-pow_right positive l in absurd (omega arith)
