-- Carriers with finitely many elements: the residues, and the values of a field over such a carrier.
--     IsFinite c              all elements stand in a list
--     lists xs n              the lists of n members of xs
--     lists_below xs n        the lists of fewer than n members of xs
use Rattle.std.proofs.Common.{◌≡◌, ⊎_elim, ℕ, zero, suc, ◌<◌, ◌≤◌, sym, refl, ap, subst, arith, List, [], ◌∷◌, ◌++◌, length, map, All, Contains, eq-or-lt_of_le}
use Rattle.std.proofs.lemmas.List.Elements.{All-nil, All-cons, All-head, All-tail, All-append, All-map, All-weaker, Contains-append_left, Contains-append_right}
use Rattle.alg_model.specs.Coefficients.{Carrier, residues}
use Rattle.alg_model.specs.Values.{values, degree}
use Rattle.alg_divisors.proofs.LeastFactors.{contains-map}

pub record IsFinite {A : Type 0} (c : Carrier A) : Type 0 where
  pub elements : List A
  pub valid : All c.Valid elements
  pub complete : (x : A) → c.Valid x → Contains elements x

-- the lists that begin with a member of xs and go on with a list of ls
longer : {A : Type 0} → List A → List (List A) → List (List A)
longer [] ls = []
longer (x ∷ xs) ls = map (λ l. x ∷ l) ls ++ longer xs ls

pub lists : {A : Type 0} → List A → ℕ → List (List A)
lists xs zero = [] ∷ []
lists xs (suc n) = longer xs (lists xs n)

pub lists_below : {A : Type 0} → List A → ℕ → List (List A)
lists_below xs zero = []
lists_below xs (suc n) = lists xs n ++ lists_below xs n

longer_all : {A : Type 0} (P : A → Type 0) (Q : List A → Type 0) (W : List A → Type 0) → ((x : A) (l : List A) → P x → Q l → W (x ∷ l))
    → (xs : List A) (ls : List (List A)) → All P xs → All Q ls → All W (longer xs ls)
unfolding longer
longer_all P Q W h [] ls a b = All-nil W
longer_all P Q W h (x ∷ xs) ls a b = All-append W (map (λ l. x ∷ l) ls) (longer xs ls)
    (All-map W (λ l. x ∷ l) ls (All-weaker Q (λ l. W (x ∷ l)) (λ l q. h x l (All-head P x xs a) q) ls b))
    (longer_all P Q W h xs ls (All-tail P x xs a) b)

longer_contains : {A : Type 0} (xs : List A) (ls : List (List A)) (x : A) (l : List A) → Contains xs x → Contains ls l → Contains (longer xs ls) (x ∷ l)
unfolding longer
longer_contains [] ls x l i j = absurd (let k : i.0 < 0 = i.1 in omega arith)
longer_contains (y ∷ xs) ls x l (zero, k, e) j = Contains-append_left (map (λ l. y ∷ l) ls) (longer xs ls) (x ∷ l)
    (subst (λ t. Contains (map (λ l. y ∷ l) ls) (t ∷ l)) e (contains-map (λ l. y ∷ l) ls l j))
longer_contains (y ∷ xs) ls x l (suc n, k, e) j = Contains-append_right (map (λ l. y ∷ l) ls) (longer xs ls) (x ∷ l)
    (longer_contains xs ls x l (n, omega arith, e) j)

pub lists_all : {A : Type 0} (P : A → Type 0) (xs : List A) → All P xs → (n : ℕ) → All (λ l. All P l × (length l ≡ n)) (lists xs n)
unfolding lists
lists_all P xs a zero = All-cons (λ l. All P l × (length l ≡ 0)) [] [] (All-nil P, refl) (All-nil (λ l. All P l × (length l ≡ 0)))
lists_all P xs a (suc n) = longer_all P (λ l. All P l × (length l ≡ n)) (λ l. All P l × (length l ≡ suc n))
    (λ x l p q. (All-cons P x l p q.0, ap suc q.1)) xs (lists xs n) a (lists_all P xs a n)

pub lists_contain : {A : Type 0} (xs : List A) (l : List A) (n : ℕ) → All (Contains xs) l → length l ≡ n → Contains (lists xs n) l
unfolding lists
lists_contain xs [] zero a e = (0, omega arith, refl)
lists_contain xs [] (suc n) a e = absurd (omega arith)
lists_contain xs (x ∷ l) zero a e = absurd (omega arith)
lists_contain xs (x ∷ l) (suc n) a e = longer_contains xs (lists xs n) x l (All-head (Contains xs) x l a)
    (lists_contain xs l n (All-tail (Contains xs) x l a) (omega arith))

pub lists_below_all : {A : Type 0} (P : A → Type 0) (xs : List A) → All P xs → (n : ℕ) → All (All P) (lists_below xs n)
unfolding lists_below
lists_below_all P xs a zero = All-nil (All P)
lists_below_all P xs a (suc n) = All-append (All P) (lists xs n) (lists_below xs n)
    (All-weaker (λ l. All P l × (length l ≡ n)) (All P) (λ l q. q.0) (lists xs n) (lists_all P xs a n)) (lists_below_all P xs a n)

pub lists_below_contain : {A : Type 0} (xs : List A) (l : List A) (n : ℕ) → All (Contains xs) l → length l < n → Contains (lists_below xs n) l
unfolding lists_below
lists_below_contain xs l zero a h = absurd (omega arith)
lists_below_contain xs l (suc n) a h = ⊎_elim
    (λ e. Contains-append_left (lists xs n) (lists_below xs n) l (lists_contain xs l n a e))
    (λ k. Contains-append_right (lists xs n) (lists_below xs n) l (lists_below_contain xs l n a k))
    (eq-or-lt_of_le (let j : length l ≤ n = omega arith in j))

-- ---- the residues, and the values of a field
below : ℕ → List ℕ
below zero = []
below (suc n) = n ∷ below n

below_all : (p n : ℕ) → n ≤ p → All (λ a. a < p) (below n)
unfolding below
below_all p zero h = All-nil (λ a. a < p)
below_all p (suc n) h = All-cons (λ a. a < p) n (below n) (omega arith) (below_all p n (omega arith))

below_contain : (n a : ℕ) → a < n → Contains (below n) a
unfolding below
below_contain zero a h = absurd (omega arith)
below_contain (suc n) a h = ⊎_elim
    (λ e. (0, omega arith, sym e))
    (λ k. Contains-append_right (n ∷ []) (below n) a (below_contain n a k))
    (eq-or-lt_of_le (let j : a ≤ n = omega arith in j))

pub residues_finite : (p : ℕ) → IsFinite (residues p)
residues_finite p = record { elements = below p; valid = below_all p p (omega arith); complete = λ a h. below_contain p a h }

pub values_finite : {A : Type 0} {c : Carrier A} → IsFinite c → (f : List A) → IsFinite (values c f)
values_finite {A} {c} k f = record {
  elements = lists k.elements (degree f);
  valid = lists_all c.Valid k.elements k.valid (degree f);
  complete = λ l v. lists_contain k.elements l (degree f) (All-weaker c.Valid (Contains k.elements) k.complete l v.0) v.1;
}
