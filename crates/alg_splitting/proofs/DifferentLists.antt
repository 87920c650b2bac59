-- Lists of different members: those that pass a test and those that fail, and lists within lists.
use Rattle.std.proofs.Common.{◌≡◌, ◌≢◌, ⊎_elim, ℕ, suc, ◌+◌, ◌-◌, ◌<◌, ◌≤◌, List, [], ◌∷◌, length, slice_index_or, AllPairs, All, Bool, refl, ap, sym, ◌∙◌, arith}
use Rattle.std.specs.List.{Contains, filter, remove}
use Rattle.std.specs.Prelude.{not}
use Rattle.std.proofs.lemmas.Bool.{cases_Bool, cases_lt, cases_eq}
use Rattle.std.proofs.lemmas.List.{get_or_default}
use Rattle.std.proofs.lemmas.List.Edits.{get_or-remove_below, get_or-remove_above, length-remove}

-- **what passes a test and what fails are all**
pub length_of_both : {X : Type 0} (test : X → Bool) (xs : List X)
    → length (filter test xs) + length (filter (λ x. not (test x)) xs) ≡ length xs
length_of_both test [] = omega arith
length_of_both test (x ∷ xs) = ⊎_elim
    (λ e. rw e (omega (arith, length_of_both test xs)))
    (λ e. rw e (omega (arith, length_of_both test xs)))
    (cases_Bool (test x))

-- the first of a list of different members isn't among the rest
pub first_differs : {X : Type 0} (x : X) (xs : List X) → AllPairs (λ a b. a ≢ b) (x ∷ xs)
    → All (λ y. x ≢ y) xs
first_differs x xs d k e l = d 0 (suc k) e (omega arith) (omega arith)

-- and the rest are different
pub rest_differs : {X : Type 0} (x : X) (xs : List X) → AllPairs (λ a b. a ≢ b) (x ∷ xs)
    → AllPairs (λ a b. a ≢ b) xs
rest_differs x xs d i j e l k = d (suc i) (suc j) e (omega arith) (omega arith)

-- a member other than the one taken out is still there
pub contains_rest : {X : Type 0} (ys : List X) (k : ℕ) (y : X) → k < length ys → Contains ys y
    → slice_index_or ys k y ≢ y → Contains (remove ys k) y
contains_rest ys k y l (j, m, e) n = ⊎_elim
    (λ b. (j, omega (arith, length-remove ys k l), get_or-remove_below ys k y j b l ∙ e))
    (λ b. ⊎_elim
    (λ s. absurd (n (ap (λ i. slice_index_or ys i y) (sym s) ∙ e)))
    (λ s. (
      j - 1,
      omega (arith, length-remove ys k l),
      get_or-remove_above ys k y (j - 1) (omega arith) l
          ∙ ap (λ i. slice_index_or ys i y) (omega arith) ∙ e,
    ))
    (cases_eq j k))
    (cases_lt j k)

-- **a list of different members of another isn't longer**
pub within_length : {X : Type 0} (xs ys : List X) → AllPairs (λ a b. a ≢ b) xs
    → ((x : X) → Contains xs x → Contains ys x) → length xs ≤ length ys
within_length [] ys d s = omega arith
within_length (x ∷ xs) ys d s =
    let (k, l, e) = s x (0, omega arith, refl) in
    omega (
      arith,
      length-remove ys k l,
      within_length xs (remove ys k) (rest_differs x xs d)
          (λ y (i, m, f). contains_rest ys k y l (s y (suc i, omega arith, f))
          (λ g. first_differs x xs d i y m
          (sym e ∙ get_or_default ys k x y l ∙ g ∙ sym f))),
    )
