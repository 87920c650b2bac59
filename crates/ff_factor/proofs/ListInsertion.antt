-- An element put into a list; into an ordered one before the first element that comes after it.
use Rattle.std.proofs.Common.{◌≡◌, ℕ, ◌+◌, ◌-◌, ◌<◌, ◌≤◌, Bool, false, List, ◌∷◌, ◌++◌, length, map, get_or, take, drop, All, ap, ap₂, sym, ◌∙◌, arith, ⊎_elim}
use Rattle.std.specs.List.{insert}
use Rattle.std.specs.List.Sorted.{IsSortedBy}
use Rattle.std.proofs.lemmas.Bool.{cases_lt, cases_eq}
use Rattle.std.proofs.lemmas.List.{map-append, take-map, drop-map}
use Rattle.std.proofs.lemmas.List.Elements.{All-append, All-cons, All-take, All-drop}
use Rattle.std.proofs.lemmas.List.Edits.{length-insert, get_or-insert_below, get_or-insert_at, get_or-insert_above}

pub All-insert : {X : Type 0} (P : X → Type 0) (xs : List X) (i : ℕ) (y : X) → All P xs → P y → All P (insert xs i y)
All-insert P xs i y h k = All-append P (take i xs) (y ∷ drop i xs) (All-take P i xs h) (All-cons P y (drop i xs) k (All-drop P i xs h))

pub map-insert : {X Y : Type 0} (h : X → Y) (xs : List X) (i : ℕ) (y : X) → map h (insert xs i y) ≡ insert (map h xs) i (h y)
map-insert h xs i y =
    map-append h (take i xs) (y ∷ drop i xs) ∙ ap₂ (λ s t. s ++ h y ∷ t) (sym (take-map h i xs)) (sym (drop-map h i xs))

module _ {X : Type 0} (lt : X → X → Bool) (xs : List X) (i : ℕ) (y : X) (within : i ≤ length xs)
    (before : (d : X) → 0 < i → lt y (get_or xs (i - 1) d) ≡ false) (after : (d : X) → i < length xs → lt (get_or xs i d) y ≡ false)
    (sorted : IsSortedBy lt xs) where
  abbrev at : ℕ → X → X
  at k d = get_or (insert xs i y) k d

  below : (k : ℕ) (d : X) → k + 1 < i → lt (at (k + 1) d) (at k d) ≡ false
  below k d l =
      ap₂ lt (get_or-insert_below xs i y d (k + 1) l within) (get_or-insert_below xs i y d k (omega arith) within)
      ∙ sorted k d (omega arith) (omega arith)

  beside : (k : ℕ) (d : X) → k + 1 ≡ i → lt (at (k + 1) d) (at k d) ≡ false
  beside k d e =
      ap₂ lt (ap (λ j. at j d) e ∙ get_or-insert_at xs i y d within)
      (get_or-insert_below xs i y d k (omega arith) within ∙ ap (λ j. get_or xs j d) (let f : k ≡ i - 1 = omega arith in f))
      ∙ before d (omega arith)

  here : (k : ℕ) (d : X) → k ≡ i → k < length xs → lt (at (k + 1) d) (at k d) ≡ false
  here k d e l =
      ap₂ lt (get_or-insert_above xs i y d k (omega arith) within ∙ ap (λ j. get_or xs j d) e)
      (ap (λ j. at j d) e ∙ get_or-insert_at xs i y d within)
      ∙ after d (omega arith)

  above : (k : ℕ) (d : X) → i < k → k < length xs → lt (at (k + 1) d) (at k d) ≡ false
  above k d h l =
      let e : k - 1 + 1 ≡ k = omega arith in
      ap₂ lt (get_or-insert_above xs i y d k (omega arith) within ∙ ap (λ j. get_or xs j d) (sym e))
      (ap (λ j. at j d) (sym e) ∙ get_or-insert_above xs i y d (k - 1) (omega arith) within)
      ∙ sorted (k - 1) d (omega arith) (omega arith)

  pub sorted_insert : IsSortedBy lt (insert xs i y)
  sorted_insert k d low high =
      let n = length-insert xs i y within in
      ⊎_elim (λ h. below k d h)
      (λ h. ⊎_elim (λ e. beside k d e)
      (λ e. ⊎_elim (λ q. here k d q (omega arith)) (λ q. above k d (omega arith) (omega arith)) (cases_eq k i))
      (cases_eq (k + 1) i))
      (cases_lt (k + 1) i)
