-- A list in its parts: what is before an element, and the element.
use Rattle.std.proofs.Common.{◌≡◌, ℕ, ◌+◌, ◌<◌, List, ◌∷◌, ◌++◌, length, get_or, ap, ◌∙◌, subst, arith, length-append}
use Rattle.std.specs.Prelude.{All, AllPairs}
use Rattle.std.proofs.lemmas.List.{get_or_at, get_or_append_left}

module _ {A : Type 0} (xs before behind : List A) (x : A) (is : xs ≡ before ++ x ∷ behind) where
  pub split_within : length before < length xs
  split_within =
      let whole : length xs ≡ length (before ++ x ∷ behind) = ap length is in
      let parts : length (before ++ x ∷ behind) ≡ length before + length (x ∷ behind)
      = length-append before (x ∷ behind) in
      omega (arith, whole, parts)

  pub split_at : (d : A) → get_or xs (length before) d ≡ x
  split_at d = ap (λ ys. get_or ys (length before) d) is
      ∙ get_or_at before x behind d (length before) (λ i. length before)

  split_before : (k : ℕ) (d : A) → k < length before → get_or xs k d ≡ get_or before k d
  split_before k d l = ap (λ ys. get_or ys k d) is ∙ get_or_append_left before (x ∷ behind) d k l

  -- what holds of each element and each later one holds of those before this one and this one
  pub split_pairs : (R : A → A → Type 0) → AllPairs R xs → All (λ y. R y x) before
  split_pairs R all k d l =
      subst (λ y. R y x) (split_before k d l)
      (subst (λ y. R (get_or xs k d) y) (split_at d) (all k (length before) d l split_within))
