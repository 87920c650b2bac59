-- Lists of values that a map sends to one list.
use Rattle.std.proofs.Common.{◌≡◌, List, [], ◌∷◌, refl, ap₂}
use Rattle.std.specs.Prelude.{All, map}
use Rattle.std.proofs.lemmas.List.Elements.{All-head, All-tail}

-- **what is injective on valid values is injective on lists of them**
pub valid_lists_equal : {A B : Type 0} (h : A → B) (Valid : A → Type 0)
    → ((x y : A) → Valid x → Valid y → h x ≡ h y → x ≡ y)
    → (xs ys : List A) → All Valid xs → All Valid ys → map h xs ≡ map h ys → xs ≡ ys
valid_lists_equal h Valid injective [] [] v w e = refl
valid_lists_equal h Valid injective [] (y ∷ ys) v w e = cc
valid_lists_equal h Valid injective (x ∷ xs) [] v w e = cc
valid_lists_equal h Valid injective (x ∷ xs) (y ∷ ys) v w e =
    ap₂ (λ z zs. z ∷ zs)
    (injective x y (All-head Valid x xs v) (All-head Valid y ys w) cc)
    (valid_lists_equal h Valid injective xs ys (All-tail Valid x xs v) (All-tail Valid y ys w) cc)
