-- What of a polynomial splits: the start of the search.
use Rattle.std.proofs.Common.{◌≡◌, ◌≢◌, ℕ, ◌<◌, List, [], ◌∷◌, length, slice_index_or, sym, subst, arith}
use Rattle.alg_model.specs.Factors.{IsPolynomial, IsGreatestCommonDivisor}
use Rattle.alg_model.specs.Maps.{Field, IsFiniteField, field_values}
use Rattle.alg_splitting.specs.PrivateSearch.{Splits, IsNarrowed}
use Rattle.alg_model.specs.Roots.{IsRoot, IsLeastRoot}
use Rattle.std.proofs.lemmas.List.Elements.{All-cons, All-nil}
use Rattle.alg_splitting.proofs.SplitPolynomials.{roots_bounded}
use Rattle.alg_splitting.specs.RootLists.{IsRootList}
use Rattle.alg_splitting.proofs.RootDivisors.{gcd_monic}
use Rattle.alg_splitting.proofs.RootLists.{root_list_least}

-- **a part by no trace yet**
pub first_narrowed : (F : Field) → IsFiniteField F → (g b part : List (List ℕ)) → g ≢ []
    → Splits F part → IsGreatestCommonDivisor (field_values F) g b part → 1 < length part
    → IsNarrowed F g 0 part
first_narrowed F W g b part n S G l = record {
  splits = S;
  monic = gcd_monic F W g b part G n;
  not_constant = l;
  divides = G.divides_first;
  agree = λ v w r s j m. absurd (omega arith);
}

-- **a constant that isn't zero has no root**
pub constant_no_root : (F : Field) → IsFiniteField F → (g : List (List ℕ))
    → IsPolynomial (field_values F) g → g ≢ [] → length g < 2 → (v : List ℕ) → ¬ IsRoot F g v
constant_no_root F W g vg n l v r =
    let one = roots_bounded F W g vg n (v ∷ []) (λ i j d h m. absurd (omega arith))
    (All-cons (IsRoot F g) v [] r (All-nil (IsRoot F g))) in
    omega (arith, one)

-- **the first of the roots is the least**
pub first_is_least : (F : Field) (g vs : List (List ℕ)) (v : List ℕ) → IsRootList F g vs
    → 0 < length vs → v ≡ slice_index_or vs 0 v → IsLeastRoot F g v
first_is_least F g [] v R l e = absurd (omega arith)
first_is_least F g (x ∷ xs) v R l e =
    subst (IsLeastRoot F g) (sym e) (root_list_least F g x xs R)
