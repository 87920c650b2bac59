-- What tests of the code tell.
use Rattle.std.proofs.Common.{◌≡◌, ℕ, List, [], ◌∷◌, length, nat_eq, Bool, arith, refl}
use Rattle.std.specs.Prelude.{IsTrue, ◌↔◌, ◌==◌}
use Rattle.std.proofs.lemmas.Bool.Decides.{nat_tests}

pub nat_eq_tells : (a b : ℕ) → IsTrue (nat_eq a b) ↔ (a ≡ b)
nat_eq_tells a b = (λ t. grind (arith, nat_tests), λ e. grind (arith, nat_tests))

pub is_empty_tells : (xs : List ℕ) (b : Bool) → b ≡ (length xs == 0) → IsTrue b ↔ (xs ≡ [])
is_empty_tells [] b e = (λ t. refl, λ q. grind (arith, nat_tests))
is_empty_tells (x ∷ xs) b e = (λ t. absurd (grind (arith, nat_tests)), λ q. cc)
