-- The greatest common divisor of g and the polynomial of a field E whose degree divides that of F.
use Rattle.std.proofs.Common.{◌≡◌, ℕ, List, sym, subst}
use Prim.Native.Nat.{◌∣◌}
use Rattle.alg_model.specs.Coefficients.{residues}
use Rattle.alg_model.specs.Factors.{IsMonic, IsIrreducible, IsGreatestCommonDivisor}
use Rattle.alg_model.specs.Maps.{Field, IsFiniteField, field_values, degree_of, constants}
use Rattle.alg_splitting.specs.PrivateSearch.{Splits}
use Rattle.alg_splitting.proofs.RootDivisors.{gcd_splits}
use Rattle.alg_splitting.proofs.ConjugateRoots.{irreducible_splits}

-- **it has as many roots as its degree**
pub common_part_splits : (E F : Field) → IsFiniteField E → IsFiniteField F
    → E.characteristic ≡ F.characteristic → degree_of E ∣ degree_of F
    → (f g part : List (List ℕ)) → f ≡ constants F E.polynomial
    → IsGreatestCommonDivisor (field_values F) f g part → Splits F part
common_part_splits E F V W e d f g part s G = gcd_splits F W f g part
    (subst (Splits F) (sym s) (irreducible_splits F W E.polynomial
    (subst (λ q. IsMonic (residues q) E.polynomial) e V.monic)
    (subst (λ q. IsIrreducible (residues q) E.polynomial) e V.irreducible) d)) G
