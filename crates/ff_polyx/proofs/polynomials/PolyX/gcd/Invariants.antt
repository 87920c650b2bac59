use Rattle.std.proofs.Common.{ℕ, List, length}
use Rattle.alg_model.specs.Factors.{IsPolynomial, IsGreatestCommonDivisor}
use Rattle.alg_model.specs.Maps.{field_values}
use Rattle.ff_polyx.proofs.polynomials.PolyX.gcd.Given as goal

abbrev pub invariant-euclid : goal.invariant-euclid
invariant-euclid l = let c = field_values l.field in record {
  first : IsPolynomial c l.first;
  second : IsPolynomial c l.second;
  gcd : (g : List (List ℕ)) → IsGreatestCommonDivisor c l.first l.second g
      → IsGreatestCommonDivisor c l.a l.b g;
}

abbrev pub decreases-euclid : goal.decreases-euclid
decreases-euclid l = length l.second
