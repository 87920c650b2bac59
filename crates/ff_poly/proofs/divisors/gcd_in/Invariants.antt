use Rattle.std.proofs.Common.{ℕ, List, take}
use Rattle.alg_model.specs.Coefficients.{residues}
use Rattle.alg_model.specs.Factors.{IsGreatestCommonDivisor}
use Rattle.ff_poly.specs.PrivateDivisors.{IsRowOf}
use Rattle.ff_poly.proofs.divisors.gcd_in.Given as goal

abbrev pub invariant-euclid : goal.invariant-euclid
invariant-euclid g l = record {
  first : IsRowOf g.row.W l.p l.first l.m;
  second : IsRowOf g.row.W l.p l.second l.n;
  gcd : (d : List ℕ) → IsGreatestCommonDivisor (residues l.p) (take l.m l.first) (take l.n l.second) d
      → IsGreatestCommonDivisor (residues l.p) l.fn.a l.fn.b d;
}

abbrev pub decreases-euclid : goal.decreases-euclid
decreases-euclid g l = l.n
