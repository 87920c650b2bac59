use Rattle.std.proofs.Common.{◌≡◌, ℕ, ◌-◌, ◌<◌, ◌^◌, length, All}
use Rattle.ff_factor.specs.PrivateCounting.{number}
use Rattle.ff_factor.proofs.LeastPolynomials.{candidate, NoneBefore}
use Rattle.ff_factor.proofs.least.least_irreducible.Given as goal

abbrev pub invariant-loop-candidate : goal.invariant-loop-candidate
invariant-loop-candidate l = record {
  size : length l.lower.items ≡ l.d;
  residues : All (λ x. x < l.p) l.lower.items;
  prime : l.candidate.prime ≡ l.p;
  coefficients : l.candidate.coefficients ≡ candidate l.lower.items;
  none : NoneBefore l.p l.d (candidate l.lower.items);
}

abbrev pub decreases-loop-candidate : goal.decreases-loop-candidate
decreases-loop-candidate l = l.p ^ l.d - number l.p l.lower.items
