use Rattle.lattice_tests.proofs.Search.{FactorFree}
use Rattle.lattice_tests.proofs.trial_division.least_factor.Given as goal

abbrev pub invariant-loop-number : goal.invariant-loop-number
invariant-loop-number l = FactorFree l.f.prime l.f.coefficients l.number
