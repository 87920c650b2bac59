use Rattle.std.proofs.Common.{length}
use Rattle.ff_factor.proofs.factorization.+collect.Given as goal

-- the parts are smaller
abbrev pub decreases-collect : goal.decreases-collect
decreases-collect l = length l.f.now.coefficients
