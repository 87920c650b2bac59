use Rattle.std.proofs.Common.{◌≡◌, replicate}
use Rattle.ff_factor.proofs.least.zeros.Given as goal

abbrev pub invariant-loop-k : goal.invariant-loop-k
invariant-loop-k l = l.numbers.items ≡ replicate l._k 0
