use Rattle.std.proofs.Common.{◌≡◌}
use Rattle.ff_residues.proofs.tests.added.Given as goal

abbrev pub invariant-loop-i : goal.invariant-loop-i
invariant-loop-i l = l.sums.prime ≡ 61
