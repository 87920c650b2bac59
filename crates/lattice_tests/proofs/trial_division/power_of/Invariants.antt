use Rattle.std.proofs.Common.{◌≡◌, ◌^◌}
use Rattle.lattice_tests.proofs.trial_division.power_of.Given as goal

abbrev pub invariant-loop-place : goal.invariant-loop-place
invariant-loop-place l = l.power ≡ l.base ^ l._place
