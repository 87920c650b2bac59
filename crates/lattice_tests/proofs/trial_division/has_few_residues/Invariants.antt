use Rattle.std.proofs.Common.{◌≡◌, ◌^◌, ◌≤◌}
use Rattle.lattice_tests.proofs.trial_division.has_few_residues.Given as goal

abbrev pub invariant-loop-place : goal.invariant-loop-place
invariant-loop-place l = (l.count ≡ l.base ^ l._place) × (l.count ≤ 4096)
