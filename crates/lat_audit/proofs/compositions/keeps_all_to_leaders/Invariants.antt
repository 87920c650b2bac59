use Rattle.std.proofs.Common.{ℕ, ◌<◌}
use Rattle.lat_audit.specs.PrivateLeaders.{KeepsToLeaders}
use Rattle.lat_audit.proofs.compositions.keeps_all_to_leaders.Given as goal

abbrev pub invariant-loop-j : goal.invariant-loop-j
invariant-loop-j l = (b : ℕ) → b < l.j → KeepsToLeaders l.table l.leaders l.i b
