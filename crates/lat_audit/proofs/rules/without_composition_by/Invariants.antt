use Rattle.std.proofs.Common.{ℕ, ◌<◌}
use Rattle.lat_audit.specs.PrivateRules.{KeepsComposition}
use Rattle.lat_audit.proofs.rules.without_composition_by.Given as goal

abbrev pub invariant-loop-k : goal.invariant-loop-k
invariant-loop-k l = (b : ℕ) → b < l.k → KeepsComposition l.table l.i l.j b
