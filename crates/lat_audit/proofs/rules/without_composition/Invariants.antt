use Rattle.std.proofs.Common.{ℕ, ◌<◌, length}
use Rattle.lat_audit.specs.PrivateRules.{KeepsComposition}
use Rattle.lat_audit.proofs.rules.without_composition.Given as goal

abbrev pub invariant-loop-i : goal.invariant-loop-i
invariant-loop-i l = (a b e : ℕ) → a < l.i → b < length l.table.rows → e < length l.table.rows → KeepsComposition l.table a b e
