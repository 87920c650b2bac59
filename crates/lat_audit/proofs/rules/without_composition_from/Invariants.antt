use Rattle.std.proofs.Common.{ℕ, ◌<◌, length}
use Rattle.lat_audit.specs.PrivateRules.{KeepsComposition}
use Rattle.lat_audit.proofs.rules.without_composition_from.Given as goal

abbrev pub invariant-loop-j : goal.invariant-loop-j
invariant-loop-j l = (a b : ℕ) → a < l.j → b < length l.table.rows → KeepsComposition l.table l.i a b
