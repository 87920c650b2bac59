use Rattle.std.proofs.Common.{ℕ, ◌<◌, length}
use Rattle.lat_audit.specs.PrivateRules.{KeepsInverse}
use Rattle.lat_audit.proofs.rules.without_inverse.Given as goal

abbrev pub invariant-loop-i : goal.invariant-loop-i
invariant-loop-i l = (a b : ℕ) → a < l.i → b < length l.table.rows → KeepsInverse l.table a b
