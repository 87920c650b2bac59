use Rattle.std.proofs.Common.{ℕ, ◌<◌}
use Rattle.lat_audit.specs.PrivateRules.{KeepsInverse}
use Rattle.lat_audit.proofs.rules.without_inverse_from.Given as goal

abbrev pub invariant-loop-j : goal.invariant-loop-j
invariant-loop-j l = (b : ℕ) → b < l.j → KeepsInverse l.table l.i b
