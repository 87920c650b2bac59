use Rattle.std.proofs.Common.{ℕ, ◌<◌}
use Rattle.lat_audit.specs.PrivateRules.{HaveOverfield}
use Rattle.lat_audit.proofs.rules.common_field.Given as goal

-- none of the fields so far
abbrev pub invariant-loop-k : goal.invariant-loop-k
invariant-loop-k l = (b : ℕ) → b < l.k → HaveOverfield l.table l.i l.j b → ⊥
