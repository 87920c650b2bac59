use Rattle.std.proofs.Common.{ℕ, ◌<◌}
use Rattle.lat_audit.specs.PrivateRules.{IsCommonSubfield}
use Rattle.lat_audit.proofs.rules.have_intersection.Given as goal

-- none of the fields so far
abbrev pub invariant-loop-l : goal.invariant-loop-l
invariant-loop-l l = (b : ℕ) → b < l.l → IsCommonSubfield l.table l.i l.j b → ⊥
