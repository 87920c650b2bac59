use Rattle.std.proofs.Common.{◌≡◌, ℕ, ◌<◌}
use Rattle.lat_audit.specs.PrivateRules.{KeepsComposition}
use Rattle.lat_audit.specs.PrivateLeaders.{leader}
use Rattle.lat_audit.proofs.compositions.keeps_leaders_by.Given as goal

-- compositions to the leaders so far are stored
abbrev pub invariant-loop-k : goal.invariant-loop-k
invariant-loop-k l = (b : ℕ) → b < l.k → leader l.leaders b ≡ b → KeepsComposition l.table l.i l.j b
