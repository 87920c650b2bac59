use Rattle.std.proofs.Common.{◌≡◌, ℕ, ◌<◌, length}
use Rattle.lat_audit.specs.PrivateRules.{KeepsComposition}
use Rattle.lat_audit.specs.PrivateLeaders.{leader}
use Rattle.lat_audit.proofs.compositions.keeps_leaders_from.Given as goal

-- compositions by the leaders so far are stored
abbrev pub invariant-loop-j : goal.invariant-loop-j
invariant-loop-j l = (a b : ℕ) → a < l.j → b < length l.table.rows → leader l.leaders a ≡ a
    → leader l.leaders b ≡ b → KeepsComposition l.table l.i a b
