use Rattle.std.proofs.Common.{◌≡◌, ℕ, ◌<◌, length}
use Rattle.lat_audit.specs.PrivateRules.{KeepsComposition}
use Rattle.lat_audit.specs.PrivateLeaders.{leader, KeepsToLeaders}
use Rattle.lat_audit.proofs.compositions.are_composed.Given as goal

-- the fields so far keep to the leaders, and the leaders among them to the other ones
abbrev pub invariant-loop-i : goal.invariant-loop-i
invariant-loop-i l = ((a b : ℕ) → a < l.i → b < length l.table.rows → KeepsToLeaders l.table l.leaders.items a b)
    × ((a b e : ℕ) → a < l.i → b < length l.table.rows → e < length l.table.rows → leader l.leaders.items a ≡ a
    → leader l.leaders.items b ≡ b → leader l.leaders.items e ≡ e → KeepsComposition l.table a b e)
