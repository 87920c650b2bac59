use Rattle.std.proofs.Common.{ℕ, ◌<◌, length}
use Rattle.lat_audit.specs.PrivateRules.{KeepsIntersection}
use Rattle.lat_audit.proofs.rules.without_intersection.Given as goal

-- the intersections with the fields so far are stored
abbrev pub invariant-loop-i : goal.invariant-loop-i
invariant-loop-i l = (a b e : ℕ) → a < l.i → b < length l.table.rows → e < length l.table.rows → KeepsIntersection l.table a b e
