use Rattle.std.proofs.Common.{ℕ, ◌<◌, length}
use Rattle.lat_audit.specs.PrivateRules.{KeepsIntersection}
use Rattle.lat_audit.proofs.rules.without_intersection_from.Given as goal

-- the intersections with the fields so far are stored
abbrev pub invariant-loop-j : goal.invariant-loop-j
invariant-loop-j l = (a b : ℕ) → a < l.j → b < length l.table.rows → KeepsIntersection l.table l.i a b
