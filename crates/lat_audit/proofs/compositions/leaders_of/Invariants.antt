use Rattle.std.proofs.Common.{◌≡◌, length}
use Rattle.lat_audit.specs.PrivateLeaders.{AreLed}
use Rattle.lat_audit.proofs.compositions.leaders_of.Given as goal

-- the fields so far have leaders
abbrev pub invariant-loop-i : goal.invariant-loop-i
invariant-loop-i l = (length l.leaders.items ≡ l.i) × AreLed l.table l.leaders.items
