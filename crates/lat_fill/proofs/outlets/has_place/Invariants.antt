use Rattle.std.proofs.Common.{◌≡◌, ℕ, ◌<◌}
use Rattle.lat_fill.specs.PrivateListing.{number_at}
use Rattle.lat_fill.proofs.outlets.has_place.Given as goal

-- none of the members so far has the number
abbrev pub invariant-loop-member : goal.invariant-loop-member
invariant-loop-member l = (x : ℕ) → x < l.member-index → number_at l.members x ≡ l.k → ⊥
