use Rattle.std.proofs.Common.{ℕ, ◌<◌}
use Rattle.lat_choice.specs.PrivateNeeded.{Covers}
use Rattle.lat_choice.proofs.needed.is_covered.Given as goal

-- none of the fields so far does for it
abbrev pub invariant-loop-c : goal.invariant-loop-c
invariant-loop-c l = (c : ℕ) → c < l.c → ¬ Covers l.lattice l.from l.into l.d c
