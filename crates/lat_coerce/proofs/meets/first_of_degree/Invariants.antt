use Rattle.std.proofs.Common.{ℕ, ◌<◌}
use Rattle.lat_coerce.specs.PrivateSearches.{IsCommonSubfield}
use Rattle.lat_coerce.proofs.meets.first_of_degree.Given as goal

-- none of the fields so far is one
abbrev pub invariant-loop-field : goal.invariant-loop-field
invariant-loop-field l = (m : ℕ) → m < l.field → ¬ IsCommonSubfield l.lattice l.i l.j l.d m
