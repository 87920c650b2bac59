use Rattle.lat_coerce.specs.PrivateSearches.{IsBestBelow}
use Rattle.lat_coerce.proofs.commons.lowest.Given as goal

abbrev pub invariant-loop-field : goal.invariant-loop-field
invariant-loop-field l = IsBestBelow l.lattice l.a l.b l.field l.best
