use Rattle.lat_coerce.specs.PrivateSearches.{AreSubfieldsBelow}
use Rattle.lat_coerce.proofs.subfields.subfields.Given as goal

abbrev pub invariant-loop-number : goal.invariant-loop-number
invariant-loop-number l = AreSubfieldsBelow l.lattice l.field l.number l.numbers.items
