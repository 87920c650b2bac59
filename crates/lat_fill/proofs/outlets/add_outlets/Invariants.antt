use Rattle.lat_fill.proofs.WayLists.{AreOutletsBelow}
use Rattle.lat_fill.proofs.outlets.add_outlets.Given as goal

abbrev pub invariant-loop-k : goal.invariant-loop-k
invariant-loop-k l = AreOutletsBelow l.lattice l.members l.fn.maps.items l.k l.maps.items
