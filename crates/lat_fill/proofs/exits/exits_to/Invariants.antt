use Rattle.lat_fill.specs.PrivateWays.{AreExits}
use Rattle.lat_fill.proofs.exits.exits_to.Given as goal

abbrev pub invariant-loop-b : goal.invariant-loop-b
invariant-loop-b l = AreExits l.lattice l.members l.k l.b l.exits
