use Rattle.lat_fill.specs.PrivateListing.{AreListed}
use Rattle.lat_fill.proofs.members.members_by.Given as goal

-- the members so far
abbrev pub invariant-loop-number : goal.invariant-loop-number
invariant-loop-number l = AreListed l.lattice l.from l.into l.phi.images l.lattice.rows l.number l.members.items
