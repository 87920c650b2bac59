use Rattle.std.proofs.Common.{◌≤◌, length, All}
use Rattle.lat_fill.specs.PrivateListing.{AreDegreesBelow, IsSmallDegree}
use Rattle.lat_fill.proofs.degrees.member_degrees.Given as goal

abbrev pub invariant-loop-number : goal.invariant-loop-number
invariant-loop-number l = record {
  below : AreDegreesBelow l.lattice l.from l.into l.number l.degrees.items;
  small : All IsSmallDegree l.degrees.items;
  count : length l.degrees.items ≤ l.number;
}
