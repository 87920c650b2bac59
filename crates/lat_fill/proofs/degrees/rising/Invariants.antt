use Rattle.std.proofs.Common.{◌<◌, length, All}
use Rattle.lat_fill.specs.PrivateListing.{IsSmallDegree}
use Rattle.lat_fill.proofs.DegreeLists.{IsRisingBelow}
use Rattle.lat_fill.proofs.degrees.rising.Given as goal

abbrev pub invariant-loop-degree : goal.invariant-loop-degree
invariant-loop-degree l = record {
  list : IsRisingBelow l.set l.degree l.degrees.items;
  small : All IsSmallDegree l.degrees.items;
  count : length l.degrees.items < l.degree;
}
