use Rattle.std.proofs.Common.{ℕ, ◌<◌, length}
use Rattle.lat_fill.specs.PrivateListing.{number_at}
use Rattle.lat_fill.specs.PrivateWays.{AreWays, Goes, IsHad}
use Rattle.lat_fill.proofs.links.links.Given as goal

abbrev pub invariant-loop-b : goal.invariant-loop-b
invariant-loop-b l = record {
  ways : AreWays l.lattice l.members l.maps.items;
  linked : (x y : ℕ) → x < length l.members → y < l.b → Goes l.members x y
      → IsHad l.lattice l.maps.items (number_at l.members x) (number_at l.members y);
}
