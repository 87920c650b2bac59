use Rattle.std.proofs.Common.{ℕ, ◌<◌}
use Rattle.lat_fill.specs.PrivateListing.{number_at}
use Rattle.lat_fill.specs.PrivateWays.{AreWays, Keeps, IsReached, IsHad}
use Rattle.lat_fill.proofs.outlets.add_outlets_to.Given as goal

abbrev pub invariant-loop-a : goal.invariant-loop-a
invariant-loop-a l = record {
  ways : AreWays l.lattice l.members l.maps.items;
  kept : Keeps l.fn.maps.items l.maps.items;
  linked : (x : ℕ) → x < l.a → IsReached l.lattice l.members x l.k
      → IsHad l.lattice l.maps.items (number_at l.members x) l.k;
}
