use Rattle.std.proofs.Common.{ℕ, ◌<◌}
use Rattle.lat_fill.specs.PrivateListing.{number_at}
use Rattle.lat_fill.specs.PrivateWays.{AreWays, Keeps, Goes, IsHad}
use Rattle.lat_fill.proofs.links.add_links_to.Given as goal

abbrev pub invariant-loop-a : goal.invariant-loop-a
invariant-loop-a l = record {
  ways : AreWays l.lattice l.members l.maps.items;
  kept : Keeps l.fn.maps.items l.maps.items;
  linked : (x : ℕ) → x < l.a → Goes l.members x l.b
      → IsHad l.lattice l.maps.items (number_at l.members x) (number_at l.members l.b);
}
