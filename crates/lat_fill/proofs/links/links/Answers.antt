use borrow.Author.Count.{below_more}
use Rattle.lat_fill.specs.PrivateListing.{number_at}
use Rattle.lat_fill.specs.PrivateWays.{Goes, IsHad}
use Rattle.lat_fill.proofs.WayLists.{had_kept}
use Rattle.lat_fill.proofs.links.links.Goals as goal

pub loop-b-preserved : goal.loop-b-preserved
loop-b-preserved c = record {
  ways = c.in_ok-add_links_to.ensures.ways;
  linked = λ x y hx hy. below_more (λ y. Goes c.args.members.now x y
      → IsHad c.args.lattice.now c.add_links_to.new.maps.items (number_at c.args.members.now x) (number_at c.args.members.now y)) c.loop-b.b
      (λ y h g. had_kept c.in_ok-add_links_to.ensures.kept (c.loop-b.invariant.linked x y hx h g))
      (λ g. c.in_ok-add_links_to.ensures.linked x hx g) y hy;
}
