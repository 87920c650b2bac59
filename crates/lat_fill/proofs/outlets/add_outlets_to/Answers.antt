use borrow.Author.Count.{below_more}
use Rattle.lat_fill.specs.PrivateListing.{number_at}
use Rattle.lat_fill.specs.PrivateWays.{IsReached, IsHad}
use Rattle.lat_fill.proofs.WayLists.{kept_then, had_kept}
use Rattle.lat_fill.proofs.outlets.add_outlets_to.Goals as goal

pub loop-a-preserved : goal.loop-a-preserved
loop-a-preserved c =
    let s = c.in_ok-add_outlet.ensures in
    record {
      ways = s.ways;
      kept = kept_then c.loop-a.invariant.kept s.kept;
      linked = below_more (λ x. IsReached c.args.lattice.now c.args.members.now x c.args.k
          → IsHad c.args.lattice.now c.add_outlet.new.maps.items (number_at c.args.members.now x) c.args.k) c.loop-a.a
          (λ x h g. had_kept s.kept (c.loop-a.invariant.linked x h g)) s.had;
    }
