use Rattle.lat_fill.proofs.WayLists.{had_kept}
use Rattle.lat_fill.proofs.filling.ways.Goals as goal

pub returns : goal.returns
returns c = record {
  ways = c.in_ok-add_outlets.ensures.ways;
  among = λ a b la lb g. had_kept c.in_ok-add_outlets.ensures.kept (c.in_ok-maps.ensures.linked a b la lb g);
  leaving = c.in_ok-add_outlets.ensures.linked;
}
