use Rattle.ff_minpoly.proofs.Spans.{normal_is}
use Rattle.ff_minpoly.proofs.elimination.normal_row.Goals as goal

pub returns-clause-normal : goal.returns-clause-normal
returns-clause-normal g c =
    normal_is g.row.W c.args.p c.args.pivot c.args.place c.args.row.now c.scale_places.new.row
    c.inv-inverse.result c.requires.row.0 c.requires.places.1 c.inv-inverse.ensures.inverse
    c.scale_places.ensures.scaled
