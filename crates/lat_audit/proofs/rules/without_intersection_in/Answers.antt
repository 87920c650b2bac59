-- One degree tells for all fields in which the two meet.
use Rattle.lat_audit.proofs.RuleDegrees.{meets_by_degree, in_first}
use Rattle.lat_audit.proofs.rules.without_intersection_in.Goals as goal

pub returns-then-have_intersection : goal.returns-then-have_intersection
returns-then-have_intersection c = λ k l.
    let is = c.if-have_intersection.ensures in
    meets_by_degree c.args.table.now c.requires.rules c.args.i c.args.j k is.0 is.1

pub returns : goal.returns
returns c = in_first c.args.table.now c.requires.rules c.args.i c.args.j c.if-have_intersection.ensures c.common_field.result c.common_field.ensures
