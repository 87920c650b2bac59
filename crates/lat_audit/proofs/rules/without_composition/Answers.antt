-- The first three fields.
use Rattle.std.proofs.Common.{length}
use Rattle.lat_audit.specs.Verdicts.{LacksComposition}
use Rattle.lat_audit.specs.PrivateRules.{KeepsComposition}
use Rattle.lat_audit.proofs.RuleOrders.{first_triple, composition_kept}
use Rattle.lat_audit.proofs.rules.without_composition.Goals as goal

pub returns-in-Some : goal.returns-in-Some
returns-in-Some c =
    let L = c.args.table.now in
    let h = c.in-Some.ensures in
    first_triple (length L.rows) {P = LacksComposition L} {Good = KeepsComposition L} c.loop-i.i c.in-Some.j c.in-Some.k (composition_kept L)
    (λ x y z lacks. c.requires.maps.within y z lacks.second lacks.second_stored)
    h.1.broken c.loop-i.invariant h.2 h.1.before
