-- The first three fields, and one more field.
use Rattle.std.proofs.Common.{ℕ, ◌<◌, length}
use Rattle.lat_audit.specs.Verdicts.{LacksIntersection}
use Rattle.lat_audit.specs.PrivateRules.{KeepsIntersection}
use Rattle.lat_audit.proofs.RuleOrders.{first_triple, one_more}
use Rattle.lat_audit.proofs.RuleDegrees.{intersection_kept}
use Rattle.lat_audit.proofs.rules.without_intersection.Goals as goal

pub returns-in-Some : goal.returns-in-Some
returns-in-Some c =
    let L = c.args.table.now in
    let h = c.in-Some.ensures in
    first_triple (length L.rows) {P = LacksIntersection L} {Good = KeepsIntersection L} c.loop-i.i c.in-Some.j c.in-Some.k (intersection_kept L)
    (λ x y z lacks. (
      (c.count-i-end.ensures.within y z lacks.second lacks.second_stored).0,
      (c.count-i-end.ensures.within y z lacks.second lacks.second_stored).1,
    ))
    h.1.broken c.loop-i.invariant h.2 h.1.before

pub loop-i-preserved : goal.loop-i-preserved
loop-i-preserved c = λ x y z l ly lz.
    let L = c.args.table.now in
    one_more {Good = λ (n : ℕ). (p q : ℕ) → p < length L.rows → q < length L.rows → KeepsIntersection L n p q} c.loop-i.i
    (λ n ln p q lp lq. c.loop-i.invariant n p q ln lp lq) c.in_default.ensures x l y z ly lz
