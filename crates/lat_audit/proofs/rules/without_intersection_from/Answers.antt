-- One more field.
use Rattle.std.proofs.Common.{ℕ, ◌<◌, length}
use Rattle.lat_audit.specs.PrivateRules.{KeepsIntersection}
use Rattle.lat_audit.proofs.RuleOrders.{one_more}
use Rattle.lat_audit.proofs.rules.without_intersection_from.Goals as goal

pub loop-j-preserved : goal.loop-j-preserved
loop-j-preserved c = λ a b l lb.
    let L = c.args.table.now in
    one_more {Good = λ (x : ℕ). (y : ℕ) → y < length L.rows → KeepsIntersection L c.args.i x y} c.loop-j.j
    (λ x lx y ly. c.loop-j.invariant x y lx ly) c.in_default.ensures a l b lb
