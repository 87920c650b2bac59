-- The first pair, and one more field.
use Rattle.std.proofs.Common.{ℕ, ◌<◌, length}
use Rattle.lat_audit.specs.Verdicts.{LacksInverse}
use Rattle.lat_audit.specs.PrivateRules.{KeepsInverse}
use Rattle.lat_audit.proofs.RuleOrders.{first_pair, one_more, inverse_kept}
use Rattle.lat_audit.proofs.rules.without_inverse.Goals as goal

pub returns-in-Some : goal.returns-in-Some
returns-in-Some c =
    let L = c.args.table.now in
    first_pair (length L.rows) {P = LacksInverse L} {Good = KeepsInverse L} c.loop-i.i c.in-Some.j (inverse_kept L)
    (λ a b lacks. (c.count-i-end.ensures.within a b lacks.map lacks.stored).1)
    c.in-Some.ensures.broken c.loop-i.invariant c.in-Some.ensures.before

pub loop-i-preserved : goal.loop-i-preserved
loop-i-preserved c = λ a b l lb.
    let L = c.args.table.now in
    one_more {Good = λ (x : ℕ). (y : ℕ) → y < length L.rows → KeepsInverse L x y} c.loop-i.i
    (λ x lx y ly. c.loop-i.invariant x y lx ly) c.in_default.ensures a l b lb
