-- One more field.
use Rattle.std.proofs.Common.{rules, ◌≡◌, true}
use Rattle.lat_audit.specs.Verdicts.{LacksInverse}
use Rattle.lat_audit.specs.PrivateRules.{KeepsInverse}
use Rattle.lat_audit.proofs.RuleOrders.{one_more, told_true}
use Rattle.lat_audit.proofs.rules.without_inverse_from.Goals as goal

pub loop-j-preserved : goal.loop-j-preserved
loop-j-preserved c =
    let L = c.args.table.now in
    let kept : c.keeps_inverse.result ≡ true = search rules in
    one_more {Good = KeepsInverse L c.args.i} c.loop-j.j c.loop-j.invariant
    (told_true (KeepsInverse L c.args.i c.loop-j.j) (LacksInverse L (c.args.i, c.loop-j.j)) c.keeps_inverse.result kept c.keeps_inverse.ensures)
