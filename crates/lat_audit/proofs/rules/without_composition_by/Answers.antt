-- One more field.
use Rattle.std.proofs.Common.{rules, ◌≡◌, true}
use Rattle.lat_audit.specs.Verdicts.{LacksComposition}
use Rattle.lat_audit.specs.PrivateRules.{KeepsComposition}
use Rattle.lat_audit.proofs.RuleOrders.{one_more, told_true}
use Rattle.lat_audit.proofs.rules.without_composition_by.Goals as goal

pub loop-k-preserved : goal.loop-k-preserved
loop-k-preserved c =
    let L = c.args.table.now in
    let kept : c.keeps_composition.result ≡ true = search rules in
    one_more {Good = KeepsComposition L c.args.i c.args.j} c.loop-k.k c.loop-k.invariant
    (told_true (KeepsComposition L c.args.i c.args.j c.loop-k.k) (LacksComposition L (c.args.i, c.args.j, c.loop-k.k)) c.keeps_composition.result kept c.keeps_composition.ensures)
