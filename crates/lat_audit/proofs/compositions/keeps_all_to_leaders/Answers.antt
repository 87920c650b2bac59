-- One more field.
use Rattle.std.proofs.Common.{rules, IsTrue}
use Rattle.lat_audit.specs.PrivateLeaders.{KeepsToLeaders}
use Rattle.lat_audit.proofs.RuleOrders.{one_more}
use Rattle.lat_audit.proofs.compositions.keeps_all_to_leaders.Goals as goal

pub loop-j-preserved : goal.loop-j-preserved
loop-j-preserved c =
    let kept : IsTrue c.keeps_to_leaders.result = search rules in
    one_more {Good = KeepsToLeaders c.args.table.now c.args.leaders.now c.args.i}
    c.loop-j.j c.loop-j.invariant (c.keeps_to_leaders.ensures kept)
