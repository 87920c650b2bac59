-- One more field.
use Rattle.std.proofs.Common.{rules, ◌≡◌, ℕ, IsTrue}
use Rattle.lat_audit.specs.PrivateRules.{KeepsComposition}
use Rattle.lat_audit.specs.PrivateLeaders.{leader}
use Rattle.lat_audit.proofs.RuleOrders.{one_more}
use Rattle.lat_audit.proofs.compositions.keeps_leaders_by.Goals as goal

pub loop-k-preserved : goal.loop-k-preserved
loop-k-preserved c =
    let kept : IsTrue c.keeps_leader.result = search rules in
    one_more {Good = λ (b : ℕ). leader c.args.leaders.now b ≡ b → KeepsComposition c.args.table.now c.args.i c.args.j b}
    c.loop-k.k c.loop-k.invariant (c.keeps_leader.ensures kept)
