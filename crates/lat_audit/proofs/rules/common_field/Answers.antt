-- One more field, and all of them.
use Rattle.std.proofs.Common.{◌<◌, ℕ, arith}
use Rattle.lat_audit.specs.PrivateRules.{HaveOverfield}
use Rattle.lat_audit.proofs.RuleOrders.{one_more}
use Rattle.lat_audit.proofs.rules.common_field.Goals as goal

pub loop-k-preserved : goal.loop-k-preserved
loop-k-preserved c =
    one_more {Good = λ (b : ℕ). HaveOverfield c.args.table.now c.args.i c.args.j b → ⊥} c.loop-k.k c.loop-k.invariant c.if-have_overfield.ensures

pub returns : goal.returns
returns c = λ k l h.
    let count = c.count-k-end.ensures.count in
    let done = c.loop-k-test.false in
    let below : k < c.loop-k.k = omega (arith, count, done, l) in
    c.loop-k.invariant k below h
