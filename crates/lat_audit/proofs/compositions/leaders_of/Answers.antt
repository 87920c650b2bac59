-- One more field.
use Rattle.std.proofs.Common.{rules, ◌≡◌, ℕ, ◌+◌, ◌<◌, List, [], ◌∷◌, ◌++◌, length, sym, subst}
use Rattle.lat_audit.specs.PrivateLeaders.{AreLed, Heads}
use Rattle.lat_audit.proofs.LeadFields.{led_pushed}
use Rattle.lat_audit.proofs.compositions.leaders_of.Goals as goal

pub loop-i-preserved : goal.loop-i-preserved
loop-i-preserved c =
    let L = c.args.table.now in
    let i = c.loop-i.i in
    let count : i < length L.rows = search rules in
    let before : length c.loop-i.leaders.items ≡ i = c.loop-i.invariant.0 in
    let items : c.push.new.self.items ≡ c.loop-i.leaders.items ++ c.leader_of-leader.result ∷ [] = c.push.ensures.items in
    let heads : Heads L c.loop-i.leaders.items i c.leader_of-leader.result =
    subst (λ (x : List ℕ). Heads L x i c.leader_of-leader.result) c.as_slice.ensures.value c.leader_of-leader.ensures in
    let more : length (c.loop-i.leaders.items ++ c.leader_of-leader.result ∷ []) ≡ i + 1 = search rules in (
      subst (λ (x : List ℕ). length x ≡ i + 1) (sym items) more,
      subst (AreLed L) (sym items)
          (led_pushed L c.loop-i.leaders.items c.leader_of-leader.result i before (c.requires i count) heads c.loop-i.invariant.1),
    )
