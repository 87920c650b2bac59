-- One more field, and all of them.
use Rattle.std.proofs.Common.{rules, ◌≡◌, ℕ, ◌<◌, List, length, IsTrue, subst, arith}
use Rattle.lat_audit.specs.PrivateRules.{KeepsComposition}
use Rattle.lat_audit.specs.PrivateLeaders.{KeepsToLeaders, leader}
use Rattle.lat_audit.proofs.RuleOrders.{one_more}
use Rattle.lat_audit.proofs.LeadCompositions.{all_by_leaders}
use Rattle.lat_audit.proofs.compositions.are_composed.Goals as goal

pub loop-i-preserved : goal.loop-i-preserved
loop-i-preserved c =
    let L = c.args.table.now in
    let leaders = c.leaders_of-leaders.result.items in
    let kept : IsTrue c.keeps_from.result = search rules in
    let i = c.loop-i.i in
    let own : (b : ℕ) → b < length L.rows → KeepsToLeaders L leaders i b =
    subst (λ (x : List ℕ). (b : ℕ) → b < length L.rows → KeepsToLeaders L x i b) c.as_slice.ensures.value (c.keeps_from.ensures.own kept) in
    let leads : leader leaders i ≡ i → (b e : ℕ) → b < length L.rows → e < length L.rows → leader leaders b ≡ b
    → leader leaders e ≡ e → KeepsComposition L i b e =
    subst (λ (x : List ℕ). leader x i ≡ i → (b e : ℕ) → b < length L.rows → e < length L.rows → leader x b ≡ b
    → leader x e ≡ e → KeepsComposition L i b e) c.as_slice.ensures.value (c.keeps_from.ensures.leads kept) in (
      λ a b la lb. one_more {Good = λ (x : ℕ). (y : ℕ) → y < length L.rows → KeepsToLeaders L leaders x y} i
          (λ x lx y ly. c.loop-i.invariant.0 x y lx ly) own a la b lb,
      λ a b e la lb le ha hb he. one_more {Good = λ (x : ℕ). leader leaders x ≡ x → (y z : ℕ) → y < length L.rows → z < length L.rows
          → leader leaders y ≡ y → leader leaders z ≡ z → KeepsComposition L x y z} i
          (λ x lx hx y z ly lz hy hz. c.loop-i.invariant.1 x y z lx ly lz hx hy hz) leads a la ha b e lb le hb he,
    )

pub returns : goal.returns
returns c = λ _.
    let L = c.args.table.now in
    let count = c.count-i-end.ensures.count in
    let done = c.loop-i-test.false in
    let whole : (a : ℕ) → a < length L.rows → a < c.loop-i.i = λ a l. omega (arith, count, done, l) in
    all_by_leaders L c.requires.maps c.leaders_of-leaders.result.items c.leaders_of-leaders.ensures c.requires.inverses
    (λ a b la lb. c.loop-i.invariant.0 a b (whole a la) lb)
    (λ a b e la lb le ha hb he. c.loop-i.invariant.1 a b e (whole a la) lb le ha hb he)
