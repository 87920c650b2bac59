use Rattle.std.proofs.Common.{◌≡◌, ◌+◌, [], refl, ap, sym, ◌∙◌, arith, length}
use Rattle.lat_gate.specs.Steps.{others, first_alone}
use Rattle.lat_gate.specs.Seats.{known_of, dealt}
use Rattle.lat_gate.specs.Passes.{known}
use Rattle.lat_gate.proofs.Dealing.{each_after_push, all_left, some_left, others_left, next_dealt}
use Rattle.lat_gate.proofs.gate.Gate.deal.Goals as goal

pub loop-init : goal.loop-init
loop-init g c = let v = c.args.first.me.0 in (refl, c.requires.all ∙ ap (λ w. (w, [])) (all_left v.setting v.opening c.args.passes), omega (arith, ap length c.requires.room.0), c.requires.room.1, λ i h. absurd (omega arith))

pub next-requires-clause-idle : goal.next-requires-clause-idle
next-requires-clause-idle g c = let at = c.loop.invariant.1 in let v = c.args.first.me.0 in (
  ap (λ m. m.1) at,
  ap (λ m. m.0.hand) at,
  omega (arith, ap (λ m. length m.0.own) at, some_left {E = g.row.M-Entry.Denot} v.setting v.opening c.args.passes c.loop.counter c.loop-test.true),
)

pub loop-preserved : goal.loop-preserved
loop-preserved g c =
    let at = c.loop.invariant.1 in let v = c.args.first.me.0 in let k = c.loop.counter in let h = c.loop-test.true in
    let long : length c.loop.dealt.items ≡ k = let n = c.loop.invariant.2 in omega arith in (
      c.next.ensures.seat.0 ∙ c.loop.invariant.0,
      c.next.ensures.seat.1 ∙ ap (λ m. (others m.0, [])) at ∙ ap (λ w. (w, [])) (others_left v.setting v.opening c.args.passes k h),
      omega (arith, c.push_reserved.ensures.len, c.loop.invariant.2),
      c.push_reserved.ensures.capacity ∙ c.loop.invariant.3,
      rw c.push_reserved.ensures.items (λ i less. each_after_push
          (λ j pass. known pass ≡ dealt c.args.first.table_id v.setting v.opening c.args.passes (j + 1)) c.loop.dealt.items c.next.result
          (λ j near. c.loop.invariant.4 j (omega arith))
          (c.next.ensures.pass ∙ ap (λ id. known_of id (first_alone c.loop.first.me.0)) c.loop.invariant.0 ∙ ap (λ m. known_of c.args.first.table_id (first_alone m.0)) at
          ∙ next_dealt v.setting v.opening c.args.passes k h c.args.first.table_id ∙ ap (λ j. dealt c.args.first.table_id v.setting v.opening c.args.passes (j + 1)) (sym long))
          i (omega arith)),
    )

pub returns-clause-dealt : goal.returns-clause-dealt
returns-clause-dealt g c = let all = c.loop.invariant.4 in λ i h. all i (let done = c.loop-test.false in omega arith)
