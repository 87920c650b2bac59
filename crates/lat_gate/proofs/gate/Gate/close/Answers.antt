use Rattle.std.proofs.Common.{subst}
use Rattle.lat_gate.proofs.Closings.{last_seat, closed_slot, closed_machine}
use Rattle.lat_gate.proofs.gate.Gate.close.Goals as goal

pub unreachable-requires : goal.unreachable-requires
unreachable-requires g c = let idle = c.args.pass.idle in
    let last = last_seat c.args.pass.seat.me.0 idle.1 idle.2 c.requires.every in
    let found = closed_slot _ _ _ _ _ _ c.close_with-closed.ensures.values.2 last c.take-slot.ensures.value in
    c.in_default.not-Some found.0 found.1

pub returns-clause-setting : goal.returns-clause-setting
returns-clause-setting g c = let idle = c.args.pass.idle in
    let last = last_seat c.args.pass.seat.me.0 idle.1 idle.2 c.requires.every in
    let done = closed_machine _ _ _ _ _ _ c.close_with-closed.ensures.values.2 last c.take-slot.ensures.value
    c.in-Some.machine c.in-Some.is in
    done.setting

pub returns-clause-begins : goal.returns-clause-begins
returns-clause-begins g c = let idle = c.args.pass.idle in
    let last = last_seat c.args.pass.seat.me.0 idle.1 idle.2 c.requires.every in
    let done = closed_machine _ _ _ _ _ _ c.close_with-closed.ensures.values.2 last c.take-slot.ensures.value
    c.in-Some.machine c.in-Some.is in
    done.begins

pub returns-clause-own : goal.returns-clause-own
returns-clause-own g c = let idle = c.args.pass.idle in
    let last = last_seat c.args.pass.seat.me.0 idle.1 idle.2 c.requires.every in
    let done = closed_machine _ _ _ _ _ _ c.close_with-closed.ensures.values.2 last c.take-slot.ensures.value
    c.in-Some.machine c.in-Some.is in
    done.own

pub returns-clause-others : goal.returns-clause-others
returns-clause-others g c = let idle = c.args.pass.idle in
    let last = last_seat c.args.pass.seat.me.0 idle.1 idle.2 c.requires.every in
    let done = closed_machine _ _ _ _ _ _ c.close_with-closed.ensures.values.2 last c.take-slot.ensures.value
    c.in-Some.machine c.in-Some.is in
    λ n lacks. done.others n (λ dealt. lacks (c.requires.every n dealt))

pub returns-clause-legal : goal.returns-clause-legal
returns-clause-legal g c = let idle = c.args.pass.idle in
    let last = last_seat c.args.pass.seat.me.0 idle.1 idle.2 c.requires.every in
    let done = closed_machine _ _ _ _ _ _ c.close_with-closed.ensures.values.2 last c.take-slot.ensures.value
    c.in-Some.machine c.in-Some.is in
    subst (λ set. g.M.Machine.legal set (g.M.Machine.entries c.in-Some.machine)) done.setting c.count-count.ensures.legal
