use Rattle.std.proofs.Common.{subst, ap, sym, ◌∙◌}
use Rattle.std.specs.Prelude.{Contains}
use Rattle.lat_gate.specs.History.{of_number}
use Rattle.lat_gate.specs.Rule.{HasNumber}
use Rattle.lat_gate.specs.Steps.{held_log}
use Rattle.lat_gate.proofs.Hands.{some_number}
use Rattle.lat_gate.proofs.gate.Gate.take.Goals as goal

pub try_take-requires-clause-number : goal.try_take-requires-clause-number
try_take-requires-clause-number g c =
    subst HasNumber (sym (ap (λ m. m.0.own) (c.look-word.ensures.looked.0 ∙ c.loop.invariant.3))) (some_number _ c.args.pass.idle.2)

pub returns-then-try_take-clause-own : goal.returns-then-try_take-clause-own
returns-then-try_take-clause-own g c = λ n mine owns.
    let took = c.try_take.ensures.taken c.if-try_take.true in
    let same = c.look-word.ensures.looked.0 ∙ c.loop.invariant.3 in
    ap (of_number g.M.Machine.number n) (c.slot_out.ensures.taken ∙ ap (λ m. held_log m.0.hand) took.1)
    ∙ took.4 n mine (subst (λ m. Contains m.0.own (n, mine)) (sym same) owns)
