use Rattle.std.proofs.Common.{◌≡◌, ◌∷◌, []}
use Rattle.lat_gate.specs.Passes.{known}
use Rattle.lat_gate.specs.Sessions.{IsSamePass, tally}
use Rattle.lat_gate.proofs.amounts.sessions.add_each.Given as goal

abbrev pub invariant-loop-amount : goal.invariant-loop-amount
invariant-loop-amount g l = IsSamePass (known l.initial.pass) (known l.pass) × ((known l.pass).own ≡ (l.number, tally l.number l.amount) ∷ [])
