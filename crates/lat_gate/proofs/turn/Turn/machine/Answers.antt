use Rattle.std.proofs.Common.{refl}
use Rattle.lat_gate.proofs.Lending.{same_turn}
use Rattle.lat_gate.proofs.turn.Turn.machine.Goals as goal

pub returns : goal.returns
returns g c = ((refl, λ w. same_turn _ _ _ _ _ _ _), record { writes_back = tt; value = refl })
