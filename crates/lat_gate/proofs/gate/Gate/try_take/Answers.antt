use Rattle.std.proofs.Common.{rules, refl, ap}
use Rattle.lat_gate.proofs.Keeps.{takes_turn}
use Rattle.lat_gate.proofs.gate.Gate.try_take.Goals as goal

pub compare_exchange-requires : goal.compare_exchange-requires
compare_exchange-requires g c = let me = c.args.seat.now.me in
    (c.requires.gate, search rules, takes_turn _ _ _ me me.0 _ _ (ap (λ l. (me.0, l)) c.requires.idle) c.requires.number c.requires.even refl)
