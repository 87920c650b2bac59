use Rattle.std.proofs.Common.{rules, arith, ap, ◌∙◌, length}
use Rattle.lat_gate.specs.Seats.{is_idle}
use Rattle.lat_gate.proofs.Hands.{first_number}
use Rattle.lat_gate.proofs.Meets.{splits}
use Rattle.lat_gate.proofs.gate.Gate.next.Goals as goal

pub split_seat-requires : goal.split_seat-requires
split_seat-requires g c = (c.requires.gate, search rules, splits _ _ _ c.requires.idle.1)

pub invariant_of-result : goal.invariant_of-result
invariant_of-result g c = record {
  idle = (
    ap (λ m. length m.1) c.split_seat.ensures.4,
    ap (λ m. is_idle m.0.hand) c.split_seat.ensures.4 ∙ ap is_idle c.requires.idle.1,
    omega (arith, ap (λ m. length m.0.own) c.split_seat.ensures.4, first_number _ c.requires.idle.2),
  );
}
