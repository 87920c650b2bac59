use Rattle.std.proofs.Common.{rules}
use Rattle.lat_gate.proofs.Hands.{no_slot, idle_hand, some_number}
use Rattle.lat_gate.proofs.Meets.{joins}
use Rattle.lat_gate.proofs.gate.Gate.join.Goals as goal

pub join_seat-requires : goal.join_seat-requires
join_seat-requires g c = let kept = c.args.kept.now.idle in let other = c.args.other.idle in (
  c.requires.kept_of_gate,
  c.requires.other_of_gate,
  no_slot _ other.0,
  search rules,
  joins _ _ _ _ _ (idle_hand _ kept.1) (idle_hand _ other.1) (some_number _ kept.2),
)
