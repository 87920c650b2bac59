use Rattle.std.proofs.Common.{rules}
use Rattle.lat_gate.proofs.Keeps.{looks}
use Rattle.lat_gate.proofs.gate.Gate.look.Goals as goal

pub load-requires : goal.load-requires
load-requires g c = (c.requires.gate, search rules, looks _ _ _ _)
