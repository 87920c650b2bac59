use Rattle.std.proofs.Common.{[], refl, ◌∙◌, sym, append-nil}
use Rattle.lat_gate.proofs.Turns.{settled_informed}
use Rattle.lat_gate.proofs.turn.Turn.give_back.Goals as goal

pub settle-requires-clause-more : goal.settle-requires-clause-more
settle-requires-clause-more g c = ([], c.requires.none_more ∙ sym (append-nil _), λ n lacks. refl)

pub returns-clause-pass : goal.returns-clause-pass
returns-clause-pass g c = c.settle.ensures.pass ∙ settled_informed g.M.Machine.number _ c.args.self.seat.me.0 _ c.args.self.held.2 c.requires.none_more
