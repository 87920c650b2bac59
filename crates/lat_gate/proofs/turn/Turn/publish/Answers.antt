use Rattle.std.proofs.Common.{◌∷◌, [], ◌∙◌, subst}
use Rattle.lat_gate.specs.Rule.{Has}
use Rattle.lat_gate.proofs.Turns.{last_entry, of_number_entry, settled_published}
use Rattle.lat_gate.proofs.turn.Turn.publish.Goals as goal

pub settle-requires-clause-more : goal.settle-requires-clause-more
settle-requires-clause-more g c = let t = c.requires.one_more in (t.0 ∷ [], t.1, of_number_entry g.M.Machine.number _ t.0 t.2)

pub returns-clause-pass : goal.returns-clause-pass
returns-clause-pass g c = λ e is. let t = c.requires.one_more in
    c.settle.ensures.pass ∙ settled_published g.M.Machine.number _ c.args.self.seat.me.0 _ e c.args.self.held.2 is
    (subst (λ d. Has c.args.self.seat.me.0.own (g.M.Machine.number d)) (last_entry _ _ t.0 e t.1 is) t.2)
