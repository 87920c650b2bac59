use Rattle.std.proofs.Common.{◌*◌, ◌∷◌, ℕ, Some, None, rules, ap, sym, ◌∙◌}
use Rattle.atomic_table.specs.Table.{rest}
use Rattle.lat_gate.proofs.Hands.{empty_slot, held_hand, one_number}
use Rattle.lat_gate.proofs.Keeps.{gives_back}
use Rattle.lat_gate.proofs.Turns.{only_number}
use Rattle.lat_gate.proofs.turn.Turn.settle.Goals as goal

pub exchange-requires : goal.exchange-requires
exchange-requires g c = let at = empty_slot _ c.args.self.held.0 in (c.args.self.of_gate, (None, at ∙ ap (λ l. (0, None) ∷ rest l) (sym at)))

pub swap-requires : goal.swap-requires
swap-requires g c =
    let held = c.args.self.held in let v = c.args.self.seat.me.0 in let x = c.args.self.machine in
    let one = one_number v.own held.2 in let more = c.requires.more in (
      c.exchange.ensures.0 ∙ c.args.self.of_gate,
      search rules,
      gives_back _ _ _ _ v x one.0 one.1.0 _ more.0 _ c.args.self.gate.now.sized.1
          (c.exchange.ensures.3 ∙ ap (λ l. (v, (0, Some x) ∷ rest l)) (empty_slot c.args.self.seat.me.1 held.0))
          record {
            own = one.1.1;
            holds = held_hand v.hand held.1;
            longer = more.1;
            only = λ n ne. more.2 n (only_number v.own one.0 n one.1.0 one.1.1 ne);
            setting = c.requires.setting;
          }
          (ap (λ (n : ℕ). 2 * n) (c.from-word.ensures ∙ c.count.ensures.counted)),
    )
