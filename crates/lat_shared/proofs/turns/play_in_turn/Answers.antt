use Rattle.std.proofs.Common.{◌≡◌, ℕ, List, [], ◌∷◌, ◌++◌, sym, ap, ap₂, ◌∙◌, subst}
use Rattle.std.specs.Prelude.{Contains}
use Rattle.lat_core.specs.declared.replies.Entry.{Entry}
use Rattle.lat_core.specs.Histories.{entries_of}
use Rattle.lat_history.specs.Books.{History}
use Rattle.lat_history.proofs.BookLemmas.{entry_of}
use Rattle.lat_gate.specs.Seats.{Known, published, informed}
use Rattle.lat_gate.specs.Passes.{known, taken}
use Rattle.lat_gate.proofs.Holders.{contains_head}
use Rattle.lat_shared.specs.PrivateTurns.{Found}
use Rattle.lat_shared.proofs.TurnLemmas.{found}
use Rattle.lat_shared.proofs.turns.play_in_turn.Goals as goal

pub publish-requires-clause-one_more : goal.publish-requires-clause-one_more
publish-requires-clause-one_more g c =
    let e = entry_of c.args.session c.args.request.now c.in-Ok.played.placed.reply in
    let mine : ℕ × List Entry = (c.args.session, entries_of c.args.session (known c.args.pass).seen) in
    let own = ap (λ (k : Known Entry). k.own) c.take-turn.ensures.pass ∙ c.requires.own in
    let old = ap (λ (h : History). h.entries) c.machine.ensures.value ∙ c.take-turn.ensures.history in (
      e,
      ap (λ (h : History). h.entries) c.in-Ok.ensures.played.entered ∙ ap (λ (l : List Entry). l ++ e ∷ []) old,
      (
        entries_of c.args.session (known c.args.pass).seen,
        subst (λ (l : List (ℕ × List Entry)). Contains l mine) (sym own) (contains_head mine []),
      ),
    )

pub returns-in-Ok-clause-played : goal.returns-in-Ok-clause-played
returns-in-Ok-clause-played g c =
    let t = c.take-turn.ensures in
    let e = entry_of c.args.session c.args.request.now c.in-Ok.played.placed.reply in
    let old = ap (λ (h : History). h.entries) c.machine.ensures.value ∙ t.history in
    let at = ap (λ (h : History). h.entries) c.in-Ok.ensures.played.entered ∙ ap (λ (l : List Entry). l ++ e ∷ []) old in
    record {
      before = c.machine.result.now;
      after = c.play.new.self;
      found = subst (λ (h : History). Found (known c.args.pass) c.args.session h) (sym c.machine.ensures.value)
          (found _ _ _ _ t.setting t.history t.begins c.requires.own t.own t.legal);
      is_history = c.in-Ok.ensures.whole;
      is_played = c.in-Ok.ensures.played;
      pass = c.publish.ensures.pass e at ∙ ap (λ (k : Known Entry). published k c.play.new.self.entries e) t.pass;
    }

pub returns-in-Err-clause-lost : goal.returns-in-Err-clause-lost
returns-in-Err-clause-lost g c =
    let t = c.take-turn.ensures in
    let old = ap (λ (h : History). h.entries) c.machine.ensures.value ∙ t.history in
    record {
      before = c.machine.result.now;
      found = subst (λ (h : History). Found (known c.args.pass) c.args.session h) (sym c.machine.ensures.value)
          (found _ _ _ _ t.setting t.history t.begins c.requires.own t.own t.legal);
      refused = c.in-Err.ensures.fault;
      pass = c.give_back.ensures.pass ∙ ap₂ informed t.pass (sym old);
    }
