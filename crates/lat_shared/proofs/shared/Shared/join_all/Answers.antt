use Rattle.std.proofs.Common.{◌≡◌, List, [], ◌∷◌, ◌++◌, length, refl, sym, ap, ◌∙◌, subst, arith, append_assoc, append-nil}
use Rattle.std.specs.Prelude.{All}
use Rattle.std.specs.Vec.Iter.{into_iter_items}
use Rattle.std.proofs.lemmas.List.Elements.{All-nil, All-head, All-tail, All-push}
use Rattle.lat_gate.specs.Passes.{known}
use Rattle.lat_shared.specs.Sharing.{Sharing, SharedPass, IsPassOf}
use Rattle.lat_shared.specs.PrivatePasses.{Has}
use Rattle.lat_shared.proofs.JoinLemmas.{all_front, all_last, none_left, covers_itself, covers_joined, covers_other, has_covered, all_have_still, joined_sharing, both_joined}
use Rattle.lat_shared.proofs.shared.Shared.join_all.Goals as goal

pub loop-pass-init : goal.loop-pass-init
loop-pass-init c =
    let last = c.in-Some.last in
    let gives = c.into_iter-pass-iterator.ensures.into_iter_gives in
    let every = subst (All (IsPassOf c.args.self.now)) c.in-Some.ensures.items c.requires.of_shared in (
      refl,
      gives.1 ∙ c.pop.new.self.ok.0 ∙ ap length (sym gives.0),
      subst (All (IsPassOf c.args.self.now)) (sym gives.0)
          (all_front (IsPassOf c.args.self.now) c.pop.new.self.items (last ∷ []) every),
      c.into_pass-kept.ensures.sharing ∙ all_last (IsPassOf c.args.self.now) c.pop.new.self.items last every,
      c.into_pass-kept.ensures.joined,
      covers_itself (known c.into_pass-kept.result),
      All-nil (Has (known c.into_pass-kept.result)),
    )

pub join-requires-clause-other_of_gate : goal.join-requires-clause-other_of_gate
join-requires-clause-other_of_gate c =
    let at = c.loop-pass in
    let x = c.in-Some-pass.pass in
    let steps : into_iter_items at.pass-iterator ≡ x ∷ into_iter_items c.next.new.self = c.in-Some-pass.ensures.steps.0 in
    let every = subst (All (IsPassOf c.args.self.now)) steps at.invariant.2 in
    ap (λ (s : Sharing). s.gate) (c.into_pass.ensures.sharing
    ∙ All-head (IsPassOf c.args.self.now) x (into_iter_items c.next.new.self) every ∙ sym c.self.view_is)

pub loop-pass-preserved : goal.loop-pass-preserved
loop-pass-preserved c =
    let at = c.loop-pass in
    let x = c.in-Some-pass.pass in
    let a = known at.kept in
    let b = known c.into_pass.result in
    let k = known c.join.new.kept in
    let e = c.join.ensures.pass in
    let begins = c.join.ensures.begins_with_kept in
    let steps : into_iter_items at.pass-iterator ≡ x ∷ into_iter_items c.next.new.self = c.in-Some-pass.ensures.steps.0 in
    let every = subst (All (IsPassOf c.args.self.now)) steps at.invariant.2 in
    let of_b = c.into_pass.ensures.sharing ∙ All-head (IsPassOf c.args.self.now) x (into_iter_items c.next.new.self) every in (
      append_assoc at.yielded (x ∷ []) _ ∙ rw (← steps) at.invariant.0,
      let was = at.invariant.1 in let gone = c.in-Some-pass.ensures.steps.1 in let short = ap length steps in omega arith,
      All-tail (IsPassOf c.args.self.now) x (into_iter_items c.next.new.self) every,
      joined_sharing a b k c.args.self.now e at.invariant.3,
      both_joined a b k c.args.self.now e begins at.invariant.3 of_b at.invariant.4 c.into_pass.ensures.joined,
      covers_joined (known c.into_pass-kept.result) a b k e begins at.invariant.5,
      All-push (Has k) at.yielded x
          (all_have_still k a at.yielded (covers_joined a a b k e begins (covers_itself a)) at.invariant.6)
          (has_covered k b x (covers_other a b k e c.join.ensures.begins_with_other) c.into_pass.ensures.own c.into_pass.ensures.told),
    )

pub returns-clause-has : goal.returns-clause-has
returns-clause-has c =
    let at = c.loop-pass in
    let k = known at.kept in
    let last = c.in-Some.last in
    let none = c.in-None.ensures.steps in
    let empty : into_iter_items at.pass-iterator ≡ [] = none_left _ (sym at.invariant.1 ∙ none.0) in
    let all : at.yielded ≡ c.pop.new.self.items =
    sym (append-nil at.yielded) ∙ rw empty at at.invariant.0 ∙ c.into_iter-pass-iterator.ensures.into_iter_gives.0 in
    subst (All (Has k)) (ap (λ (l : List SharedPass). l ++ last ∷ []) all ∙ sym c.in-Some.ensures.items)
    (All-push (Has k) at.yielded last at.invariant.6
    (has_covered k (known c.into_pass-kept.result) last at.invariant.5 c.into_pass-kept.ensures.own c.into_pass-kept.ensures.told))
