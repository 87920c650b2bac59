-- One number more.
use Rattle.std.proofs.Common.{◌≡◌, ◌+◌, ◌%◌, [], ◌∷◌, ◌++◌, sym, ap, ap₂, ◌∙◌, arith}
use Rattle.lat_gen.specs.Generated.{next_state, drawn, state_after}
use Rattle.lat_gen.specs.PrivateDraws.{draws_below}
use Rattle.lat_gen.proofs.DrawnNumbers.{draws_more, state_more, none_drawn, no_draw}
use Rattle.lat_gen.proofs.draws.Generator.draw_below.Goals as goal

pub loop-k-init : goal.loop-k-init
loop-k-init c = (
  c.new-numbers.ensures.items ∙ sym (none_drawn c.args.self.now.state c.args.modulus),
  sym (no_draw c.args.self.now.state),
)

pub loop-k-preserved : goal.loop-k-preserved
loop-k-preserved c =
    let state : c.draw.new.self.state ≡ state_after c.args.self.now.state (c.loop-k._k + 1) =
    c.draw.ensures.state ∙ ap next_state c.loop-k.invariant.1 ∙ sym (state_more c.args.self.now.state c.loop-k._k) in (
      c.in_ok-push.ensures.items
          ∙ ap₂ (λ ns x. ns ++ x ∷ []) c.loop-k.invariant.0 (ap₂ (λ x m. x % m) (c.draw.ensures.value ∙ ap drawn state) c.from.ensures)
          ∙ sym (draws_more c.args.self.now.state c.args.modulus c.loop-k._k),
      state,
    )

pub returns-clause-numbers : goal.returns-clause-numbers
returns-clause-numbers c =
    let test = c.loop-k-test.false in
    let end = c.loop-k.auto._k-end in
    let last : c.loop-k._k ≡ c.args.count = omega arith in
    c.loop-k.invariant.0 ∙ ap (draws_below c.args.self.now.state c.args.modulus) last

pub returns-clause-state : goal.returns-clause-state
returns-clause-state c =
    let test = c.loop-k-test.false in
    let end = c.loop-k.auto._k-end in
    let last : c.loop-k._k ≡ c.args.count = omega arith in
    c.loop-k.invariant.1 ∙ ap (state_after c.args.self.now.state) last
