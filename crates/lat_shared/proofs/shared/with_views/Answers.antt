use Rattle.std.proofs.Common.{◌≡◌, ℕ, ◌+◌, ◌<◌, ◌≤◌, ◌^◌, List, [], ◌∷◌, ◌++◌, length, sym, ap, ap₂, ◌∙◌, subst, arith, rules, append_assoc, length-append}
use Rattle.std.specs.Vec.Iter.{into_iter_items}
use Rattle.lat_gate.specs.Passes.{known}
use Rattle.lat_shared.specs.Sharing.{SharedPass}
use Rattle.lat_shared.specs.PrivatePasses.{Keeps, KeepFrom, shared_pass}
use Rattle.lat_shared.proofs.JoinLemmas.{passes_append, passes_length, keep_at}
use Rattle.lat_shared.proofs.shared.with_views.Goals as goal

pub overflow_cast-number : goal.overflow_cast-number
overflow_cast-number c = let at = c.loop-pass in omega (
  arith,
  c.len.ensures,
  ap length at.invariant.2,
  passes_length 1 c.args.front at.yielded,
  ap length at.invariant.0,
  length-append at.yielded (into_iter_items at.pass-iterator),
  ap length c.into_iter-pass-iterator.ensures.into_iter_gives.0,
  c.requires.few,
)

pub overflow_add-number : goal.overflow_add-number
overflow_add-number c = let at = c.loop-pass in omega (
  arith,
  c.len.ensures,
  ap length at.invariant.2,
  passes_length 1 c.args.front at.yielded,
  ap length at.invariant.0,
  length-append at.yielded (into_iter_items at.pass-iterator),
  ap length c.into_iter-pass-iterator.ensures.into_iter_gives.0,
  c.requires.few,
)

pub new-requires : goal.new-requires
new-requires c =
    let at = c.loop-pass in
    let x = c.in-Some.pass in
    let steps : into_iter_items at.pass-iterator ≡ x ∷ into_iter_items c.next.new.self = c.in-Some.ensures.steps.0 in
    let all = sym (sym (ap (λ l. at.yielded ++ l) steps) ∙ at.invariant.0 ∙ c.into_iter-pass-iterator.ensures.into_iter_gives.0) in
    let place : 1 + length at.yielded ≡ c.len.result + 1 =
    omega (arith, c.len.ensures, ap length at.invariant.2, passes_length 1 c.args.front at.yielded) in
    record {
      keeps = subst (λ (n : ℕ). Keeps (known x) n c.args.front c.args.view.now) place
          (keep_at 1 c.args.front c.args.view.now at.yielded x (into_iter_items c.next.new.self)
          (subst (KeepFrom 1 c.args.front c.args.view.now) all c.requires.keep));
    }

pub loop-pass-preserved : goal.loop-pass-preserved
loop-pass-preserved c =
    let at = c.loop-pass in
    let x = c.in-Some.pass in
    let steps : into_iter_items at.pass-iterator ≡ x ∷ into_iter_items c.next.new.self = c.in-Some.ensures.steps.0 in
    let place : c.len.result + 1 ≡ 1 + length at.yielded =
    omega (arith, c.len.ensures, ap length at.invariant.2, passes_length 1 c.args.front at.yielded) in (
      append_assoc at.yielded (x ∷ []) _ ∙ rw (← steps) at.invariant.0,
      let was = at.invariant.1 in let gone = c.in-Some.ensures.steps.1 in let short = ap length steps in omega arith,
      c.in_ok-push.ensures.items
          ∙ ap₂ (λ (xs : List SharedPass) (p : SharedPass). xs ++ p ∷ []) at.invariant.2
          (c.in_ok-new.ensures.value ∙ ap (λ (n : ℕ). shared_pass (known x) n c.args.front) place)
          ∙ sym (passes_append 1 c.args.front at.yielded x),
    )
