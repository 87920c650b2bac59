use Rattle.std.proofs.Common.{◌≡◌, ℕ, ◌+◌, ◌-◌, ◌*◌, ◌^◌, ◌<◌, ◌≤◌, List, length, slice_index, slice_set, All, ap, sym, ◌∙◌, arith, pow-suc}
use Rattle.std.proofs.lemmas.List.{length-set}
use Rattle.std.proofs.lemmas.List.Elements.{All-set}
use Rattle.ff_factor.specs.PrivateCounting.{number}
use Rattle.ff_factor.proofs.Counting.{number_changed, one_added, carried}
use Rattle.ff_factor.proofs.least.advance.Goals as goal

pub returns-then-digits-i-clause-next : goal.returns-then-digits-i-clause-next
returns-then-digits-i-clause-next c =
    one_added c.args.p c.loop-i.digits c.loop-i.i (omega (arith, c.loop-i-test.true, c.loop-i.auto.digits)) ∙ c.loop-i.invariant.number

pub loop-i-preserved : goal.loop-i-preserved
loop-i-preserved c =
    let p = c.args.p in
    let small : 1 < p = omega (arith, c.number-last.ensures.small, c.number-last.ensures.value) in
    let here : c.loop-i.i < length c.loop-i.digits = omega (arith, c.loop-i-test.true, c.loop-i.auto.digits) in
    record {
      size = length-set c.loop-i.digits c.loop-i.i 0 ∙ c.loop-i.invariant.size;
      residues = All-set (λ x. x < p) c.loop-i.digits c.loop-i.i 0 (omega arith) c.loop-i.invariant.residues;
      number = carried p c.loop-i.digits c.loop-i.i here small
          (let l : slice_index c.loop-i.digits c.loop-i.i < p = c.loop-i.invariant.residues c.loop-i.i 0 here in
          omega (arith, l, c.if-digits-i.false, c.number-last.ensures.value)) ∙ c.loop-i.invariant.number;
    }
