use Rattle.std.proofs.Common.{◌≡◌, ◌+◌, ◌*◌, length, arith, sym, ap, ◌∙◌}
use Rattle.ff_factor.proofs.GrowingLists.{taken_more}
use Rattle.ff_factor.proofs.polynomials.every.Goals as goal

pub loop-at-preserved : goal.loop-at-preserved
loop-at-preserved c =
    let i = c.loop-at.invariant in
    let xs = c.loop-at.numbers.items in
    let more : length c.push.new.self.items ≡ length xs + 1 = c.push.ensures.len in
    let next : (length xs + 1) * c.args.step ≡ length xs * c.args.step + c.args.step = omega arith in
    record {
      place = ap (λ k. k + c.args.step) i.place ∙ sym next ∙ ap (λ k. k * c.args.step) (sym more);
      fewer = omega (arith, i.fewer, c.requires.step.0);
      room = omega (arith, i.fewer, c.loop-at-test.true);
      below = omega (arith, c.requires.step.1, c.requires.room, c.loop-at-test.true);
      taken = taken_more xs c.args.c.now c.push.new.self.items c.args.step c.loop-at.at i.place c.push.ensures.items i.taken;
    }
