use Rattle.std.proofs.Common.{◌<◌, length, ◌∙◌, subst, arith}
use Rattle.std.proofs.lemmas.List.{get_or_default}
use Rattle.ff_meet.specs.Degrees.{Holds}
use Rattle.ff_meet.proofs.sets.DegreeSet.of.Goals as goal

pub loop-d-init : goal.loop-d-init
loop-d-init c = record {
  set = record { count = c.nothing-held.ensures.count; above_zero = c.nothing-held.ensures.none 0 };
  only = λ d h. absurd (c.nothing-held.ensures.none d h);
  all = λ k l. absurd (omega arith);
}

pub returns : goal.returns
returns c d = (
  c.loop-d.invariant.only d,
  λ k. let l : k.0 < length c.args.degrees.now = k.1 in
      subst (Holds c.loop-d.held) (get_or_default c.args.degrees.now k.0 0 d l ∙ k.2)
      (c.loop-d.invariant.all k.0 (omega (arith, c.loop-d-test.false))),
)
