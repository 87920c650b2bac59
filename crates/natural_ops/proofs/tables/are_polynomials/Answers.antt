use Rattle.std.proofs.Common.{subst, ◌∙◌, arith}
use Rattle.std.proofs.lemmas.List.Elements.{AllWithin-more, AllWithin-upto, All-from_all_within}
use Rattle.std.proofs.lemmas.List.{get_or_default}
use Rattle.ff_poly.specs.Polynomial.{IsPoly}
use Rattle.natural_ops.proofs.tables.are_polynomials.Goals as goal

pub loop-k-preserved : goal.loop-k-preserved
loop-k-preserved c = AllWithin-more IsPoly c.args.polys.now 0 c.loop-k.k c.loop-k.invariant
    (λ d. subst IsPoly (c.index-polys-k.is ∙ get_or_default c.args.polys.now c.loop-k.k
    c.index-polys-k.result d c.loop-k-test.true) c.prime-prime.ensures.whole)

pub returns : goal.returns
returns c = All-from_all_within IsPoly c.args.polys.now
    (AllWithin-upto IsPoly c.args.polys.now 0 c.loop-k.k _ (omega (arith, c.loop-k-test.false))
    c.loop-k.invariant)
