use Rattle.std.proofs.Common.{arith}
use Rattle.ff_polyx.proofs.FieldCarriers.{propositional, ring}
use Rattle.ff_roots.proofs.ValueSums.{value_of_added, added_so_far}
use Rattle.ff_roots.proofs.places.add_multiples.Goals as goal

pub returns-clause-sum : goal.returns-clause-sum
returns-clause-sum c =
    let K = c.args.field.now in
    let P = propositional K in
    let R = ring K c.prime-prime.ensures.whole in
    let f = c.args.places.now in
    let b = c.args.values.now in
    let t = c.args.v.now in
    value_of_added P R t f b c.loop-l.places c.requires.value c.requires.places c.requires.values
    c.loop-l.invariant.values
    (added_so_far P R c.loop-l.l t f b c.loop-l.places c.requires.value c.requires.places
    (omega arith) c.loop-l.invariant.done c.loop-l.invariant.rest)
