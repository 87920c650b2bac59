use Rattle.std.proofs.Common.{◌+◌, ◌*◌, slice_index, ap, arith}
use Rattle.ff_residues.proofs.ChangedPlaces.{nothing_changed, one_changed}
use Rattle.ff_residues.proofs.places.add_products.Goals as goal

pub loop-k-init : goal.loop-k-init
loop-k-init g c = nothing_changed g.row.W _ c.args.sums.now (omega arith)

pub loop-k-preserved : goal.loop-k-preserved
loop-k-preserved g c =
    one_changed g.row.W (λ k. slice_index c.args.sums.now k + c.args.factor * slice_index c.args.list.now (c.args.start + k))
    c.args.sums.now c.loop-k.sums c.loop-k.k _ (omega (arith, c.loop-k-test.true))
    (ap (λ w. w + c.args.factor * slice_index c.args.list.now (c.args.start + c.loop-k.k)) (c.loop-k.invariant.rest c.loop-k.k (omega arith)))
    c.loop-k.invariant

pub returns-clause-len : goal.returns-clause-len
returns-clause-len g c = c.loop-k.invariant.long
