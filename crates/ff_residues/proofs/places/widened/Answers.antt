use Rattle.std.proofs.Common.{slice_index, refl, arith}
use Rattle.std.proofs.lemmas.List.{get_or_past}
use Rattle.ff_residues.proofs.ChangedPlaces.{nothing_changed, one_changed, all_changed}
use Rattle.ff_residues.proofs.places.widened.Goals as goal

pub loop-k-init : goal.loop-k-init
loop-k-init g c = nothing_changed g.row.W _ c.blank_sums-sums.result c.blank_sums-sums.ensures.len

pub loop-k-preserved : goal.loop-k-preserved
loop-k-preserved g c =
    one_changed g.row.W (λ k. slice_index c.args.row.now k) c.blank_sums-sums.result c.loop-k.sums c.loop-k.k
    (slice_index c.args.row.now c.loop-k.k) (omega (arith, c.loop-k-test.true)) refl c.loop-k.invariant

pub returns-clause-len : goal.returns-clause-len
returns-clause-len g c = c.loop-k.invariant.long

pub returns-clause-same : goal.returns-clause-same
returns-clause-same g c =
    all_changed g.row.W (λ k. slice_index c.args.row.now k) c.blank_sums-sums.result c.loop-k.sums c.loop-k.k
    (omega (arith, c.loop-k-test.false))
    (λ k l. get_or_past c.args.row.now k 0 (omega arith)) c.loop-k.invariant
