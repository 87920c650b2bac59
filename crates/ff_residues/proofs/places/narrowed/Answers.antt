use Rattle.std.proofs.Common.{◌%◌, slice_index, ap, ◌∙◌, arith}
use Rattle.std.proofs.lemmas.List.{get_or_past}
use native.Mathlib.Nat.{zero-mod}
use Rattle.ff_residues.proofs.ChangedPlaces.{nothing_changed, one_changed, all_changed}
use Rattle.ff_residues.proofs.places.narrowed.Goals as goal

pub loop-k-init : goal.loop-k-init
loop-k-init g c = nothing_changed g.row.W _ c.blank_row-row.result c.blank_row-row.ensures.len

pub loop-k-preserved : goal.loop-k-preserved
loop-k-preserved g c =
    one_changed g.row.W (λ k. slice_index c.args.sums.now k % c.args.p) c.blank_row-row.result c.loop-k.row c.loop-k.k
    c.reduced.result (omega (arith, c.loop-k-test.true)) c.reduced.ensures.value c.loop-k.invariant

pub returns-clause-len : goal.returns-clause-len
returns-clause-len g c = c.loop-k.invariant.long

pub returns-clause-remainders : goal.returns-clause-remainders
returns-clause-remainders g c =
    all_changed g.row.W (λ k. slice_index c.args.sums.now k % c.args.p) c.blank_row-row.result c.loop-k.row c.loop-k.k
    (omega (arith, c.loop-k-test.false))
    (λ k l. ap (λ w. w % c.args.p) (get_or_past c.args.sums.now k 0 (omega arith)) ∙ zero-mod c.args.p) c.loop-k.invariant
