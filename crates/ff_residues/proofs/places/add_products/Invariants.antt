use Rattle.std.proofs.Common.{◌+◌, ◌*◌, slice_index}
use Rattle.ff_residues.proofs.ChangedPlaces.{ChangedBelow}
use Rattle.ff_residues.proofs.places.add_products.Given as goal

abbrev pub invariant-loop-k : goal.invariant-loop-k
invariant-loop-k g l = ChangedBelow g.row.W
    (λ k. slice_index l.initial.sums k + l.factor * slice_index l.list (l.start + k))
    l.initial.sums l.sums l.k
