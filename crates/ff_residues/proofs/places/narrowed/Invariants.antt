use Rattle.std.proofs.Common.{◌%◌, slice_index}
use Rattle.ff_residues.proofs.ChangedPlaces.{ChangedBelow}
use Rattle.ff_residues.proofs.places.narrowed.Given as goal

abbrev pub invariant-loop-k : goal.invariant-loop-k
invariant-loop-k g l = ChangedBelow g.row.W (λ k. slice_index l.sums k % l.p) l.initial.row l.row l.k
