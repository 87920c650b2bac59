use Rattle.std.proofs.Common.{◌*◌, ◌%◌, slice_index}
use Rattle.ff_residues.proofs.ChangedPlaces.{ChangedBelow}
use Rattle.ff_minpoly.proofs.elimination.scale_places.Given as goal

abbrev pub invariant-loop-k : goal.invariant-loop-k
invariant-loop-k g l = ChangedBelow g.row.W (λ k. (l.factor * slice_index l.fn.row k) % l.p) l.fn.row l.row l.k
