use Rattle.std.proofs.Common.{◌+◌, ◌*◌, ◌%◌, slice_index}
use Rattle.ff_poly.specs.declared.TheConstants.{MAX_DEGREE}
use Rattle.ff_residues.proofs.ChangedPlaces.{ChangedBelow}
use Rattle.ff_roots.proofs.places.row_with_multiple.Given as goal

abbrev pub invariant-loop-k : goal.invariant-loop-k
invariant-loop-k l = ChangedBelow MAX_DEGREE
    (λ k. (slice_index l.a k + l.c * slice_index l.v k) % l.p) l.initial.row l.row l.k
