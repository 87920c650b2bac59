use Rattle.std.proofs.Common.{◌%◌, slice_index}
use Rattle.ff_poly.specs.declared.TheConstants.{MAX_DEGREE}
use Rattle.ff_residues.proofs.ChangedPlaces.{ChangedBelow}
use Rattle.ff_field.specs.PrivateTables.{times_x_place}
use Rattle.ff_field.proofs.tables.times_x.Given as goal

abbrev pub invariant-loop-k : goal.invariant-loop-k
invariant-loop-k l = ChangedBelow MAX_DEGREE
    (λ k. times_x_place l.p l.f (slice_index l.row) k % l.p) l.initial.next l.next l.k
