use Rattle.std.proofs.Common.{◌-◌, ◌%◌, slice_index}
use Rattle.ff_poly.specs.declared.TheConstants.{MAX_DEGREE}
use Rattle.ff_residues.proofs.ChangedPlaces.{ChangedBelow}
use Rattle.ff_field.proofs.arithmetic.negative_row.Given as goal

abbrev pub invariant-loop-k : goal.invariant-loop-k
invariant-loop-k l = ChangedBelow MAX_DEGREE (λ k. (l.p - slice_index l.a k) % l.p) l.initial.row l.row l.k
