use Rattle.std.proofs.Common.{slice_index}
use Rattle.ff_poly.specs.declared.TheConstants.{MAX_DEGREE}
use Rattle.ff_residues.proofs.ChangedPlaces.{ChangedBelow}
use Rattle.ff_embed.proofs.columns.row_of.Given as goal

abbrev pub invariant-loop-k : goal.invariant-loop-k
invariant-loop-k l = ChangedBelow MAX_DEGREE (slice_index l.digits) l.initial.row l.row l.k
