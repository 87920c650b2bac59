use Rattle.std.proofs.Common.{slice_index}
use Rattle.ff_residues.proofs.ChangedPlaces.{ChangedBelow}
use Rattle.ff_minpoly.proofs.elimination.row_of.Given as goal

abbrev pub invariant-loop-k : goal.invariant-loop-k
invariant-loop-k g l = ChangedBelow g.row.W (slice_index l.column) l.initial.row l.row l.k
