use Rattle.std.proofs.Common.{◌≡◌, ◌+◌, ◌*◌, ◌%◌, length, slice_index}
use Rattle.ff_matrix.proofs.RowPlaces.{AreDone}
use Rattle.ff_factor.proofs.linear.multiply_and_add.Given as goal

abbrev pub invariant-loop-l : goal.invariant-loop-l
invariant-loop-l g l = record {
  lanes : length l.values ≡ length l.initial.values;
  done : AreDone l.p (λ k. (slice_index l.initial.values k * slice_index l.points k + l.a) % l.p) l.initial.values l.values l.l;
}
