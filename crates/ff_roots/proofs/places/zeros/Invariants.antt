use Rattle.std.proofs.Common.{◌≡◌, replicate}
use Rattle.alg_model.specs.Maps.{field_values}
use Rattle.ff_roots.proofs.places.zeros.Given as goal

abbrev pub invariant-zeros : goal.invariant-zeros
invariant-zeros l = l.places.items ≡ replicate l._k (field_values l.field).ops.zero
