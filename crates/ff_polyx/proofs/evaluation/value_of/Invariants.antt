use Rattle.std.proofs.Common.{◌≡◌, ◌≤◌, drop, length}
use Rattle.alg_model.specs.Polynomials.{evaluate}
use Rattle.alg_model.specs.Maps.{field_values}
use Rattle.ff_polyx.proofs.evaluation.value_of.Given as goal

abbrev pub invariant-loop-n : goal.invariant-loop-n
invariant-loop-n l = record {
  within : l.n ≤ length l.f;
  horner : l.value ≡ evaluate (field_values l.field).ops (drop l.n l.f) l.v;
  valid : (field_values l.field).Valid l.value;
}

abbrev pub decreases-loop-n : goal.decreases-loop-n
decreases-loop-n l = l.n
