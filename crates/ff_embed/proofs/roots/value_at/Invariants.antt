use Rattle.std.proofs.Common.{◌≡◌, ◌≤◌, drop, length}
use Rattle.alg_model.specs.Polynomials.{evaluate}
use Rattle.alg_model.specs.Maps.{field_values, constants}
use Rattle.ff_embed.proofs.roots.value_at.Given as goal

abbrev pub invariant-loop-k : goal.invariant-loop-k
invariant-loop-k l = record {
  within : l.k ≤ length l.f;
  horner : l.value ≡ evaluate (field_values l.field).ops (constants l.field (drop l.k l.f)) l.v;
  valid : (field_values l.field).Valid l.value;
}

abbrev pub decreases-loop-k : goal.decreases-loop-k
decreases-loop-k l = l.k
