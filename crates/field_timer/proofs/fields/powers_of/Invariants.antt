use Rattle.std.proofs.Common.{◌≡◌, length, All}
use Rattle.alg_model.specs.Maps.{field_values}
use Rattle.field_timer.proofs.fields.powers_of.Given as goal

abbrev pub invariant-loop-k : goal.invariant-loop-k
invariant-loop-k l = record {
  count : length l.values.items ≡ l._k;
  valid : All (field_values l.field).Valid l.values.items;
  value : (field_values l.field).Valid l.value;
}
