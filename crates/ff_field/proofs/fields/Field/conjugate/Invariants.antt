use Rattle.std.proofs.Common.{◌≡◌, ◌^◌}
use Rattle.alg_model.specs.Coefficients.{power}
use Rattle.alg_model.specs.Maps.{field_values}
use Rattle.ff_field.proofs.fields.Field.conjugate.Given as goal

abbrev pub invariant-powers : goal.invariant-powers
invariant-powers l = record {
  valid : (field_values l.self).Valid l.value;
  power : l.value ≡ power (field_values l.self).ops l.a (l.self.characteristic ^ l._i);
}
