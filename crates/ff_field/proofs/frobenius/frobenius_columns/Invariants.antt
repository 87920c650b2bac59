use Rattle.std.proofs.Common.{◌≡◌, slice_index}
use Rattle.alg_model.specs.Coefficients.{power}
use Rattle.alg_model.specs.Maps.{field_values, generator, degree_of}
use Rattle.ff_field.specs.PrivateTables.{IsTable}
use Rattle.ff_field.proofs.frobenius.frobenius_columns.Given as goal

abbrev pub invariant-loop-i : goal.invariant-loop-i
invariant-loop-i l = record {
  table : IsTable l.modulus.characteristic (degree_of l.modulus) l.i
      (λ i. slice_index (power (field_values l.modulus).ops
      (power (field_values l.modulus).ops (generator l.modulus) l.modulus.characteristic) i)) l.table;
  value : l.value ≡ power (field_values l.modulus).ops
      (power (field_values l.modulus).ops (generator l.modulus) l.modulus.characteristic) l.i;
  valid : (field_values l.modulus).Valid l.value;
}
