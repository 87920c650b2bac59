use Rattle.std.proofs.Common.{◌^◌}
use Rattle.alg_model.specs.Coefficients.{power}
use Rattle.alg_model.specs.Maps.{field_values}
use Rattle.alg_model.specs.Conjugates.{conjugates, sum_all}
use Rattle.ff_field.specs.PrivateTables.{GivesLowest}
use Rattle.ff_field.proofs.traces.trace_row.Given as goal

abbrev pub invariant-conjugates : goal.invariant-conjugates
invariant-conjugates l = record {
  traces : GivesLowest l.modulus (λ a. sum_all (field_values l.modulus).ops
      (conjugates (field_values l.modulus).ops l.modulus.characteristic l._k a)) l.traces;
  digits : GivesLowest l.modulus (λ a. power (field_values l.modulus).ops a (l.modulus.characteristic ^ l._k)) l.digits;
}
