use Rattle.std.proofs.Common.{◌≡◌, length, All}
use Rattle.alg_model.specs.Maps.{field_values}
use Rattle.lattice_tests.proofs.field_roots.quintic.Given as goal

abbrev pub invariant-coefficients : goal.invariant-coefficients
invariant-coefficients g l = record {
  count : length l.values.items ≡ l.j;
  values : All (field_values l.field).Valid l.values.items;
}
