use Rattle.std.proofs.Common.{◌≡◌, length, All}
use Rattle.alg_model.specs.Maps.{field_values}
use Rattle.lattice_tests.proofs.field_roots.of_all_values.Given as goal

abbrev pub invariant-zeros : goal.invariant-zeros
invariant-zeros l = record {
  count : length l.values.items ≡ l._k;
  values : All (field_values l.field).Valid l.values.items;
}
