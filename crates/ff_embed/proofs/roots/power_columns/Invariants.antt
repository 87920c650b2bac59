use Rattle.std.proofs.Common.{◌≡◌}
use Rattle.alg_model.specs.Coefficients.{power}
use Rattle.alg_model.specs.Maps.{field_values, degree_of, powers}
use Rattle.ff_embed.proofs.roots.power_columns.Given as goal

abbrev pub invariant-powers : goal.invariant-powers
invariant-powers l = record {
  prime : l.columns.prime ≡ l.field.characteristic;
  rows : l.columns.matrix.rows ≡ degree_of l.field;
  columns : l.columns.matrix.columns ≡ powers l.field l.v l._k;
  power : l.power ≡ power (field_values l.field).ops l.v l._k;
  valid : (field_values l.field).Valid l.power;
}
