use Rattle.std.proofs.Common.{length, ap, arith}
use Rattle.alg_model.specs.Maps.{field_values}
use Rattle.alg_rings.proofs.Trims.{length_trim}
use Rattle.lattice_tests.proofs.field_roots.quintic.Goals as goal

pub returns-clause-short : goal.returns-clause-short
returns-clause-short g c = omega (
  arith,
  ap length c.of_values.ensures.coefficients,
  length_trim (field_values c.args.field.now).ops c.as_slice.result.now,
  c.as_slice.ensures.fits,
)
