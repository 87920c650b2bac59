use Rattle.std.proofs.Common.{length, ap, arith}
use Rattle.alg_model.specs.Coefficients.{mod_ops}
use Rattle.alg_rings.proofs.Trims
use Rattle.ff_field.proofs.fields.Field.poly_of.Goals as goal

pub returns-clause-short : goal.returns-clause-short
returns-clause-short c = omega (
  arith,
  ap length c.trimmed.ensures.coefficients,
  ap length c.digits.ensures.value,
  Trims.length_trim (mod_ops c.prime.result) c.digits.result.now,
)
