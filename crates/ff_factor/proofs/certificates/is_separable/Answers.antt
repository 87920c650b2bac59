use Rattle.std.proofs.Common.{◌<◌, length, arith, sym, subst}
use Rattle.alg_model.specs.Coefficients.{mod_ops}
use Rattle.alg_fields.proofs.Derivatives.{length_derivative}
use Rattle.ff_factor.proofs.certificates.is_separable.Goals as goal

pub mul-requires-2-clause-room : goal.mul-requires-2-clause-room
mul-requires-2-clause-room c =
    let shorter : length c.derivative-derivative.result.coefficients < length c.args.f.now.coefficients =
    subst (λ d. length d < length c.args.f.now.coefficients) (sym c.derivative-derivative.ensures.derivative)
    (length_derivative (mod_ops c.args.f.now.prime) c.args.f.now.coefficients (omega (arith, c.requires.not_constant))) in
    omega (arith, c.requires.short.1, c.requires.degree)
