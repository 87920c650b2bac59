use Rattle.std.proofs.Common.{◌≡◌, ◌≢◌, ◌<◌, [], ◌∷◌, length, arith, ap, sym, ◌∙◌, subst}
use Rattle.alg_model.specs.Coefficients.{mod_ops, IsCharacteristic}
use Rattle.alg_model.specs.Polynomials.{poly_sum, poly_product}
use Rattle.alg_fields.proofs.Derivatives.{length_derivative}
use Rattle.ff_factor.proofs.CriterionOverResidues.{derivative_common, gcd_is_one}
use Rattle.ff_factor.proofs.splitting.split_power.Goals as goal
use Rattle.ff_factor.proofs.splitting.split_power.Goals.{Else-coefficients-gt1}

pub returns-then-coefficients-gt1 : goal.returns-then-coefficients-gt1
returns-then-coefficients-gt1 c =
    let p = c.args.f.now.prime in
    let b = c.bezout-bezout.ensures in
    let d = c.derivative-derivative.result.coefficients in
    let not_zero : d ≢ [] = λ z. let e = c.if-is_zero.ensures.1 z in cc in
    let long : 1 < length c.bezout-bezout.result.g.coefficients = omega (arith, ap length c.coefficients.ensures.value, c.if-coefficients-gt1.true) in (
      b.primes.0,
      derivative_common p (subst IsCharacteristic b.primes.0 c.coefficients.ensures.whole.characteristic) c.args.f.now.coefficients
          c.bezout-bezout.result.g.coefficients d c.requires.not_constant c.derivative-derivative.ensures.derivative not_zero b.gcd long,
    )

common_is_one : (c : Else-coefficients-gt1) → c.bezout-bezout.result.g.coefficients ≡ 1 ∷ []
common_is_one c =
    gcd_is_one c.args.f.now.prime c.args.f.now.coefficients c.derivative-derivative.result.coefficients c.bezout-bezout.result.g.coefficients
    c.requires.not_constant c.bezout-bezout.ensures.gcd (omega (arith, ap length c.coefficients.ensures.value, c.if-coefficients-gt1.false))

pub certificate-requires-clause-short : goal.certificate-requires-clause-short
certificate-requires-clause-short c =
    let b = c.bezout-bezout.ensures in
    let one = ap length (common_is_one c) in
    let shorter : length c.derivative-derivative.result.coefficients < length c.args.f.now.coefficients =
    subst (λ d. length d < length c.args.f.now.coefficients) (sym c.derivative-derivative.ensures.derivative)
    (length_derivative (mod_ops c.args.f.now.prime) c.args.f.now.coefficients (omega (arith, c.requires.not_constant))) in
    (omega (arith, one, b.first_short, c.requires.degree), omega (arith, one, b.second_short, c.requires.degree))

pub certificate-requires-clause-separable : goal.certificate-requires-clause-separable
certificate-requires-clause-separable c =
    let o = mod_ops c.args.f.now.prime in
    let u = c.bezout-bezout.result.u.coefficients in
    let w = c.bezout-bezout.result.w.coefficients in
    ap (λ d. poly_sum o (poly_product o u c.args.f.now.coefficients) (poly_product o w d)) (sym c.derivative-derivative.ensures.derivative)
    ∙ c.bezout-bezout.ensures.identity ∙ common_is_one c
