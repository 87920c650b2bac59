use Rattle.std.proofs.Common.{◌≢◌, [], length, ap, arith}
use Rattle.alg_splitting.proofs.RootDivisors.{gcd_monic}
use Rattle.ff_roots.proofs.MonicMultiples.{monic_length, monic_roots}
use Rattle.ff_roots.proofs.constants.monic_of.Goals as goal

pub returns-clause-monic : goal.returns-clause-monic
returns-clause-monic c =
    let g = c.args.g.now in
    let n : g ≢ [] = λ e. omega (arith, ap length e, c.requires.not_constant) in
    gcd_monic c.args.field.now c.prime-prime.ensures.whole.finite g c.of_values.result c.gcd.result
    c.gcd.ensures.gcd n

pub returns-clause-len : goal.returns-clause-len
returns-clause-len c =
    let g = c.args.g.now in
    let n : g ≢ [] = λ e. omega (arith, ap length e, c.requires.not_constant) in
    monic_length c.args.field.now c.prime-prime.ensures.whole.finite g c.of_values.result c.gcd.result
    c.requires.polynomial c.of_values.ensures.valid c.of_values.ensures.coefficients
    c.gcd.ensures.gcd n

pub returns-clause-roots : goal.returns-clause-roots
returns-clause-roots c =
    monic_roots c.args.field.now c.prime-prime.ensures.whole.finite c.args.g.now c.of_values.result
    c.gcd.result c.requires.polynomial c.of_values.ensures.valid c.of_values.ensures.coefficients
    c.gcd.ensures.gcd
