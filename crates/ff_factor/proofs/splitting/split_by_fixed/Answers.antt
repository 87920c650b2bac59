use Rattle.std.proofs.Common.{◌≡◌, ◌<◌, ◌≤◌, length, below_more, arith, ap, ◌∙◌, subst}
use Rattle.alg_model.specs.Coefficients.{residues}
use Rattle.alg_model.specs.Factors.{IsPolynomial}
use Rattle.alg_rings.proofs.ResidueFields.{residues_field, residues_propositional}
use Rattle.alg_divisors.proofs.PolynomialFactors.{gcd_unique}
use Rattle.ff_factor.proofs.CriterionOverResidues.{common_is_proper, some_common}
use Rattle.ff_factor.proofs.splitting.split_by_fixed.Goals as goal

pub returns-then-coefficients-gt1-clause-factor : goal.returns-then-coefficients-gt1-clause-factor
returns-then-coefficients-gt1-clause-factor c =
    let p = c.args.f.now.prime in
    let a = c.common_factor-common.ensures in
    let number : c.number-p.result ≡ p = c.number-p.ensures.value ∙ c.prime.ensures.value in
    let long : 1 < length c.common_factor-common.result.coefficients = omega (arith, ap length c.coefficients.ensures.value, c.if-coefficients-gt1.true) in
    common_is_proper p a.whole.0.characteristic c.args.f.now.coefficients c.args.v.now.coefficients c.common_factor-common.result.coefficients c.loop-c.c
    (subst (λ q. IsPolynomial (residues q) c.args.v.now.coefficients) c.requires.prime a.whole.1.polynomial)
    (omega (arith, c.loop-c-test.true)) c.requires.not_constant c.requires.shorter a.gcd long

pub loop-c-preserved : goal.loop-c-preserved
loop-c-preserved c =
    let p = c.args.f.now.prime in
    let a = c.common_factor-common.ensures in
    let short : length c.common_factor-common.result.coefficients ≤ 1 = omega (arith, ap length c.coefficients.ensures.value, c.if-coefficients-gt1.false) in
    below_more _ _ c.loop-c.invariant
    (λ g k. subst (λ x. length x ≤ 1)
    (gcd_unique (residues_propositional p) (residues_field p a.whole.0.characteristic) a.gcd k) short)

pub unreachable-requires : goal.unreachable-requires
unreachable-requires c =
    let p = c.args.f.now.prime in
    let whole = c.prime.ensures.whole in
    let number : c.number-p.result ≡ p = c.number-p.ensures.value ∙ c.prime.ensures.value in
    some_common p whole.characteristic c.args.f.now.coefficients c.args.v.now.coefficients whole.polynomial
    (subst (λ q. IsPolynomial (residues q) c.args.v.now.coefficients) c.requires.prime c.prime-prime.ensures.whole.polynomial)
    c.requires.not_constant c.requires.shorter c.requires.fixed
    (λ a l. c.loop-c.invariant a (omega (arith, c.loop-c-test.false)))
