use Rattle.std.proofs.Common.{◌<◌, length, arith, sym, ap, subst}
use Rattle.std.specs.Ordering.{nat_cmp}
use Rattle.alg_model.specs.Coefficients.{residues}
use Rattle.alg_model.specs.Factors.{IsIrreducible, IsLeastFactor}
use Rattle.ff_factor.specs.PrivateSplitting.{IsLeastNegativeRoot}
use Rattle.ff_factor.proofs.LinearFactors.{least_linear_factor, linear_irreducible}
use Rattle.ff_factor.proofs.linear.linear_factor.Goals as goal

pub returns-in-Some-clause-least : goal.returns-in-Some-clause-least
returns-in-Some-clause-least c =
    let p = c.args.f.now.prime in
    let f = c.args.f.now.coefficients in
    let whole = c.prime-p.ensures.whole in
    let root : IsLeastNegativeRoot p f c.in-Some.c =
    subst (λ q. IsLeastNegativeRoot q f c.in-Some.c) c.prime-p.ensures.value
    (subst (λ xs. IsLeastNegativeRoot c.prime-p.result xs c.in-Some.c) c.coefficients-2.ensures.value c.in-Some.ensures) in
    subst (λ g. IsLeastFactor (residues p) nat_cmp f g) (sym c.trimmed.ensures.coefficients)
    (least_linear_factor p whole.characteristic f c.in-Some.c whole.polynomial
    (omega (arith, ap length c.coefficients.ensures.value, c.if-coefficients-le2.false)) root)

pub returns-in-Some-clause-irreducible : goal.returns-in-Some-clause-irreducible
returns-in-Some-clause-irreducible c =
    let p = c.args.f.now.prime in
    let below : c.in-Some.c < p = subst (λ q. c.in-Some.c < q) c.prime-p.ensures.value c.in-Some.ensures.residue in
    subst (λ g. IsIrreducible (residues p) g) (sym c.trimmed.ensures.coefficients)
    (linear_irreducible p c.prime-p.ensures.whole.characteristic c.in-Some.c below)
