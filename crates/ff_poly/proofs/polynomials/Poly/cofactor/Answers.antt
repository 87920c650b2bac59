use Rattle.std.proofs.Common.{subst}
use Rattle.ff_poly.specs.Cofactors.{IsCofactor}
use Rattle.ff_poly.proofs.polynomials.Poly.cofactor.Goals as goal

pub returns-clause-cofactor : goal.returns-clause-cofactor
returns-clause-cofactor c =
    let u = c.cofactor_of.result.coefficients in
    let b = c.coefficients-2.result.now in
    subst (λ y. IsCofactor c.args.self.now.prime c.args.self.now.coefficients y u) c.coefficients-2.ensures.value
    (subst (λ x. IsCofactor c.args.self.now.prime x b u) c.coefficients.ensures.value
    (subst (λ q. IsCofactor q c.coefficients.result.now b u) c.prime.ensures.value c.cofactor_of.ensures.cofactor))
