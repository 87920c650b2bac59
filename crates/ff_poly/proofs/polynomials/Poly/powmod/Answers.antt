use Rattle.std.proofs.Common.{sym, subst}
use Rattle.alg_model.specs.Coefficients.{mod_ops, residues}
use Rattle.alg_model.specs.Polynomials.{poly_power}
use Rattle.alg_model.specs.Factors.{IsPolynomial}
use Rattle.alg_rings.proofs.ResidueFields.{residues_propositional, residues_field}
use Rattle.ff_poly.proofs.PowersModulo.{Leaves, power_leaves}
use Rattle.ff_poly.proofs.polynomials.Poly.powmod.Goals as goal

pub returns-clause-power : goal.returns-clause-power
returns-clause-power c =
    let p = c.args.self.now.prime in
    let a = c.args.self.now.coefficients in
    let f = c.args.f.now.coefficients in
    let b = c.divrem-base.result.1.coefficients in
    let r = c.power_of_reduced.result.coefficients in
    let whole = c.divrem-base.ensures.whole.0 in
    let vf : IsPolynomial (residues p) f =
    subst (λ n. IsPolynomial (residues n) f) (sym c.requires.same_prime) c.divrem-base.ensures.whole.1.polynomial in
    let power : Leaves (residues p) (poly_power (mod_ops p) b c.args.e) f r =
    subst (λ n. Leaves (residues n) (poly_power (mod_ops n) b c.args.e) f r) c.divrem-base.ensures.remainder c.power_of_reduced.ensures.power in
    power_leaves (residues_propositional p) (residues_field p whole.characteristic) a f b r c.args.e whole.polynomial vf
    (c.divrem-base.result.0.coefficients, c.divrem-base.ensures.division) power
