use Rattle.std.proofs.Common.{◌≡◌, ◌≢◌, [], length, ap, sym, ◌∙◌, subst, arith}
use Rattle.std.proofs.lemmas.Bool.Decides.{nat_tests}
use Rattle.alg_model.specs.Coefficients.{mod_ops, residues}
use Rattle.alg_model.specs.Polynomials.{poly_product}
use Rattle.alg_model.specs.Factors.{IsGreatestCommonDivisor}
use Rattle.alg_rings.proofs.ResidueFields.{residues_propositional, residues_field}
use Rattle.ff_poly.proofs.Euclid.{multiple_gcd}
use Rattle.ff_poly.proofs.polynomials.Poly.made_monic.Goals as goal

pub mul-requires-clause-room : goal.mul-requires-clause-room
mul-requires-clause-room c = omega (arith, c.coefficients.ensures.whole.fits, c.normalizer.ensures.short)

pub returns-clause-gcd : goal.returns-clause-gcd
returns-clause-gcd c =
    let p = c.args.self.now.prime in
    let f = c.args.self.now.coefficients in
    let k = c.normalizer.result.coefficients in
    let n = c.normalizer.ensures.normalizer in
    let not_zero : f ≢ [] = λ e.
    let l : length c.coefficients.result.now ≡ 0 = ap length (c.coefficients.ensures.value ∙ e) in grind (arith, nat_tests) in
    let product : c.mul.result.coefficients ≡ poly_product (mod_ops p) k f =
    c.mul.ensures.product ∙ ap (λ m. poly_product (mod_ops m) k f) c.normalizer.ensures.prime in
    subst (IsGreatestCommonDivisor (residues p) f []) (sym product)
    (multiple_gcd (residues_propositional p) (residues_field p c.coefficients.ensures.whole.characteristic) f k n.inverse
    c.coefficients.ensures.whole.polynomial not_zero n.residue n.identity n.constant)
