use Rattle.std.proofs.Common.{◌+◌, ◌/◌, sym, ◌∙◌, subst, arith}
use Rattle.alg_model.specs.Coefficients.{mod_ops, residues}
use Rattle.alg_model.specs.Polynomials.{poly_product}
use Rattle.alg_model.specs.Factors.{IsPolynomial}
use Rattle.alg_rings.proofs.ResidueFields.{residues_propositional, residues_field}
use Rattle.ff_poly.proofs.PowersModulo.{Leaves, square_leaves, next_leaves}
use Rattle.ff_poly.proofs.polynomials.Poly.+power_of_reduced.Goals as goal

pub returns-else-e-eq1-clause-power : goal.returns-else-e-eq1-clause-power
returns-else-e-eq1-clause-power t c =
    let p = c.args.self.now.prime in
    let a = c.args.self.now.coefficients in
    let f = c.args.f.now.coefficients in
    let r = c.power_of_reduced-root.result.coefficients in
    let s = c.mul_mod-square.result.coefficients in
    let whole = c.prime-p.ensures.whole in
    let vf : IsPolynomial (residues p) f = subst (λ n. IsPolynomial (residues n) f) (sym c.requires.same_prime) c.prime-same.ensures.whole.polynomial in
    let square : Leaves (residues p) (poly_product (mod_ops p) r r) f s =
    subst (λ n. Leaves (residues n) (poly_product (mod_ops n) r r) f s) c.power_of_reduced-root.ensures.prime c.mul_mod-square.ensures.product in
    square_leaves (residues_propositional p) (residues_field p whole.characteristic) a f r s (c.args.e / 2) c.args.e whole.polynomial vf (omega arith)
    c.power_of_reduced-root.ensures.power square

pub returns-then-e-eq1-clause-power : goal.returns-then-e-eq1-clause-power
returns-then-e-eq1-clause-power t c =
    let p = c.args.self.now.prime in
    let a = c.args.self.now.coefficients in
    let f = c.args.f.now.coefficients in
    let r = c.power_of_reduced-root.result.coefficients in
    let s = c.mul_mod-square.result.coefficients in
    let u = c.mul_mod.result.coefficients in
    let h = c.args.e / 2 in
    let whole = c.prime-p.ensures.whole in
    let vf : IsPolynomial (residues p) f = subst (λ n. IsPolynomial (residues n) f) (sym c.requires.same_prime) c.prime-same.ensures.whole.polynomial in
    let square : Leaves (residues p) (poly_product (mod_ops p) r r) f s =
    subst (λ n. Leaves (residues n) (poly_product (mod_ops n) r r) f s) c.power_of_reduced-root.ensures.prime c.mul_mod-square.ensures.product in
    let next : Leaves (residues p) (poly_product (mod_ops p) s a) f u =
    subst (λ n. Leaves (residues n) (poly_product (mod_ops n) s a) f u) (c.mul_mod-square.ensures.prime ∙ c.power_of_reduced-root.ensures.prime) c.mul_mod.ensures.product in
    let P = residues_propositional p in
    let F = residues_field p whole.characteristic in
    next_leaves P F a f s u (h + h) c.args.e whole.polynomial vf (omega arith)
    (square_leaves P F a f r s h (h + h) whole.polynomial vf (omega arith) c.power_of_reduced-root.ensures.power square) next
