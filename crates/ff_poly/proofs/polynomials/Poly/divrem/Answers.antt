use Rattle.std.proofs.Common.{◌≢◌, ◌-◌, length, slice_index, sym, subst}
use Rattle.alg_model.specs.Coefficients.{mod_ops, residues}
use Rattle.alg_model.specs.Factors.{IsPolynomial, IsDivision}
use Rattle.alg_rings.proofs.Lists.{length_not_nil}
use Rattle.alg_rings.proofs.Trims.{last_not_zero}
use Rattle.alg_rings.proofs.Residues.{zero_test}
use Rattle.alg_rings.proofs.ResidueFields.{residues_propositional, residues_field}
use Rattle.ff_poly.proofs.Euclid.{division_sizes}
use Rattle.ff_poly.proofs.polynomials.Poly.divrem.Goals as goal

pub division_of-requires-clause-leading : goal.division_of-requires-clause-leading
division_of-requires-clause-leading c =
    let p = c.args.d.now.prime in
    let d = c.args.d.now.coefficients in
    subst (λ xs. slice_index xs (length xs - 1) ≢ 0) (sym c.coefficients-divisor.ensures.value)
    (last_not_zero (mod_ops p) (zero_test p) d c.coefficients-divisor.ensures.whole.polynomial.1 (length_not_nil d c.requires.not_zero))

divided : (c : goal.After-division_of)
    → IsDivision (residues c.args.self.now.prime) c.args.self.now.coefficients c.args.d.now.coefficients c.division_of.result.0.coefficients c.division_of.result.1.coefficients
divided c =
    let p = c.args.self.now.prime in
    let n = c.prime-2.result in
    let f = c.coefficients-dividend.result.now in
    let d = c.args.d.now.coefficients in
    let q = c.division_of.result.0.coefficients in
    let r = c.division_of.result.1.coefficients in
    subst (λ xs. IsDivision (residues p) xs d q r) c.coefficients-dividend.ensures.value
    (subst (λ ys. IsDivision (residues p) f ys q r) c.coefficients-divisor.ensures.value
    (subst (λ m. IsDivision (residues m) f c.coefficients-divisor.result.now q r) c.prime-2.ensures.value c.division_of.ensures.division))

pub returns-clause-division : goal.returns-clause-division
returns-clause-division c = divided c

pub returns-clause-short : goal.returns-clause-short
returns-clause-short c =
    let p = c.args.self.now.prime in
    let d = c.args.d.now.coefficients in
    let whole = c.prime-2.ensures.whole in
    (division_sizes (residues_propositional p) (residues_field p whole.characteristic) c.args.self.now.coefficients d
    c.division_of.result.0.coefficients c.division_of.result.1.coefficients whole.polynomial
    (subst (λ m. IsPolynomial (residues m) d) (sym c.requires.same_prime) c.coefficients-divisor.ensures.whole.polynomial) (divided c)).quotient
