use Rattle.std.proofs.Common.{◌-◌, ◌++◌, length, replicate, ap₂, sym, ◌∙◌, subst}
use Rattle.alg_model.specs.Coefficients.{residues}
use Rattle.alg_model.specs.Factors.{IsPolynomial, IsDivision}
use Rattle.alg_model.specs.Maps.{field_values}
use Rattle.ff_field.proofs.SmallFieldLaws.{padded_rest, remainder_valid}
use Rattle.ff_field.proofs.modulus.Modulus.reduced.Goals as goal

pub returns-clause-value : goal.returns-clause-value
returns-clause-value c =
    let K = c.args.self.now in
    let W = c.poly.ensures.whole.finite in
    let g = c.args.g.now.coefficients in
    let r = c.divrem-rest.result.1.coefficients in
    let q = c.divrem-rest.result.0.coefficients in
    let h = c.divrem-rest.ensures in
    let v = subst (λ p. IsPolynomial (residues p) g) c.requires h.whole.0.polynomial in
    let d = subst (λ p. IsDivision (residues p) g K.polynomial q r) c.requires
    (subst (λ f. IsDivision (residues c.args.g.now.prime) g f q r) c.poly.ensures.coefficients
    h.division) in
    c.padded.ensures
    ∙ ap₂ (λ xs n. xs ++ replicate (n - length xs) 0) c.coefficients.ensures.value
    c.degree.ensures.value
    ∙ padded_rest K W g q r v d

pub returns-clause-valid : goal.returns-clause-valid
returns-clause-valid c =
    let K = c.args.self.now in
    let g = c.args.g.now.coefficients in
    let v = c.divrem-rest.ensures.whole.0.polynomial in
    subst (field_values K).Valid (sym (returns-clause-value c))
    (remainder_valid K c.poly.ensures.whole.finite g
    (subst (λ p. IsPolynomial (residues p) g) c.requires v))
