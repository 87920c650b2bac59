use Rattle.std.proofs.Common.{◌≡◌, take, ap, sym, ◌∙◌, subst, All, arith}
use Rattle.std.proofs.lemmas.List.{take_all}
use Rattle.std.proofs.lemmas.List.Elements.{All-take}
use Rattle.alg_model.specs.Coefficients.{residues}
use Rattle.alg_model.specs.Factors.{IsPolynomial}
use Rattle.alg_model.specs.Polynomials.{trim}
use Rattle.alg_model.specs.Maps.{field_values, constants}
use Rattle.alg_splitting.proofs.ConstantPolynomials.{constants_valid, constants_polynomial}
use Rattle.ff_roots.proofs.conjugates.polynomial_of.Goals as goal

pub of_values-requires-clause-values : goal.of_values-requires-clause-values
of_values-requires-clause-values c =
    let F = c.args.field.now in
    let W = c.prime-prime.ensures.whole.finite in
    let f = c.coefficients-c-items.result.now in
    let vf = subst (λ q. All (residues q).Valid c.args.f.now.coefficients) c.requires.prime
    c.coefficients-c-items.ensures.whole.polynomial.0 in
    subst (All (field_values F).Valid) (sym (c.as_slice.ensures.value ∙ c.loop-c.invariant))
    (constants_valid F W (take c.loop-c.c-index f) (All-take (residues F.characteristic).Valid
    c.loop-c.c-index f (subst (All (residues F.characteristic).Valid)
    (sym c.coefficients-c-items.ensures.value) vf)))

pub returns-clause-value : goal.returns-clause-value
returns-clause-value c =
    let F = c.args.field.now in
    let W = c.prime-prime.ensures.whole.finite in
    let f = c.args.f.now.coefficients in
    let vf = subst (λ q. IsPolynomial (residues q) f) c.requires.prime
    c.coefficients-c-items.ensures.whole.polynomial in
    let all : take c.loop-c.c-index c.coefficients-c-items.result.now ≡ f =
    take_all c.loop-c.c-index c.coefficients-c-items.result.now (omega (arith, c.loop-c-test.false))
    ∙ c.coefficients-c-items.ensures.value in
    c.of_values.ensures.coefficients
    ∙ ap (trim (field_values F).ops) (c.as_slice.ensures.value ∙ c.loop-c.invariant
    ∙ ap (constants F) all) ∙ (constants_polynomial F W f vf).1
