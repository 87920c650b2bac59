use Rattle.std.proofs.Common.{◌≡◌, take, ap, sym, ◌∙◌, subst, All, arith}
use Rattle.std.proofs.lemmas.List.{take_all}
use Rattle.std.proofs.lemmas.List.Elements.{All-take}
use Rattle.alg_model.specs.Coefficients.{residues}
use Rattle.alg_model.specs.Polynomials.{trim}
use Rattle.alg_model.specs.Maps.{field_values, constants}
use Rattle.alg_splitting.proofs.ConstantPolynomials.{constants_valid}
use Rattle.lat_choice.proofs.narrowing.with_digits.Goals as goal

pub of_values-requires-clause-values : goal.of_values-requires-clause-values
of_values-requires-clause-values c =
    let F = c.args.field.now in
    let digits = c.digits-x-items.result.now in
    let i = c.loop-x.x-index in
    subst (All (field_values F).Valid) (sym (c.as_slice.ensures.value ∙ c.loop-x.invariant))
    (constants_valid F c.prime-prime.ensures.whole.finite (take i digits)
    (All-take (residues F.characteristic).Valid i digits
    (subst (All (residues F.characteristic).Valid) (sym c.digits-x-items.ensures.value) c.requires)))

pub returns-clause-coefficients : goal.returns-clause-coefficients
returns-clause-coefficients c =
    let F = c.args.field.now in
    let all : take c.loop-x.x-index c.digits-x-items.result.now ≡ c.args.a.now =
    take_all c.loop-x.x-index c.digits-x-items.result.now (omega (arith, c.loop-x-test.false))
    ∙ c.digits-x-items.ensures.value in
    c.of_values.ensures.coefficients
    ∙ ap (trim (field_values F).ops)
    (c.as_slice.ensures.value ∙ c.loop-x.invariant ∙ ap (constants F) all)
