use Rattle.std.proofs.Common.{◌≡◌, [], ◌∷◌, ◌++◌, ◌+◌, ◌-◌, ◌<◌, All, take, replicate, sym, ap, ◌∙◌, subst, rules}
use Rattle.alg_model.specs.Coefficients.{mod_ops, IsCharacteristic}
use Rattle.alg_model.specs.Polynomials.{trim}
use Rattle.natural_ops.proofs.ProgramValues.{places_are_residues, places_trimmed}
use Rattle.natural_ops.proofs.tests.frobenius_less.Goals as goal

pub trimmed-requires-clause-residues : goal.trimmed-requires-clause-residues
trimmed-requires-clause-residues c =
    let n = c.number-number.result in
    subst (λ m. All (λ x. x < m) (take (n + 1) c.frobenius_places-c.result))
    c.number-number.ensures.value
    (subst (λ cs. All (λ x. x < n) (take (n + 1) cs)) (sym c.frobenius_places-c.ensures)
    (places_are_residues n c.number-number.ensures.small.0))

pub returns-clause-coefficients : goal.returns-clause-coefficients
returns-clause-coefficients c =
    let n = c.number-number.result in
    let given : c.in-Some.p ≡ c.args.p = search rules in
    let made : c.trimmed.result.coefficients
    ≡ trim (mod_ops c.in-Some.p) (take (n + 1) c.frobenius_places-c.result) =
    c.trimmed.ensures.coefficients in
    made
    ∙ ap (λ q. trim (mod_ops q) (take (n + 1) c.frobenius_places-c.result))
    (sym c.number-number.ensures.value)
    ∙ ap (λ cs. trim (mod_ops n) (take (n + 1) cs)) c.frobenius_places-c.ensures
    ∙ places_trimmed n
    (subst IsCharacteristic (sym c.number-number.ensures.value) c.number-number.ensures.whole)
    ∙ ap (λ p. 0 ∷ (p - 1) ∷ replicate (p - 2) 0 ++ 1 ∷ []) (c.number-number.ensures.value ∙ given)
