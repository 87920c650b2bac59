use Rattle.std.proofs.Common.{◌≡◌, ℕ, ◌<◌, List, [], ◌∷◌, ◌++◌, All, ap, sym, ◌∙◌, subst, arith, rules}
use Rattle.alg_model.specs.Coefficients.{mod_ops}
use Rattle.alg_model.specs.Polynomials.{trim}
use Rattle.ff_factor.proofs.LeastPolynomials.{candidate_trimmed}
use Rattle.ff_factor.proofs.least.monic.Goals as goal

pub returns-clause-coefficients : goal.returns-clause-coefficients
returns-clause-coefficients c =
    let above : 1 < c.args.p = omega (arith, c.number-number.ensures.small, c.number-number.ensures.value) in
    let e : c.as_slice.result.now ≡ c.args.lower.now ++ 1 ∷ [] = search rules in
    c.trimmed.ensures.coefficients ∙ ap (trim (mod_ops c.args.p)) e ∙ candidate_trimmed c.args.p c.args.lower.now above
