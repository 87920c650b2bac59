-- Every number from p on is tried, and the first that is one of a factor ends the search.
use Rattle.std.proofs.Common.{◌≡◌, ◌∙◌, sym, ap, ap₂, subst, arith, ℕ, ◌^◌, ◌-◌, length}
use Rattle.std.specs.Prelude.{IsTrue}
use Rattle.alg_model.specs.Coefficients.{residues}
use Rattle.alg_model.specs.Values.{degree}
use Rattle.alg_model.specs.Factors.{IsMonic, Divides}
use Rattle.lattice_tests.specs.Numbering.{number_of}
use Rattle.lattice_tests.proofs.Search.{FactorFree, free_at_start, free_step, least_of_free, irreducible_at_end, factor_from_number}
use Rattle.lattice_tests.proofs.trial_division.least_factor.Goals as goal

pub loop-number-init : goal.loop-number-init
loop-number-init c =
    let start : c.from-number.result ≡ c.args.f.now.prime = c.from-number.ensures ∙ c.number.ensures.value ∙ c.prime-p.ensures.value in
    let Free : ℕ → Type 0 = FactorFree c.args.f.now.prime c.args.f.now.coefficients in
    subst Free (sym start) (free_at_start c.args.f.now.prime c.args.f.now.coefficients (omega arith))

pub returns-then-is_monic_divisor-clause-factor : goal.returns-then-is_monic_divisor-clause-factor
returns-then-is_monic_divisor-clause-factor c =
    let p-is : c.prime-p.result ≡ c.args.f.now.prime = c.prime-p.ensures.value in
    let value : number_of c.args.f.now.prime c.polynomial_of-g.result.coefficients ≡ c.loop-number.number =
    subst (λ p. number_of p c.polynomial_of-g.result.coefficients ≡ c.loop-number.number) p-is c.polynomial_of-g.ensures.value in
    let end : c.power_of-end.result ≡ c.args.f.now.prime ^ degree c.args.f.now.coefficients =
    c.power_of-end.ensures ∙ ap₂ (λ a b. a ^ b) p-is (ap (λ xs. length xs - 1) c.coefficients.ensures.value) in
    let both : IsMonic (residues c.args.f.now.prime) c.polynomial_of-g.result.coefficients × Divides (residues c.args.f.now.prime) c.polynomial_of-g.result.coefficients c.args.f.now.coefficients =
    c.is_monic_divisor.ensures.exact.0 c.if-is_monic_divisor.true in
    least_of_free c.args.f.now.prime c.args.f.now.coefficients c.polynomial_of-g.result.coefficients c.loop-number.number (omega arith) value c.loop-number.invariant
    (factor_from_number c.args.f.now.prime c.args.f.now.coefficients c.polynomial_of-g.result.coefficients c.loop-number.number (omega arith)
    c.requires.not_constant c.is_monic_divisor.ensures.polynomial value (omega arith) (omega arith) both.0 both.1)

pub loop-number-preserved : goal.loop-number-preserved
loop-number-preserved c =
    let p-is : c.prime-p.result ≡ c.args.f.now.prime = c.prime-p.ensures.value in
    let value : number_of c.args.f.now.prime c.polynomial_of-g.result.coefficients ≡ c.loop-number.number =
    subst (λ p. number_of p c.polynomial_of-g.result.coefficients ≡ c.loop-number.number) p-is c.polynomial_of-g.ensures.value in
    free_step c.args.f.now.prime c.args.f.now.coefficients c.polynomial_of-g.result.coefficients c.loop-number.number (omega arith)
    c.is_monic_divisor.ensures.polynomial value
    (λ monic divides. let t : IsTrue c.is_monic_divisor.result = c.is_monic_divisor.ensures.exact.1 (monic, divides) in cc)
    c.loop-number.invariant

pub returns-clause-irreducible : goal.returns-clause-irreducible
returns-clause-irreducible c =
    let p-is : c.prime-p.result ≡ c.args.f.now.prime = c.prime-p.ensures.value in
    let end : c.power_of-end.result ≡ c.args.f.now.prime ^ degree c.args.f.now.coefficients =
    c.power_of-end.ensures ∙ ap₂ (λ a b. a ^ b) p-is (ap (λ xs. length xs - 1) c.coefficients.ensures.value) in
    irreducible_at_end c.args.f.now.prime c.args.f.now.coefficients (omega arith) c.coefficients.ensures.whole.polynomial c.requires.not_constant
    (λ h factor below. c.loop-number.invariant h factor (omega arith))
