-- The last coefficient is the leading one.
use Rattle.std.proofs.Common.{◌≡◌, ◌∙◌, sym, ap, length, slice_index_or, ◌-◌, nat_eq}
use Rattle.alg_model.specs.Coefficients.{mod_ops}
use Rattle.alg_model.specs.Polynomials.{leading}
use Rattle.alg_rings.proofs.Trims.{leading_at}
use Rattle.std.specs.Prelude.{IsTrue, ◌↔◌}
use Rattle.lattice_tests.proofs.TestAnswers.{nat_eq_tells}
use Rattle.lattice_tests.proofs.trial_division.is_monic.Goals as goal

pub returns-then-not-is_empty : goal.returns-then-not-is_empty
returns-then-not-is_empty c =
    let last : leading (mod_ops c.args.f.now.prime) c.args.f.now.coefficients ≡ slice_index_or c.coefficients-coefficients.result.now (length c.coefficients-coefficients.result.now - 1) 0 =
    leading_at (mod_ops c.args.f.now.prime) c.args.f.now.coefficients ∙ ap (λ xs. slice_index_or xs (length xs - 1) 0) (sym c.coefficients-coefficients.ensures.value) in
    let tells : IsTrue (nat_eq (slice_index_or c.coefficients-coefficients.result.now (length c.coefficients-coefficients.result.now - 1) 0) 1) ↔ (slice_index_or c.coefficients-coefficients.result.now (length c.coefficients-coefficients.result.now - 1) 0 ≡ 1) = nat_eq_tells _ 1 in
    (λ t. last ∙ tells.0 t, λ e. tells.1 (sym last ∙ e))
