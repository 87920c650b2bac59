-- The divisor divides exactly if the remainder is zero.
use Rattle.std.proofs.Common.{◌≡◌, [], ◌∙◌, sym, subst}
use Rattle.std.specs.Prelude.{◌↔◌, IsTrue}
use Rattle.alg_model.specs.Coefficients.{residues}
use Rattle.alg_model.specs.Factors.{Divides, IsPolynomial}
use Rattle.alg_rings.proofs.ResidueFields.{residues_propositional, residues_field}
use Rattle.alg_rings.proofs.Divisors.{divides_iff_no_remainder}
use Rattle.lattice_tests.proofs.TestAnswers.{is_empty_tells}
use Rattle.lattice_tests.proofs.trial_division.divides.Goals as goal

pub returns : goal.returns
returns c =
    let exact : Divides (residues c.args.f.now.prime) c.args.g.now.coefficients c.args.f.now.coefficients ↔ (c.divrem-remainder.result.1.coefficients ≡ []) =
    divides_iff_no_remainder (residues_propositional c.args.f.now.prime) (residues_field c.args.f.now.prime c.prime.ensures.whole.characteristic) c.args.f.now.coefficients c.args.g.now.coefficients
    c.divrem-remainder.result.0.coefficients c.divrem-remainder.result.1.coefficients (subst (λ p. IsPolynomial (residues p) c.args.g.now.coefficients) c.requires.same c.prime-2.ensures.whole.polynomial) c.divrem-remainder.ensures.division in
    let empty : IsTrue c.is_empty.result ↔ (c.coefficients.result.now ≡ []) = is_empty_tells c.coefficients.result.now c.is_empty.result c.is_empty.ensures in
    (λ t. exact.1 (sym c.coefficients.ensures.value ∙ empty.0 t), λ d. empty.1 (c.coefficients.ensures.value ∙ exact.0 d))
