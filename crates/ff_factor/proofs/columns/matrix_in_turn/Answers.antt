use Rattle.std.proofs.Common.{◌-◌, length, All, sym, ◌∙◌, subst}
use Rattle.alg_model.specs.Coefficients.{residues}
use Rattle.alg_model.specs.Matrices.{IsColumn}
use Rattle.ff_factor.proofs.CriterionOverResidues.{matrix_valid}
use Rattle.ff_factor.proofs.columns.matrix_in_turn.Goals as goal

pub of_columns-requires-clause-residues : goal.of_columns-requires-clause-residues
of_columns-requires-clause-residues c =
    let p = c.args.f.now.prime in
    let f = c.args.f.now.coefficients in
    let whole = c.prime.ensures.whole in
    let v = matrix_valid p whole.characteristic f whole.polynomial c.requires.monic c.requires.not_constant in
    let columns = c.as_slice.ensures.value ∙ c.columns_in_turn-columns.ensures.columns in
    subst (λ q. All (IsColumn (residues q) (length c.coefficients.result.now - 1)) c.as_slice.result.now) (sym c.prime.ensures.value)
    (subst (λ xs. All (IsColumn (residues p) (length xs - 1)) c.as_slice.result.now) (sym c.coefficients.ensures.value)
    (subst (λ cs. All (IsColumn (residues p) (length f - 1)) cs) (sym columns) v))
