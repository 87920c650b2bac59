use Rattle.std.proofs.Common.{◌<◌, ap, sym, ◌∙◌, arith}
use Rattle.alg_model.specs.Coefficients.{mod_ops}
use Rattle.alg_model.specs.Polynomials.{sum, scale}
use Rattle.ff_matrix.specs.PrivateRows.{residue_row}
use Rattle.ff_matrix.proofs.ResidueRows.{residue_row_at, cleared_residues, nothing_to_clear}
use Rattle.ff_matrix.proofs.elimination.clear_row.Goals as goal

pub returns-then-factor-ne0-clause-cleared : goal.returns-then-factor-ne0-clause-cleared
returns-then-factor-ne0-clause-cleared g c =
    let p = c.args.p in
    cleared_residues g.row.W p c.neg-factor.result c.args.row.now c.add.new.self c.args.source.now c.told-source c.requires.prime c.add.ensures.sums
    ∙ ap (λ a. sum (mod_ops p) (scale (mod_ops p) a c.args.source.now) (residue_row g.row.W c.args.row.now))
    (c.neg-factor.ensures.negative ∙ ap (λ x. (mod_ops p).neg x) (c.at.ensures.value ∙ sym (residue_row_at g.row.W c.args.column c.args.row.now c.requires.column)))

pub returns-else-factor-ne0-clause-cleared : goal.returns-else-factor-ne0-clause-cleared
returns-else-factor-ne0-clause-cleared g c =
    let p = c.args.p in
    let positive : 0 < p = omega (arith, c.number-number.ensures.small, c.number-number.ensures.value) in
    nothing_to_clear g.row.W p c.neg-factor.result c.args.row.now c.args.source.now positive (omega (arith, c.if-factor-ne0.false)) c.told-source c.requires.prime
    ∙ ap (λ a. sum (mod_ops p) (scale (mod_ops p) a c.args.source.now) (residue_row g.row.W c.args.row.now))
    (c.neg-factor.ensures.negative ∙ ap (λ x. (mod_ops p).neg x) (c.at.ensures.value ∙ sym (residue_row_at g.row.W c.args.column c.args.row.now c.requires.column)))
