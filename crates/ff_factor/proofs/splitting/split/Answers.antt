use Rattle.std.proofs.Common.{◌-◌, length, ap, ap₂, sym, ◌∙◌}
use Rattle.std.proofs.lemmas.List.FromFn.{length-map-range_with_len}
use Rattle.alg_model.specs.Coefficients.{mod_ops}
use Rattle.alg_model.specs.Values.{degree}
use Rattle.alg_model.specs.Matrices.{matrix_product, identity_matrix}
use Rattle.ff_factor.specs.Certificates.{berlekamp_column}
use Rattle.ff_factor.proofs.splitting.split.Goals as goal

pub split_power-requires-clause-left_inverse : goal.split_power-requires-clause-left_inverse
split_power-requires-clause-left_inverse c =
    let p = c.args.f.now.prime in
    let f = c.args.f.now.coefficients in
    let m = c.matrix_in_turn-matrix.ensures in
    let long = length-map-range_with_len (berlekamp_column (mod_ops p) p f) 1 (degree f - 1) in
    sym (ap₂ (λ q b. matrix_product (mod_ops q) c.in-Some.left.matrix b) m.prime m.matrix)
    ∙ (c.in-Some.ensures.some c.matrix_in_turn-matrix.result c.echelon-echelon.ensures).2
    ∙ ap₂ (λ q b. identity_matrix (mod_ops q) (length b.columns)) m.prime m.matrix
    ∙ ap (identity_matrix (mod_ops p)) long
