use Rattle.std.proofs.Common.{◌≡◌, ◌-◌, length, ap, ap₂, sym, ◌∙◌, arith}
use Rattle.alg_model.specs.Coefficients.{mod_ops}
use Rattle.alg_model.specs.Values.{degree}
use Rattle.alg_model.specs.Matrices.{matrix_product, identity_matrix}
use Rattle.ff_factor.specs.Certificates.{berlekamp_matrix}
use Rattle.ff_factor.proofs.certificates.is_left_inverse.Goals as goal

pub returns : goal.returns
returns c =
    let p = c.args.f.now.prime in
    let f = c.args.f.now.coefficients in
    let left = c.args.left.now.matrix in
    let b = c.matrix_by_powers.ensures in
    let m = c.mul-product.ensures in
    let product : c.mul-product.result.matrix ≡ matrix_product (mod_ops p) left (berlekamp_matrix (mod_ops p) p f) =
    m.product ∙ ap₂ (λ q n. matrix_product (mod_ops q) left n) c.requires.prime b.matrix in
    let size : length c.coefficients.result.now - 2 ≡ degree f - 1 = omega (arith, ap length c.coefficients.ensures.value) in
    let identity = ap₂ (λ q n. identity_matrix (mod_ops q) n) (m.prime ∙ c.requires.prime) size in
    ((λ t. sym product ∙ c.is_identity.ensures.0 t ∙ identity), (λ e. c.is_identity.ensures.1 (product ∙ e ∙ sym identity)))
