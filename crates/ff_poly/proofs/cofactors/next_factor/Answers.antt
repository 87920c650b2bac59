use Rattle.std.proofs.Common.{◌≡◌, ℕ, ◌+◌, ◌*◌, ◌^◌, ◌%◌, ◌<◌, ◌≤◌, slice_index, take, refl, ap, sym, ◌∙◌, arith, length-take}
use Rattle.std.proofs.lemmas.List.Elements.{All-take}
use native.Mathlib.Nat.{zero-mod}
use Rattle.alg_model.specs.Coefficients.{mod_ops}
use Rattle.alg_model.specs.Polynomials.{trim, product}
use Rattle.alg_rings.proofs.Lists.{convolution_to_same}
use Rattle.alg_rings.proofs.Trims.{trim_at}
use Rattle.alg_rings.proofs.Residues.{nat_ops, zero_test, product_mod}
use Rattle.ff_poly.specs.declared.TheConstants.{MAX_POLY}
use Rattle.ff_poly.proofs.Convolutions.{convolution_past}
use Rattle.ff_poly.proofs.CofactorRows.{difference_of_rows, same_product}
use Rattle.ff_poly.proofs.cofactors.next_factor.Goals as goal

pub less_product-requires : goal.less_product-requires
less_product-requires g c =
    let w = g.row.W in
    let p = c.args.p in
    let q = take c.args.steps c.args.quotient.now in
    let v = c.args.v.now in
    let width : g.row.W ≤ MAX_POLY = c.requires.width in
    let fits : g.row.W * 1 < 2 ^ 63 = omega arith in
    let past : (k : ℕ) → w ≤ k → slice_index (product (mod_ops p) q v) k ≡ 0 = λ k l.
    product_mod p q v k
    ∙ ap (λ x. x % p) (convolution_to_same nat_ops k q q v (trim (mod_ops p) v) k (λ i. refl) (λ i. sym (trim_at (mod_ops p) (zero_test p) v i))
    ∙ convolution_past q (trim (mod_ops p) v) k (omega (arith, length-take c.args.steps c.args.quotient.now, c.requires.room)))
    ∙ zero-mod p in
    (fits, (width, (c.requires.sizes, (c.requires.first, (omega (arith, length-take c.args.steps c.args.quotient.now, c.requires.few), (All-take (λ x. x < p) c.args.steps c.args.quotient.now c.requires.quotient, (c.requires.second, past)))))))

pub returns-clause-difference : goal.returns-clause-difference
returns-clause-difference g c =
    let p = c.args.p in
    let above : 1 < p = omega (arith, c.number-number.ensures.small, c.number-number.ensures.value) in
    let q = c.args.quotient.now in
    difference_of_rows p q c.args.u.now c.args.v.now c.less_product.result above
    c.requires.quotient c.requires.first c.requires.second c.less_product.ensures.residues
    (λ k. ap (λ x. (x + slice_index c.less_product.result k) % p) (same_product p c.args.steps q c.args.v.now c.requires.short k)
    ∙ c.less_product.ensures.places k)
