use Rattle.std.proofs.Common.{◌-◌, ◌++◌, length, take, replicate, slice_index, ap, ap₂, sym, ◌∙◌, subst, arith}
use Rattle.alg_model.specs.Maps.{field_values}
use Rattle.ff_field.proofs.RowProducts.{value_of_places, product_of_valid}
use Rattle.ff_field.proofs.modulus.Modulus.product.Goals as goal

pub returns-clause-value : goal.returns-clause-value
returns-clause-value g c =
    let K = c.args.self.now in
    let W = c.degree-n.ensures.whole.finite in
    let a = c.args.a.now in
    let b = c.args.b.now in
    let row = c.product_row-row.result in
    let v = product_of_valid K W a b c.requires.first c.requires.second in
    c.padded.ensures
    ∙ ap (λ n. take n row ++ replicate (n - length (take n row)) 0) c.degree-n.ensures.value
    ∙ value_of_places K W row ((field_values K).ops.mul a b) v
    (omega (arith, c.product_row-row.ensures.len, c.requires.fits))
    (λ k l. c.product_row-row.ensures.places k l
    ∙ ap₂ (λ x y. slice_index ((field_values K).ops.mul x y) k) c.digits.ensures.value c.digits-2.ensures.value)

pub returns-clause-valid : goal.returns-clause-valid
returns-clause-valid g c = subst (field_values c.args.self.now).Valid (sym (returns-clause-value g c))
    (product_of_valid c.args.self.now c.degree-n.ensures.whole.finite c.args.a.now c.args.b.now
    c.requires.first c.requires.second)
