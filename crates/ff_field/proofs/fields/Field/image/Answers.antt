use Rattle.std.proofs.Common.{◌-◌, ◌++◌, length, take, replicate, slice_index, ap, sym, ◌∙◌, subst, arith}
use Rattle.alg_model.specs.Coefficients.{power}
use Rattle.alg_model.specs.Maps.{field_values}
use Rattle.ff_field.proofs.RowProducts.{value_of_places}
use Rattle.ff_field.proofs.FrobeniusColumns.{powers_valid}
use Rattle.ff_field.proofs.fields.Field.image.Goals as goal

pub returns-clause-value : goal.returns-clause-value
returns-clause-value g c =
    let K = c.args.self.now in
    let W = c.degree-n.ensures.whole.finite in
    let a = c.args.a.now in
    let row = c.image_row-row.result in
    c.padded.ensures
    ∙ ap (λ n. take n row ++ replicate (n - length (take n row)) 0) c.degree-n.ensures.value
    ∙ value_of_places K W row (power (field_values K).ops a K.characteristic)
    (powers_valid K W a c.requires.valid K.characteristic)
    (omega (arith, c.image_row-row.ensures.len, c.requires.fits))
    (λ k l. c.image_row-row.ensures.places k l
    ∙ ap (λ x. slice_index (power (field_values K).ops x K.characteristic) k) c.digits.ensures.value)

pub returns-clause-valid : goal.returns-clause-valid
returns-clause-valid g c = subst (field_values c.args.self.now).Valid (sym (returns-clause-value g c))
    (powers_valid c.args.self.now c.degree-n.ensures.whole.finite c.args.a.now c.requires.valid
    c.args.self.now.characteristic)
