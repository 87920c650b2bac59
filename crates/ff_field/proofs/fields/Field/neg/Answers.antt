use Rattle.std.proofs.Common.{◌-◌, ◌%◌, ◌++◌, length, take, replicate, slice_index, ap, ap₂, sym, ◌∙◌, subst, arith}
use Rattle.alg_model.specs.Maps.{field_values}
use Rattle.ff_field.proofs.RowProducts.{value_of_places, negative_valid, negative_place}
use Rattle.ff_field.proofs.fields.Field.neg.Goals as goal

pub returns-clause-value : goal.returns-clause-value
returns-clause-value c =
    let K = c.args.self.now in
    let W = c.degree-n.ensures.whole.finite in
    let row = c.negative_row-row.result in
    c.padded.ensures
    ∙ ap (λ n. take n row ++ replicate (n - length (take n row)) 0) c.degree-n.ensures.value
    ∙ value_of_places K W row ((field_values K).ops.neg c.args.a.now)
    (negative_valid K W c.args.a.now c.requires)
    (omega (arith, c.negative_row-row.ensures.len, c.degree-n.ensures.whole.fits))
    (negative_place K c.args.a.now c.requires row
    (λ k l. c.negative_row-row.ensures.places k (let e = ap length c.digits.ensures.value in omega (arith, e, c.requires.1))
    ∙ ap₂ (λ u q. (q - u) % q) (ap (λ v. slice_index v k) c.digits.ensures.value) c.prime.ensures.value))

pub returns-clause-valid : goal.returns-clause-valid
returns-clause-valid c = subst (field_values c.args.self.now).Valid (sym (returns-clause-value c))
    (negative_valid c.args.self.now c.degree-n.ensures.whole.finite c.args.a.now c.requires)
