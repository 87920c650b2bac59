use Rattle.std.proofs.Common.{slice_index, ap, ◌∙◌}
use Rattle.alg_model.specs.Maps.{constant, field_values}
use Rattle.alg_model.specs.Conjugates.{norm, conjugates, product_all}
use Rattle.alg_galois.proofs.FieldTraces.{prime_traces}
use Rattle.ff_field.proofs.SmallFieldLaws.{lowest_digit}
use Rattle.ff_field.proofs.fields.Field.norm.Goals as goal

pub returns-clause-value : goal.returns-clause-value
returns-clause-value c =
    let K = c.args.self.now in
    let W = c.degree.ensures.whole.finite in
    let a = c.args.a.now in
    ap (λ xs. constant K (slice_index xs 0))
    (c.digits.ensures.value ∙ c.product_of_conjugates-product.ensures.value
    ∙ ap (λ m. product_all (field_values K).ops (conjugates (field_values K).ops K.characteristic m a)) c.degree.ensures.value)
    ∙ lowest_digit K W (norm K a) (let (t, e) = (prime_traces K W).norm_is_image a c.requires in (t.0, t.1, e))
