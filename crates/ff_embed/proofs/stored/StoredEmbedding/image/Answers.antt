use Rattle.std.proofs.Common.{◌<◌, [], slice_index_or, ap, ◌∙◌, arith}
use Rattle.alg_model.specs.Maps.{degree_of}
use Rattle.ff_embed.specs.SmallEmbeddings.{FieldMap}
use Rattle.ff_embed.proofs.KeptMaps.{second_is_image}
use Rattle.ff_embed.proofs.stored.StoredEmbedding.image.Goals as goal

pub returns-clause-value : goal.returns-clause-value
returns-clause-value c =
    let e = c.args.self.now in
    let above : 1 < degree_of e.source =
    omega (arith, c.source_degree.ensures.value, c.source_degree.ensures.positive, c.if-source_degree-eq1.false) in
    c.of_digits.ensures ∙ c.column.ensures.value
    ∙ ap (λ (m : FieldMap). slice_index_or m.images 1 []) c.self.view_is
    ∙ second_is_image e c.source_degree.ensures.whole above
