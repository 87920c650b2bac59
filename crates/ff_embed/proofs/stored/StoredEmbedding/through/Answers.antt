use Rattle.std.proofs.Common.{◌≡◌, ℕ, refl, ap, ◌∙◌}
use Rattle.alg_model.specs.Matrices.{Matrix}
use Rattle.alg_model.specs.Maps.{degree_of, comp}
use Rattle.ff_poly.specs.Polynomial.{Polynomial}
use Rattle.ff_embed.proofs.KeptMaps.{kept_at, product_is_comp, through_kept, through_is_followed}
use Rattle.ff_embed.proofs.stored.StoredEmbedding.through.Goals as goal

pub of_parts-requires : goal.of_parts-requires
of_parts-requires c =
    let i = c.args.i_to_f.now in
    let j = c.args.j_to_f.now in
    let l = c.inverse.result.now in
    let k = c.inverse-2.result.now in
    let is : c.in_ok-images.images.matrix
    ≡ record { rows = degree_of j.source; columns = comp j.source i.images l.matrix.columns } =
    c.in_ok-images.ensures.product
    ∙ product_is_comp j.source l c.images.result.now i.images l.matrix.columns
    c.inverse.ensures.prime c.inverse.ensures.rows refl c.images.ensures.columns in
    kept_at
    (record { source = i.source; target = j.source; images = comp j.source i.images l.matrix.columns })
    c.copy.result c.copy-2.result c.in_ok-images.images c.in_ok-inverse.inverse
    (ap (λ (f : Polynomial). f.prime) c.copy.ensures.same ∙ c.source_poly.ensures.prime)
    (ap (λ (f : Polynomial). f.coefficients) c.copy.ensures.same
    ∙ c.source_poly.ensures.coefficients)
    (ap (λ (f : Polynomial). f.prime) c.copy-2.ensures.same ∙ c.source_poly-2.ensures.prime)
    (ap (λ (f : Polynomial). f.coefficients) c.copy-2.ensures.same
    ∙ c.source_poly-2.ensures.coefficients)
    (ap (λ (x : Matrix ℕ). x.columns) is)
    (through_kept i j c.inverse-2.ensures.whole c.inverse.ensures.whole c.requires.target
    k.matrix.columns l.matrix.columns c.inverse-2.ensures.back c.inverse.ensures.back
    c.inverse-2.ensures.undone c.inverse.ensures.undone c.requires.divides c.in_ok-images.images
    c.in_ok-inverse.inverse (c.in_ok-images.ensures.prime ∙ c.inverse.ensures.prime)
    (ap (λ (x : Matrix ℕ). x.rows) is) (c.in_ok-inverse.ensures.prime ∙ c.inverse-2.ensures.prime)
    (c.in_ok-inverse.ensures.product
    ∙ product_is_comp i.source k c.images-2.result.now j.images k.matrix.columns
    c.inverse-2.ensures.prime c.inverse-2.ensures.rows refl c.images-2.ensures.columns))

pub returns-clause-images : goal.returns-clause-images
returns-clause-images c =
    let i = c.args.i_to_f.now in
    let j = c.args.j_to_f.now in
    let l = c.inverse.result.now in
    let k = c.inverse-2.result.now in
    ap (λ m. comp j.target m j.images) (c.of_parts.ensures.images
    ∙ ap (λ (x : Matrix ℕ). x.columns) (c.in_ok-images.ensures.product
    ∙ product_is_comp j.source l c.images.result.now i.images l.matrix.columns
    c.inverse.ensures.prime c.inverse.ensures.rows refl c.images.ensures.columns))
    ∙ through_is_followed i j c.inverse-2.ensures.whole c.inverse.ensures.whole c.requires.target
    k.matrix.columns l.matrix.columns c.inverse-2.ensures.back c.inverse.ensures.back
    c.inverse-2.ensures.undone c.inverse.ensures.undone c.requires.divides
