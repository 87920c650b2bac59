use Rattle.std.proofs.Common.{◌≡◌, ℕ, refl, ap, ◌∙◌}
use Rattle.alg_model.specs.Matrices.{Matrix}
use Rattle.alg_model.specs.Maps.{degree_of, comp}
use Rattle.ff_poly.specs.Polynomial.{Polynomial}
use Rattle.ff_embed.proofs.KeptMaps.{kept_at, product_is_comp, comp_kept}
use Rattle.ff_embed.proofs.stored.StoredEmbedding.compose.Goals as goal

pub of_parts-requires : goal.of_parts-requires
of_parts-requires c =
    let d = c.args.self.now in
    let e = c.args.next.now in
    let k = c.inverse.result.now in
    let l = c.inverse-2.result.now in
    let is : c.in_ok-images.images.matrix
    ≡ record { rows = degree_of e.target; columns = comp e.target d.images e.images } =
    c.in_ok-images.ensures.product
    ∙ product_is_comp e.target c.images.result.now c.images-2.result.now d.images e.images
    c.images.ensures.prime c.images.ensures.rows c.images.ensures.columns
    c.images-2.ensures.columns in
    kept_at
    (record { source = d.source; target = e.target; images = comp e.target d.images e.images })
    c.copy.result c.copy-2.result c.in_ok-images.images c.in_ok-inverse.inverse
    (ap (λ (f : Polynomial). f.prime) c.copy.ensures.same ∙ c.source_poly.ensures.prime)
    (ap (λ (f : Polynomial). f.coefficients) c.copy.ensures.same
    ∙ c.source_poly.ensures.coefficients)
    (ap (λ (f : Polynomial). f.prime) c.copy-2.ensures.same ∙ c.target_poly.ensures.prime)
    (ap (λ (f : Polynomial). f.coefficients) c.copy-2.ensures.same
    ∙ c.target_poly.ensures.coefficients)
    (ap (λ (x : Matrix ℕ). x.columns) is)
    (comp_kept d e c.inverse.ensures.whole c.inverse-2.ensures.whole c.requires k.matrix.columns
    l.matrix.columns c.inverse.ensures.back c.inverse-2.ensures.back c.inverse.ensures.undone
    c.inverse-2.ensures.undone c.in_ok-images.images c.in_ok-inverse.inverse
    (c.in_ok-images.ensures.prime ∙ c.images.ensures.prime) (ap (λ (x : Matrix ℕ). x.rows) is)
    (c.in_ok-inverse.ensures.prime ∙ c.inverse.ensures.prime)
    (c.in_ok-inverse.ensures.product
    ∙ product_is_comp d.source k l l.matrix.columns k.matrix.columns c.inverse.ensures.prime
    c.inverse.ensures.rows refl refl))

pub returns-clause-images : goal.returns-clause-images
returns-clause-images c =
    let d = c.args.self.now in
    let e = c.args.next.now in
    c.of_parts.ensures.images
    ∙ ap (λ (x : Matrix ℕ). x.columns) (c.in_ok-images.ensures.product
    ∙ product_is_comp e.target c.images.result.now c.images-2.result.now d.images e.images
    c.images.ensures.prime c.images.ensures.rows c.images.ensures.columns
    c.images-2.ensures.columns)
