use Rattle.std.proofs.Common.{ap, ◌∙◌}
use Rattle.alg_model.specs.Maps.{comp}
use Rattle.ff_poly.specs.Polynomial.{Polynomial}
use Rattle.ff_matrix.specs.ModularMatrix.{ModularMatrix}
use Rattle.ff_embed.proofs.KeptMaps.{kept_at, inverse_kept}
use Rattle.ff_embed.proofs.Undoing.{undoing_back, undoing_forth}
use Rattle.ff_embed.proofs.embeddings.Embedding.invert.Goals as goal

pub of_parts-requires : goal.of_parts-requires
of_parts-requires c =
    let e = c.args.self.now in
    let l = c.inverse.result.now.matrix.columns in
    let u = c.copy-3.ensures.same in
    let m = c.copy-4.ensures.same in
    kept_at (record { source = e.target; target = e.source; images = l }) c.copy.result
    c.copy-2.result c.copy-3.result c.copy-4.result
    (ap (λ (f : Polynomial). f.prime) c.copy.ensures.same ∙ c.target_poly.ensures.prime)
    (ap (λ (f : Polynomial). f.coefficients) c.copy.ensures.same
    ∙ c.target_poly.ensures.coefficients)
    (ap (λ (f : Polynomial). f.prime) c.copy-2.ensures.same ∙ c.source_poly.ensures.prime)
    (ap (λ (f : Polynomial). f.coefficients) c.copy-2.ensures.same
    ∙ c.source_poly.ensures.coefficients)
    (ap (λ (x : ModularMatrix). x.matrix.columns) u)
    (inverse_kept e c.inverse.ensures.whole l c.inverse.ensures.back c.inverse.ensures.undone
    c.requires c.copy-4.result c.copy-3.result
    (ap (λ (x : ModularMatrix). x.prime) m ∙ c.images.ensures.prime)
    (ap (λ (x : ModularMatrix). x.matrix.rows) m ∙ c.images.ensures.rows)
    (ap (λ (x : ModularMatrix). x.matrix.columns) m ∙ c.images.ensures.columns)
    (ap (λ (x : ModularMatrix). x.prime) u ∙ c.inverse.ensures.prime)
    (ap (λ (x : ModularMatrix). x.matrix.rows) u ∙ c.inverse.ensures.rows))

pub returns-clause-back : goal.returns-clause-back
returns-clause-back c =
    let e = c.args.self.now in
    let S = c.inverse.ensures.whole in
    ap (comp e.source e.images) (c.of_parts.ensures.images
    ∙ ap (λ (x : ModularMatrix). x.matrix.columns) c.copy-3.ensures.same)
    ∙ undoing_back e.source e.target S.source.finite S.target.finite e.images S.embedding
    c.inverse.result.now.matrix.columns c.inverse.ensures.back c.inverse.ensures.undone c.requires

pub returns-clause-forth : goal.returns-clause-forth
returns-clause-forth c =
    let e = c.args.self.now in
    let S = c.inverse.ensures.whole in
    ap (λ l. comp e.target l e.images) (c.of_parts.ensures.images
    ∙ ap (λ (x : ModularMatrix). x.matrix.columns) c.copy-3.ensures.same)
    ∙ undoing_forth e.source e.target S.source.finite S.target.finite e.images S.embedding
    c.inverse.result.now.matrix.columns c.inverse.ensures.back c.inverse.ensures.undone c.requires
