use Rattle.std.proofs.Common.{ℕ, ap, ap₂, ◌∙◌}
use Rattle.alg_model.specs.Coefficients.{mod_ops}
use Rattle.alg_model.specs.Matrices.{Matrix, identity_matrix}
use Rattle.alg_model.specs.Maps.{identity_map}
use Rattle.ff_poly.specs.Polynomial.{Polynomial}
use Rattle.ff_embed.proofs.KeptMaps.{kept_at, identity_kept}
use Rattle.ff_embed.proofs.embeddings.Embedding.identity.Goals as goal

pub of_parts-requires : goal.of_parts-requires
of_parts-requires c =
    let K = c.args.field.now in
    let p = c.prime-p.ensures.value in
    let parts = ap₂ (λ q n. identity_matrix (mod_ops q) n) p c.degree.ensures.value in
    let is = c.identity.ensures.matrix ∙ parts in
    kept_at (record { source = K; target = K; images = identity_map K }) c.copy.result
    c.copy-2.result c.identity.result c.identity-2.result
    (ap (λ (f : Polynomial). f.prime) c.copy.ensures.same ∙ c.poly.ensures.prime)
    (ap (λ (f : Polynomial). f.coefficients) c.copy.ensures.same ∙ c.poly.ensures.coefficients)
    (ap (λ (f : Polynomial). f.prime) c.copy-2.ensures.same ∙ c.poly-2.ensures.prime)
    (ap (λ (f : Polynomial). f.coefficients) c.copy-2.ensures.same ∙ c.poly-2.ensures.coefficients)
    (ap (λ (k : Matrix ℕ). k.columns) is)
    (identity_kept K c.prime-p.ensures.whole c.identity.result c.identity-2.result
    (c.identity.ensures.prime ∙ p) (c.identity-2.ensures.prime ∙ p) is
    (c.identity-2.ensures.matrix ∙ parts))
