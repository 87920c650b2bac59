use Rattle.std.proofs.Common.{ap, ◌∙◌}
use Rattle.alg_model.specs.Maps.{powers, degree_of}
use Rattle.ff_poly.specs.Polynomial.{Polynomial}
use Rattle.ff_embed.proofs.KeptMaps.{kept_at, powers_independent, root_kept}
use Rattle.ff_embed.proofs.roots.by_powers.Goals as goal

pub left_inverse-inverse-requires : goal.left_inverse-inverse-requires
left_inverse-inverse-requires c =
    let m = c.power_columns-images.ensures in
    powers_independent c.args.from.now c.args.into.now c.degree.ensures.whole c.degree-target.ensures.whole c.args.v.now
    c.requires.characteristic c.requires.root c.power_columns-images.result m.prime m.rows
    (m.columns ∙ ap (powers c.args.into.now c.args.v.now) c.degree.ensures.value)

pub of_parts-requires : goal.of_parts-requires
of_parts-requires c =
    let E = c.args.from.now in
    let F = c.args.into.now in
    let v = c.args.v.now in
    let m = c.power_columns-images.ensures in
    let l = c.left_inverse-inverse.ensures in
    let columns = m.columns ∙ ap (powers F v) c.degree.ensures.value in
    kept_at (record { source = E; target = F; images = powers F v (degree_of E) }) c.copy.result
    c.copy-2.result c.power_columns-images.result c.left_inverse-inverse.result
    (ap (λ (f : Polynomial). f.prime) c.copy.ensures.same ∙ c.poly.ensures.prime)
    (ap (λ (f : Polynomial). f.coefficients) c.copy.ensures.same ∙ c.poly.ensures.coefficients)
    (ap (λ (f : Polynomial). f.prime) c.copy-2.ensures.same ∙ c.poly-2.ensures.prime)
    (ap (λ (f : Polynomial). f.coefficients) c.copy-2.ensures.same ∙ c.poly-2.ensures.coefficients)
    columns
    (root_kept E F c.degree.ensures.whole c.poly-2.ensures.whole v c.requires.characteristic
    c.requires.root c.power_columns-images.result m.prime m.rows columns
    c.left_inverse-inverse.result c.prime-prime.ensures.whole l.prime l.sizes l.product)
