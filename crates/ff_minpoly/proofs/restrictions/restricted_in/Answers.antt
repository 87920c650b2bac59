use Rattle.std.proofs.Common.{◌≡◌, map, ap, sym, ◌∙◌, subst}
use Rattle.alg_model.specs.Polynomials.{trim}
use Rattle.alg_model.specs.Maps.{field_values, generator, apply, IsEmbedding}
use Rattle.alg_model.specs.Roots.{IsMinimalOver}
use Rattle.ff_minpoly.proofs.Extending.{IsRestricted, restricted_facts}
use Rattle.ff_minpoly.proofs.restrictions.restricted_in.Goals as goal
use Rattle.ff_minpoly.proofs.restrictions.restricted_in.Goals.{After-image}

facts : (c : After-image) → IsRestricted c.args.sub.now.source c.args.sub.now.target c.args.into.now.target
    c.args.sub.now.images c.args.into.now.images c.image.result
facts c =
    let D = c.args.sub.now.source in
    let E = c.args.sub.now.target in
    let F = c.args.into.now.target in
    let s = c.args.sub.now.images in
    let t = c.args.into.now.images in
    let g = c.over_in-minimal.result in
    let P = c.prime-sub.ensures.whole in
    let Q = c.prime-into.ensures.whole in
    let x_is : c.generator.result ≡ generator E =
    c.generator.ensures.value ∙ ap generator c.requires.middle in
    let C : IsEmbedding D F t = subst (λ A. IsEmbedding A F t) (sym c.requires.same) Q.embedding in
    let M : IsMinimalOver D E s (generator E) g =
    subst (λ x. IsMinimalOver D E s x g) x_is c.over_in-minimal.ensures in
    restricted_facts D E F P.source.finite P.target.finite Q.target.finite s t P.embedding C g M c.image.result
    (c.image.ensures.coefficients
    ∙ ap (λ l. trim (field_values F).ops (map (apply F t) l)) c.coefficients.ensures.value)

pub returns-clause-monic : goal.returns-clause-monic
returns-clause-monic c = (facts c).monic

pub returns-clause-count : goal.returns-clause-count
returns-clause-count c = (facts c).count

pub returns-clause-roots : goal.returns-clause-roots
returns-clause-roots c v vv =
    let found = (facts c).roots v vv in (
      λ zero_is. let e = found.0 zero_is in record { embedding = e.0; generator = e.1; agrees = e.2 },
      λ e. found.1 (e.embedding, e.generator, e.agrees),
    )
