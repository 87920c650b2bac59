use Rattle.std.proofs.Common.{◌≡◌, ap, sym, ◌∙◌, subst}
use Rattle.alg_model.specs.Factors.{IsPolynomial}
use Rattle.alg_model.specs.Maps.{field_values}
use Rattle.alg_model.specs.Lattices.{Stored, field_at}
use Rattle.lat_core.specs.SharedRows.{IsBetween}
use Rattle.ff_embed.specs.SmallEmbeddings.{FieldMap}
use Rattle.lat_choice.proofs.Finding.{found_is_stored}
use Rattle.lat_choice.proofs.Agreeing.{restriction_stored}
use Rattle.lat_choice.proofs.narrowing.restriction.Goals as goal

pub returns-clause-polynomial : goal.returns-clause-polynomial
returns-clause-polynomial c =
    let L = c.args.lattice.now in
    let (y, t) = found_is_stored L c.args.d c.args.into c.map-2.result c.unwrap-whole.result
    c.map-2.ensures c.unwrap-whole.ensures in
    subst (λ K. IsPolynomial (field_values K) c.restricted_in.result)
    (ap (λ (e : FieldMap). e.target) c.embedding-2.ensures.same ∙ t.target)
    c.restricted_in.ensures.polynomial

pub returns-clause-restricts : goal.returns-clause-restricts
returns-clause-restricts c =
    let L = c.args.lattice.now in
    let (x, s) = found_is_stored L c.args.d c.args.from c.map.result c.unwrap-sub.result c.map.ensures
    c.unwrap-sub.ensures in
    let (y, t) = found_is_stored L c.args.d c.args.into c.map-2.result c.unwrap-whole.result
    c.map-2.ensures c.unwrap-whole.ensures in
    let e = sym c.embedding.ensures.same in
    let f = sym c.embedding-2.ensures.same in
    restriction_stored (subst (λ (m : FieldMap). Stored L c.args.d c.args.from m.images) e x)
    (subst (IsBetween L.rows c.args.d c.args.from) e s)
    (subst (λ (m : FieldMap). Stored L c.args.d c.args.into m.images) f y)
    (subst (IsBetween L.rows c.args.d c.args.into) f t) c.restricted_in.ensures.roots
