-- The composition that the list leads to.
use Rattle.std.proofs.Common.{ap, ◌∙◌}
use Rattle.std.proofs.lemmas.Result.{IfOk-weaker}
use Rattle.lat_audit.proofs.ComposedMaps.{some_judged, found_between}
use Rattle.lat_audit.proofs.maps.by_composition.Goals as goal

pub returns : goal.returns
returns c =
    let rows = c.args.fields.now in
    let e = c.args.image.now in
    let a = c.in-Some.first.now in
    let b = c.in-Some-found.second.now in
    let first = found_between rows c.args.maps.now a e.0.0 c.first_alike-l.result c.requires.between
    c.in-Some.ensures.0 (c.in-Some.ensures.1.0 ∙ ap (λ p. p.0) c.pair-i.ensures) c.in-Some.ensures.1.1 in
    let second = found_between rows c.args.maps.now b c.first_alike-l.result e.0.1 c.requires.between
    c.in-Some-found.ensures.0 c.in-Some-found.ensures.1.0
    (c.in-Some-found.ensures.1.1 ∙ ap (λ p. p.1) c.pair-i.ensures) in
    IfOk-weaker c.composed.result _ _
    (λ found h. some_judged rows e.0.0 e.0.1 e.1 a.map b.map found first.source second.target h)
    c.composed.ensures
