use Rattle.std.proofs.Common.{◌≡◌, ◌↔◌, ap, ◌∙◌, subst}
use Rattle.std.specs.List.{Contains}
use Rattle.alg_model.specs.Maps.{constants}
use Rattle.alg_model.specs.Roots.{IsRoot}
use Rattle.alg_model.specs.Lattices.{Row, field_at}
use Rattle.alg_choices.proofs.Searching.{selects_candidates}
use Rattle.lat_choice.proofs.Covering.{needed_sufficient}
use Rattle.lat_choice.proofs.choices.candidates.Goals as goal

pub returns-clause-exactly : goal.returns-clause-exactly
returns-clause-exactly c =
    let L = c.args.lattice.now in
    let E = c.args.from in
    let F = c.args.into in
    let list = c.common_roots.result in
    let g = c.sending_too-polynomial.result in
    let C = c.field-source.ensures.whole in
    let target : c.target.inside.field ≡ field_at L.rows F =
    ap (λ (r : Row). r.field) (c.target.view_is ∙ c.field-target.ensures.value) in
    let source : c.poly.result.now.coefficients ≡ (field_at L.rows E).polynomial =
    c.poly.ensures.coefficients
    ∙ ap (λ (r : Row). r.field.polynomial) (c.source.view_is ∙ c.field-source.ensures.value) in
    λ v.
    let roots = selects_candidates C c.requires.fields c.requires.alike
    c.sending_too-polynomial.ensures.narrows (needed_sufficient C c.requires.fields) v in
    let listed = subst
    (λ K. Contains list v ↔ (IsRoot K (constants K (field_at L.rows E).polynomial) v × IsRoot K g v))
    target
    (subst (λ f. Contains list v ↔ (IsRoot c.target.inside.field (constants c.target.inside.field f) v
    × IsRoot c.target.inside.field g v)) source (c.common_roots.ensures.exactly v)) in
    (λ m. roots.0 (listed.0 m), λ x. listed.1 (roots.1 x))
