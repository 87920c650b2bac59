-- The image of the generator tells the composition.
use Rattle.std.proofs.Common.{rules, ◌≡◌}
use Rattle.std.specs.Prelude.{◌↔◌, IsTrue}
use Rattle.alg_model.specs.Maps.{apply, generator}
use Rattle.lat_audit.proofs.RuleMaps.{composition_by_image}
use Rattle.lat_audit.proofs.rules.is_composition.Goals as goal

pub returns : goal.returns
returns c =
    let m = c.args.map.now in
    let f = c.args.first.now in
    let g = c.args.second.now in
    let told : IsTrue c.eq.result ↔ (apply m.target m.images (generator m.source) ≡ apply g.target g.images (apply f.target f.images (generator f.source))) = search rules in
    let both = composition_by_image f g c.source_degree-2.ensures.whole c.source_degree-3.ensures.whole c.requires.meets m c.source_degree.ensures.whole c.requires.begins c.requires.ends in
    (λ t. both.0 (told.0 t), λ e. told.1 (both.1 e))
