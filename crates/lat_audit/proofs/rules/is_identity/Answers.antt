-- The image of the generator tells the identity.
use Rattle.std.proofs.Common.{rules, ◌≡◌}
use Rattle.std.specs.Prelude.{◌↔◌, IsTrue}
use Rattle.alg_model.specs.Maps.{apply, generator}
use Rattle.lat_audit.proofs.RuleMaps.{identity_by_image}
use Rattle.lat_audit.proofs.rules.is_identity.Goals as goal

pub returns : goal.returns
returns c =
    let m = c.args.map.now in
    let told : IsTrue c.eq.result ↔ (apply m.target m.images (generator m.source) ≡ generator c.args.field.now) = search rules in
    let both = identity_by_image m c.args.field.now c.source_degree.ensures.whole c.requires.source c.requires.target in
    (λ t. both.0 (told.0 t), λ e. told.1 (both.1 e))
