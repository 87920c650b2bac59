-- The image of the generator tells the identity.
use Rattle.std.proofs.Common.{rules, ◌≡◌, sym, subst, ◌∙◌}
use Rattle.std.specs.Prelude.{◌↔◌, IsTrue}
use Rattle.alg_model.specs.Maps.{Field, apply, comp, identity_map, generator}
use Rattle.lat_audit.proofs.RuleMaps.{back_by_image}
use Rattle.lat_audit.proofs.rules.undoes.Goals as goal

pub returns : goal.returns
returns c =
    let f = c.args.first.now in
    let g = c.args.second.now in
    let told : IsTrue c.eq.result ↔ (apply g.target g.images (apply f.target f.images (generator f.source)) ≡ generator c.args.field.now) = search rules in
    let both = back_by_image f g c.source_degree.ensures.whole c.source_degree-2.ensures.whole c.requires.meets (c.requires.ends ∙ sym c.requires.begins) in (
      λ t. subst (λ (K : Field). comp K f.images g.images ≡ identity_map K) c.requires.begins
          (both.0 (subst (λ (K : Field). apply g.target g.images (apply f.target f.images (generator f.source)) ≡ generator K) (sym c.requires.begins) (told.0 t))),
      λ e. told.1 (subst (λ (K : Field). apply g.target g.images (apply f.target f.images (generator f.source)) ≡ generator K) c.requires.begins
          (both.1 (subst (λ (K : Field). comp K f.images g.images ≡ identity_map K) (sym c.requires.begins) e))),
    )
