-- One map after the other.
use Rattle.std.proofs.Common.{rules, ◌≡◌, ap, sym, ◌∙◌}
use Rattle.alg_model.specs.Maps.{apply}
use Rattle.ff_embed.specs.SmallEmbeddings.{FieldMap}
use Rattle.lat_core.specs.declared.rows.MapRow.{MapRow}
use Rattle.lat_audit.proofs.ComposedMaps.{composed_image}
use Rattle.lat_audit.proofs.maps.composed.Goals as goal

pub returns : goal.returns
returns c =
    let a = c.deref-to.result.now in
    let b = c.deref-on.result.now in
    let to : a ≡ c.args.first.now.map = c.deref-to.ensures ∙ ap (λ (m : MapRow). m.map) c.first.view_is in
    let on : b ≡ c.args.second.now.map = c.deref-on.ensures ∙ ap (λ (m : MapRow). m.map) c.second.view_is in
    let same : c.digits.result.now ≡ c.digits-2.result.now = search rules in
    let e = c.in_ok-compose.ensures in (
      e.source ∙ ap (λ (m : FieldMap). m.source) to,
      e.target ∙ ap (λ (m : FieldMap). m.target) on,
      e.whole,
      composed_image a b c.in_ok-compose.field-0 c.args.image.now.1 c.source_degree.ensures.whole
          c.source_degree-2.ensures.whole
          (ap (λ (m : FieldMap). m.source) on ∙ c.requires ∙ ap (λ (m : FieldMap). m.target) (sym to))
          e.source e.target e.images
          (ap (apply b.target b.images) (sym c.image.ensures.value) ∙ sym c.apply.ensures.value
          ∙ sym c.digits.ensures.value ∙ same ∙ c.digits-2.ensures.value ∙ c.value.ensures),
    )
