use Rattle.std.proofs.Common.{refl, arith, ap, ◌∙◌}
use Rattle.lat_fill.proofs.MadeFields.{made_more}
use Rattle.lat_fill.proofs.made.made_fields.Goals as goal

pub loop-place-preserved : goal.loop-place-preserved
loop-place-preserved c = made_more c.loop-place.fields.items c.push.new.self.items c.made_field.result _ _ _ c.loop-place.invariant c.made_field.ensures
    (omega (arith, c.fields-first.ensures.value)) (c.prime-p.ensures.value ∙ ap (λ K. K.characteristic) c.field_of.ensures) refl
    c.in_ok-push.ensures.items
