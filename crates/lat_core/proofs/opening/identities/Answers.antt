use Rattle.std.proofs.Common.{◌∙◌}
use Rattle.lat_core.proofs.Openings.{pushed_identity}
use Rattle.lat_core.proofs.opening.identities.Goals as goal

pub loop-number-preserved : goal.loop-number-preserved
loop-number-preserved c = c.in_ok-push.ensures.items
    ∙ pushed_identity c.args.fields.now c.loop-number.number c.index-fields-number.result c.loop-number.maps.items c.identity_of.result
    c.loop-number.invariant c.loop-number-test.true c.index-fields-number.is c.identity_of.ensures
