use Rattle.lat_core.proofs.Openings.{told_at}
use Rattle.lat_core.proofs.opening.prime_fields.Goals as goal

pub unwrap-requires : goal.unwrap-requires
unwrap-requires c = told_at c.args.edition c.characteristics-p-items.result.now c.loop-p.p-index _ c.of.result
    c.characteristics-p-items.ensures c.loop-p-test.true c.of.ensures
