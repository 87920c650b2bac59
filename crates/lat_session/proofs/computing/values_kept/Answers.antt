use Rattle.lat_session.proofs.KeptValues.{tables_keep}
use Rattle.lat_session.proofs.computing.values_kept.Goals as goal

pub returns : goal.returns
returns g c = tables_keep c.args.ops.now.first c.args.ops.now.second c.args.ops.now.third
    c.table-first.ensures.whole c.table-second.ensures.whole c.table-third.ensures.whole
