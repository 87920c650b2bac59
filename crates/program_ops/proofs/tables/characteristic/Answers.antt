use Rattle.program_ops.proofs.TablePolynomials.{listed_is_characteristic}
use Rattle.program_ops.proofs.tables.characteristic.Goals as goal

pub unreachable-requires : goal.unreachable-requires
unreachable-requires c = c.in-None.ensures (listed_is_characteristic c.args.k _ c.requires)
