use Rattle.std.proofs.Common.{arith}
use Rattle.alg_model.specs.Coefficients.{mod_ops}
use Rattle.alg_linear.proofs.Columns.{scale_by_places}
use Rattle.ff_matrix.proofs.places.scale_places.Goals as goal

pub returns-clause-scaled : goal.returns-clause-scaled
returns-clause-scaled c =
    scale_by_places (mod_ops c.args.p) c.args.factor c.args.row.now c.loop-i.row (omega arith) (λ k l. c.loop-i.invariant.before k (omega arith))
