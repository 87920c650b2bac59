use Rattle.std.proofs.Common.{sym, subst}
use Rattle.alg_model.specs.Maps.{field_values}
use Rattle.natural_ops.proofs.TableValues.{value_at_valid}
use Rattle.natural_ops.proofs.operations.NaturalOp.apply.Goals as goal

pub returns-clause-valid : goal.returns-clause-valid
returns-clause-valid g c = subst (field_values c.args.field.now).Valid
    (sym (c.self.invariant.answers c.args.field.now c.args.a.now c.run.result
    c.prime-prime.ensures.whole c.requires c.run.ensures))
    (value_at_valid c.self.inside.table c.args.field.now c.args.a.now c.polys-polys.ensures.whole
    c.prime-prime.ensures.whole.finite c.requires)
