use Rattle.std.proofs.Common.{[], refl}
use Rattle.std.proofs.lemmas.Result.{err_from_is_err_and}
use Rattle.lat_language.specs.declared.commands.Command.TheVariants.{Apply}
use Rattle.lat_session.specs.Outcomes.{operations_of}
use Rattle.lat_session.proofs.ComputedValues.{first_unknown, operand_valid, comes_apply}
use Rattle.lat_session.proofs.sessions.Session.applied.Goals as goal

pub returns-in_err-operand : goal.returns-in_err-operand
returns-in_err-operand g c = let p = err_from_is_err_and c.from_residual.result c.from_residual.ensures.1 in
    rw (p.1, p.2) (first_unknown (g.P.Port.knowledge c.args.port.now) c.args.self.now c.args.value.now _ (λ name. Apply name c.args.op c.args.value.now) [] (λ name. refl) c.in_err-operand.ensures
    (operations_of c.args.ops.now.first c.args.ops.now.second c.args.ops.now.third))

pub field_of-field-requires : goal.field_of-field-requires
field_of-field-requires g c = (c.requires.lattice, c.requires.seen, (c.requires.fit.values c.in_ok-operand.ensures).tag)

pub value_of-requires : goal.value_of-requires
value_of-requires g c = operand_valid c.requires c.in_ok-operand.ensures c.field_of-field.ensures

pub returns : goal.returns
returns g c = comes_apply (g.P.Port.knowledge c.args.port.now) c.args.self.now c.args.value.now c.in_ok-operand.operand c.field_of-field.result c.value_of.result c.in_ok-operand.ensures c.field_of-field.ensures
    (operations_of c.args.ops.now.first c.args.ops.now.second c.args.ops.now.third) c.args.op c.value_of.ensures
