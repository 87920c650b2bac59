use Rattle.std.proofs.Common.{[], refl, false, ⊎_elim}
use Rattle.std.proofs.lemmas.Result.{err_from_is_err_and}
use Rattle.lat_language.specs.declared.commands.Command.TheVariants.{Inv}
use Rattle.lat_session.proofs.Tables.{not_both}
use Rattle.lat_session.proofs.ComputedValues.{first_unknown, operand_valid, comes_inverse, comes_nothing}
use Rattle.std.proofs.lemmas.Bool.{cases_eq}
use Rattle.alg_rings.proofs.Decisions.{lists_equal_or_not}
use Rattle.alg_model.specs.Maps.{field_values}
use Rattle.lat_session.proofs.sessions.Session.inverse.Goals as goal

pub returns-in_err-operand : goal.returns-in_err-operand
returns-in_err-operand g c = let p = err_from_is_err_and c.from_residual.result c.from_residual.ensures.1 in
    rw (p.1, p.2) (first_unknown (g.P.Port.knowledge c.args.port.now) c.args.self.now c.args.value.now _ (λ name. Inv name c.args.value.now) [] (λ name. refl) c.in_err-operand.ensures)

pub field_of-field-requires : goal.field_of-field-requires
field_of-field-requires g c = (c.requires.lattice, c.requires.seen, (c.requires.fit.values c.in_ok-operand.ensures).tag)

pub inv-requires : goal.inv-requires
inv-requires g c = operand_valid c.requires c.in_ok-operand.ensures c.field_of-field.ensures

pub returns-in-Some : goal.returns-in-Some
returns-in-Some g c = comes_inverse (g.P.Port.knowledge c.args.port.now) c.args.self.now c.args.value.now c.in_ok-operand.operand c.field_of-field.result c.in-Some.inverse c.in_ok-operand.ensures c.field_of-field.ensures
    c.in-Some.ensures.valid c.in-Some.ensures.inverse

pub returns-in-None : goal.returns-in-None
returns-in-None g c = comes_nothing (g.P.Port.knowledge c.args.port.now) c.args.self.now c.args.value.now c.in_ok-operand.operand c.field_of-field.result c.in_ok-operand.ensures c.field_of-field.ensures
    (⊎_elim (λ e. e) (λ n. absurd (not_both false refl (c.in-None.ensures.some.1 n)))
    (lists_equal_or_not cases_eq c.in_ok-operand.operand.value (field_values c.field_of-field.result).ops.zero))
