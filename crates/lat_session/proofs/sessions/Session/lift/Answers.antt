use Rattle.std.proofs.Common.{[], refl}
use Rattle.std.proofs.lemmas.Result.{err_from_is_err_and}
use Rattle.lat_language.specs.declared.commands.Command.TheVariants.{Lift}
use Rattle.lat_session.proofs.ComputedValues.{first_unknown}
use Rattle.lat_session.proofs.CombinedValues.{lifts_nowhere, lifts_somewhere}
use Rattle.lat_session.proofs.sessions.Session.lift.Goals as goal

pub returns-in_err-operand : goal.returns-in_err-operand
returns-in_err-operand g c = let p = err_from_is_err_and c.from_residual.result c.from_residual.ensures.1 in
    rw (p.1, p.2) (first_unknown (g.P.Port.knowledge c.args.port.now) c.args.self.now c.args.value.now _ (λ name. Lift name c.args.value.now c.args.to.now) [] (λ name. refl) c.in_err-operand.ensures)

pub returns-in_err-number : goal.returns-in_err-number
returns-in_err-number g c = let p = err_from_is_err_and c.from_residual-in_err-number.result c.from_residual-in_err-number.ensures.1 in
    rw (p.1, p.2) (lifts_nowhere (g.P.Port.knowledge c.args.port.now) c.args.self.now c.args.value.now c.args.to.now _ c.in_ok-operand.operand c.in_ok-operand.ensures c.in_err-number.ensures)

pub field_word-requires : goal.field_word-requires
field_word-requires g c = (c.requires.lattice, c.requires.seen)

pub lifted-requires : goal.lifted-requires
lifted-requires g c = (
  c.requires.lattice,
  c.requires.seen,
  (
    c.requires.fit.values c.in_ok-operand.ensures,
    (c.in_ok-number.ensures c.requires.lattice c.requires.seen).within,
  ),
)

pub returns : goal.returns
returns g c = lifts_somewhere (g.P.Port.knowledge c.args.port.now) c.args.self.now c.args.value.now c.args.to.now c.in_ok-operand.operand c.in_ok-number.number c.lifted.result
    c.in_ok-operand.ensures c.in_ok-number.ensures c.lifted.ensures
