-- The cases of the declaration, from what the code finds.
use Rattle.std.proofs.Common.{subst, sym, false}
use Rattle.lat_core.specs.Step.{Declares}
use Rattle.lat_core.specs.declared.replies.StepRefusal.TheVariants.{TooManyFields}
use Rattle.lat_core.specs.declared.replies.Reply.TheVariants.{Declared, Refused}
use Rattle.lat_insert.proofs.Declarations.{reducible_declares, declares, declaring_adds, has_room, on_err}
use Rattle.lat_insert.proofs.declaring.declare_polynomial.Goals as goal

pub returns-in-Some-least_factor-clause-declared : goal.returns-in-Some-least_factor-clause-declared
returns-in-Some-least_factor-clause-declared c = reducible_declares {f = c.args.polynomial} c.in-Some-least_factor.factor c.requires.well_formed
    c.in_default.ensures c.in-Some-least_factor.ensures.prime c.in-Some-least_factor.ensures.factor

pub returns-then-lacks_room-clause-declared : goal.returns-then-lacks_room-clause-declared
returns-then-lacks_room-clause-declared c = subst
    (λ n. Declares c.args.lattice.now c.args.name.now c.args.polynomial.prime c.args.polynomial.coefficients (Refused (TooManyFields n 1)) c.args.lattice.now)
    (sym c.fields-number.ensures.value)
    (Declares.full c.requires.well_formed c.in_default.ensures c.in_default-least_factor.ensures.irreducible
    (c.lacks_room.ensures.0 c.if-lacks_room.true))

pub returns-in_err-lattice-clause-memory : goal.returns-in_err-lattice-clause-memory
returns-in_err-lattice-clause-memory c = on_err c.from_residual.result (declaring_adds c.edition.ensures.whole (record {
  proper = c.requires.proper;
  well_formed = c.requires.well_formed;
  free = c.in_default.ensures;
  irreducible = c.in_default-least_factor.ensures.irreducible;
  room = has_room c.lacks_room.result c.lacks_room.ensures c.if-lacks_room.false;
}))

pub returns-clause-declared : goal.returns-clause-declared
returns-clause-declared c = subst
    (λ n. Declares c.args.lattice.now c.args.name.now c.args.polynomial.prime c.args.polynomial.coefficients (Declared n false) c.in_ok-lattice.field-0)
    (sym c.fields-number.ensures.value)
    (declares c.edition.ensures.whole (record {
      proper = c.requires.proper;
      well_formed = c.requires.well_formed;
      free = c.in_default.ensures;
      irreducible = c.in_default-least_factor.ensures.irreducible;
      room = has_room c.lacks_room.result c.lacks_room.ensures c.if-lacks_room.false;
    }) c.in_ok-lattice.ensures)
