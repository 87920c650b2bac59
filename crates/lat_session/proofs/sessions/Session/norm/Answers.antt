use Rattle.std.proofs.Common.{[], refl}
use Rattle.std.proofs.lemmas.Result.{err_from_is_err_and}
use Rattle.alg_model.specs.Conjugates as conjugates
use Rattle.lat_language.specs.declared.commands.Command.TheVariants.{Norm}
use Rattle.lat_session.proofs.FittingPlays.{seen_compatible}
use Rattle.lat_session.proofs.ComputedValues.{first_unknown, operand_valid}
use Rattle.lat_session.proofs.CombinedValues.{residue_fits, in_prime_field, comes_norm}
use Rattle.lat_session.proofs.sessions.Session.norm.Goals as goal

pub returns-in_err-operand : goal.returns-in_err-operand
returns-in_err-operand g c = let p = err_from_is_err_and c.from_residual.result c.from_residual.ensures.1 in
    rw (p.1, p.2) (first_unknown (g.P.Port.knowledge c.args.port.now) c.args.self.now c.args.value.now _ (λ name. Norm name c.args.value.now) [] (λ name. refl) c.in_err-operand.ensures)

pub field_of-field-requires : goal.field_of-field-requires
field_of-field-requires g c = (c.requires.lattice, c.requires.seen, (c.requires.fit.values c.in_ok-operand.ensures).tag)

pub norm-residue-requires : goal.norm-residue-requires
norm-residue-requires g c = operand_valid c.requires c.in_ok-operand.ensures c.field_of-field.ensures

pub prime_field-number-requires : goal.prime_field-number-requires
prime_field-number-requires g c = (c.requires.lattice, c.requires.seen, (c.requires.fit.values c.in_ok-operand.ensures).tag)

pub field_of-prime-requires : goal.field_of-prime-requires
field_of-prime-requires g c = (
  c.requires.lattice,
  c.requires.seen,
  ((seen_compatible c.requires.seen).compatible.within
      (c.prime_field-number.ensures c.requires.lattice c.requires.seen).stored).0,
)

pub of_residue-requires : goal.of_residue-requires
of_residue-requires g c = residue_fits c.field_of-field.result c.field_of-prime.result (seen_compatible c.requires.seen)
    (c.prime_field-number.ensures c.requires.lattice c.requires.seen) (c.field_of-field.ensures c.requires.lattice c.requires.seen)
    (c.field_of-prime.ensures c.requires.lattice c.requires.seen) c.norm-residue.result c.norm-residue.ensures.residue

pub returns : goal.returns
returns g c = comes_norm (g.P.Port.knowledge c.args.port.now) c.args.self.now c.args.value.now c.in_ok-operand.operand _ c.in_ok-operand.ensures
    (λ L s. in_prime_field c.field_of-field.result c.field_of-prime.result (λ G. conjugates.norm G c.in_ok-operand.operand.value)
    c.norm-residue.result c.of_residue.result (seen_compatible s) (c.prime_field-number.ensures L s) (c.field_of-field.ensures L s)
    (c.field_of-prime.ensures L s) c.norm-residue.ensures.residue c.norm-residue.ensures.value c.of_residue.ensures.value)
