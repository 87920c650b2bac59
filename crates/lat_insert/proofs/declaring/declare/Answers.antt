-- What is declared is what was written.
use Rattle.std.proofs.Common.{subst}
use Rattle.std.specs.Result.{OnErr}
use Rattle.ff_poly.specs.Polynomial.{Polynomial}
use Rattle.lat_core.specs.Step.{IsMalformed, Declares}
use Rattle.lat_core.specs.declared.requests.Request.TheVariants.{Declare}
use Rattle.lat_insert.specs.Insertions.{StepAdds}
use Rattle.lat_insert.proofs.declaring.declare.Goals as goal

pub returns-in-Ok-clause-memory : goal.returns-in-Ok-clause-memory
returns-in-Ok-clause-memory c = subst
    (λ (f : Polynomial). OnErr c.declare_polynomial.result (StepAdds c.args.lattice.now (Declare c.args.name.now f.prime f.coefficients)))
    c.in-Ok.ensures.well_formed.1 c.declare_polynomial.ensures.memory

pub returns-in-Err-clause-declared : goal.returns-in-Err-clause-declared
returns-in-Err-clause-declared c = Declares.malformed
    (subst (λ e. IsMalformed e c.args.p c.args.digits.now c.in-Err.refusal) c.edition.ensures.value c.in-Err.ensures.malformed)
