-- Each way out of the reading of a script.
use Rattle.std.proofs.Common.{subst, sym, arith}
use Rattle.lat_io.specs.Source.{ReadWhole}
use Rattle.lattice_run.specs.declared.run.TheConstants.{MAX_INPUT}
use Rattle.lattice_run.proofs.Running.{read_is, ran_too_long, whole_takes, before_takes}
use Rattle.lattice_run.proofs.run.read_script.Goals as goal

pub returns-in-Ok-clause-read : goal.returns-in-Ok-clause-read
returns-in-Ok-clause-read g c =
    read_is _ _ _ _ c.deref.result.now c.spelled_script.result (c.in-Ok.ensures.unfailed (λ e. cc))
    (omega (arith, c.in-Ok.ensures.within, c.deref.ensures.len))
    (subst (λ xs. ReadWhole (g.S.Source.left c.args.source.now) (g.S.Source.left c.read_all.new.source) xs) (sym c.deref.ensures.value) c.in-Ok.ensures.whole)
    c.spelled_script.ensures

pub returns-in-Ok-clause-taken : goal.returns-in-Ok-clause-taken
returns-in-Ok-clause-taken g c =
    whole_takes MAX_INPUT _ _ c.in-Ok.input.items (omega (arith, c.in-Ok.ensures.within, c.deref.ensures.len)) c.in-Ok.ensures.whole

pub returns-in-Err-TooLong-clause-read : goal.returns-in-Err-TooLong-clause-read
returns-in-Err-TooLong-clause-read g c =
    let taken = (rw (c.in-Err-TooLong.field-0-is) at c.in-Err-TooLong.ensures.fault) in λ operations wanted.
    ran_too_long wanted _ _ _ _ c.deliver.result c.too_long_line.result.now
    (let is_long = c.in-Err-TooLong.field-0-is in c.in-Err-TooLong.ensures.unfailed (λ e. cc)) taken.1 c.too_long_line.ensures c.deliver.ensures

pub returns-in-Err-TooLong-clause-taken : goal.returns-in-Err-TooLong-clause-taken
returns-in-Err-TooLong-clause-taken g c = before_takes MAX_INPUT _ _ _ c.in-Err-TooLong.ensures.fault
