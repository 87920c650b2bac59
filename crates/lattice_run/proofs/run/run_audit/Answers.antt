-- Each way out of the reading of a dump.
use Rattle.std.proofs.Common.{subst, sym, arith}
use Rattle.lat_io.specs.Source.{ReadWhole}
use Rattle.lat_audit.specs.declared.verdict_lines.TheConstants.{MAX_DUMP}
use Rattle.lattice_run.proofs.Running.{ran_verdict, ran_long_dump, whole_takes, before_takes}
use Rattle.lattice_run.proofs.run.run_audit.Goals as goal

pub returns-in-Ok-clause-ran : goal.returns-in-Ok-clause-ran
returns-in-Ok-clause-ran g c = λ operations.
    ran_verdict _ _ _ _ c.answer_verdict.result c.audit.result c.deref.result.now (c.in-Ok.ensures.unfailed (λ e. cc))
    (omega (arith, c.in-Ok.ensures.within, c.deref.ensures.len))
    (subst (λ xs. ReadWhole (g.S.Source.left c.args.source.now) (g.S.Source.left c.read_all.new.source) xs) (sym c.deref.ensures.value) c.in-Ok.ensures.whole)
    c.audit.ensures.verdict c.audit.ensures.some c.answer_verdict.ensures

pub returns-in-Ok-clause-taken : goal.returns-in-Ok-clause-taken
returns-in-Ok-clause-taken g c =
    whole_takes MAX_DUMP _ _ c.in-Ok.input.items (omega (arith, c.in-Ok.ensures.within, c.deref.ensures.len)) c.in-Ok.ensures.whole

pub returns-in-Err-TooLong-clause-ran : goal.returns-in-Err-TooLong-clause-ran
returns-in-Err-TooLong-clause-ran g c =
    let taken = (rw (c.in-Err-TooLong.field-0-is) at c.in-Err-TooLong.ensures.fault) in λ operations.
    ran_long_dump _ _ _ _ c.deliver.result c.dump_too_long_line.result.now
    (let is_long = c.in-Err-TooLong.field-0-is in c.in-Err-TooLong.ensures.unfailed (λ e. cc)) taken.1 c.dump_too_long_line.ensures c.deliver.ensures

pub returns-in-Err-TooLong-clause-taken : goal.returns-in-Err-TooLong-clause-taken
returns-in-Err-TooLong-clause-taken g c = before_takes MAX_DUMP _ _ _ c.in-Err-TooLong.ensures.fault
