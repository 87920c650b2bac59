-- The decimal of a number is read as that number.
use Rattle.lattice_run.proofs.NamedTasks.{number_written, number_read}
use Rattle.lattice_run.proofs.tasks.number.Goals as goal

pub returns-else-eq : goal.returns-else-eq
returns-else-eq c = λ n small is.
    number_written c.args.word.now c.format.result.now c.parse.result c.in-Ok.number n c.eq.result small is
    c.parse.ensures.value.0 c.in-Ok.is c.format.ensures.text c.eq.ensures c.if-eq.false

pub returns-in-Err : goal.returns-in-Err
returns-in-Err c = λ n small is.
    number_read c.args.word.now c.parse.result n c.in-Err.field-0 small is c.parse.ensures.value.0 c.in-Err.is
