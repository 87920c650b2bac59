-- A number above the bound is refused.
use Rattle.std.proofs.Common.{arith}
use Rattle.lattice_run.proofs.NamedTasks.{number_above}
use Rattle.lattice_run.proofs.tasks.number_up_to.Goals as goal

pub returns-else-number-from : goal.returns-else-number-from
returns-else-number-from c = λ n l is.
    number_above c.args.word.now c.in_ok-number.number n c.args.bound c.in_ok-number.ensures.0 c.in_ok-number.ensures.1
    (omega (arith, c.from.ensures)) l is
