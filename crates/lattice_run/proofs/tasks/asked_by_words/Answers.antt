-- There is a field at least.
use Rattle.std.proofs.Common.{arith}
use Rattle.lattice_run.proofs.NamedTasks.{zero_fields}
use Rattle.lattice_run.proofs.tasks.asked_by_words.Goals as goal

pub returns-then-fields-eq0 : goal.returns-then-fields-eq0
returns-then-fields-eq0 c =
    zero_fields c.args.word.now c.args.seed.now c.args.fields.now c.args.embeds.now c.in_ok-fields.fields (omega arith)
    c.in_ok-fields.ensures.1
