-- Words ask for one task, or for none.
use Rattle.lattice_run.proofs.NamedTasks.{words_ask, words_ask_once}
use Rattle.lattice_run.proofs.laws.one_task.Goals as goal

pub returns-clause-exists : goal.returns-clause-exists
returns-clause-exists c = words_ask

pub returns-clause-unique : goal.returns-clause-unique
returns-clause-unique c = words_ask_once
