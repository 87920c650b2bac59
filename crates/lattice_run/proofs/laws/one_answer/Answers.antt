-- What words ask for and an input have one answer.
use Rattle.lattice_run.proofs.Determined.{status_unique}
use Rattle.lattice_run.proofs.Answered.{answer_exists, answer_unique}
use Rattle.lattice_run.proofs.Threaded.{answer_with_threads}
use Rattle.lattice_run.proofs.laws.one_answer.Goals as goal

pub returns-clause-exists : goal.returns-clause-exists
returns-clause-exists c = answer_exists

pub returns-clause-unique : goal.returns-clause-unique
returns-clause-unique c = answer_unique

pub returns-clause-status : goal.returns-clause-status
returns-clause-status c = λ threads beside operations asked input s t text other a b. status_unique a b

pub returns-clause-threads : goal.returns-clause-threads
returns-clause-threads c = answer_with_threads
