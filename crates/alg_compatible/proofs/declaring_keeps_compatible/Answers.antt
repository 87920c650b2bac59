use Rattle.alg_compatible.proofs.Laws.{declaring_law, declaring_rows_law, declaring_exists_law, declaring_one_law}
use Rattle.alg_compatible.proofs.declaring_keeps_compatible.Goals as goal

pub returns-clause-compatible : goal.returns-clause-compatible
returns-clause-compatible c = declaring_law

pub returns-clause-rows : goal.returns-clause-rows
returns-clause-rows c = declaring_rows_law

pub returns-clause-exists : goal.returns-clause-exists
returns-clause-exists c = declaring_exists_law

pub returns-clause-determined : goal.returns-clause-determined
returns-clause-determined c = declaring_one_law
