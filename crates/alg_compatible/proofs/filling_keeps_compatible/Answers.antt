use Rattle.alg_compatible.proofs.Laws.{filling_law, filling_rows_law, rules_law, filling_one_law, filling_exists_law}
use Rattle.alg_compatible.proofs.filling_keeps_compatible.Goals as goal

pub returns-clause-compatible : goal.returns-clause-compatible
returns-clause-compatible c = filling_law

pub returns-clause-rows : goal.returns-clause-rows
returns-clause-rows c = filling_rows_law

pub returns-clause-maps : goal.returns-clause-maps
returns-clause-maps c = rules_law

pub returns-clause-determined : goal.returns-clause-determined
returns-clause-determined c = filling_one_law

pub returns-clause-exists : goal.returns-clause-exists
returns-clause-exists c = filling_exists_law
