use Rattle.alg_splitting.proofs.RootLists.{root_list_exists, root_list_unique, root_list_least, root_list_short}
use Rattle.alg_splitting.proofs.roots_are_one_list.Goals as goal

pub returns-clause-exists : goal.returns-clause-exists
returns-clause-exists c = root_list_exists

pub returns-clause-determined : goal.returns-clause-determined
returns-clause-determined c = root_list_unique

pub returns-clause-first : goal.returns-clause-first
returns-clause-first c = root_list_least

pub returns-clause-few : goal.returns-clause-few
returns-clause-few c = root_list_short
