use Rattle.alg_splitting.proofs.ConjugateRoots.{irreducible_root_count, irreducible_root_list}
use Rattle.alg_splitting.proofs.irreducible_has_all_or_no_roots.Goals as goal

pub returns-clause-all : goal.returns-clause-all
returns-clause-all c = irreducible_root_count

pub returns-clause-none : goal.returns-clause-none
returns-clause-none c = irreducible_root_list
