use Rattle.alg_galois.proofs.LeastIrreducible.{least_irreducible_exists, least_irreducible_unique}
use Rattle.alg_galois.proofs.irreducible_of_each_degree.Goals as goal

pub returns-clause-exists : goal.returns-clause-exists
returns-clause-exists c = least_irreducible_exists

pub returns-clause-unique : goal.returns-clause-unique
returns-clause-unique c = least_irreducible_unique
