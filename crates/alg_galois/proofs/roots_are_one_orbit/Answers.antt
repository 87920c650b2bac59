use Rattle.alg_galois.proofs.EmbeddingRoots.{least_root_where_divides, root_degree_divides, roots_are_powers, root_powers_agree, powers_are_roots}
use Rattle.alg_galois.proofs.roots_are_one_orbit.Goals as goal

pub returns-clause-exists : goal.returns-clause-exists
returns-clause-exists c = least_root_where_divides

pub returns-clause-degree : goal.returns-clause-degree
returns-clause-degree c = root_degree_divides

pub returns-clause-powers : goal.returns-clause-powers
returns-clause-powers c = powers_are_roots

pub returns-clause-orbit : goal.returns-clause-orbit
returns-clause-orbit c = roots_are_powers

pub returns-clause-different : goal.returns-clause-different
returns-clause-different c = root_powers_agree
