use Rattle.alg_galois.proofs.Meets.{subfield_exists, subfield_is_fixed, meet_is_gcd}
use Rattle.alg_galois.proofs.one_subfield_for_each_divisor.Goals as goal

pub returns-clause-exists : goal.returns-clause-exists
returns-clause-exists c = subfield_exists

pub returns-clause-fixed : goal.returns-clause-fixed
returns-clause-fixed c = subfield_is_fixed

pub returns-clause-meet : goal.returns-clause-meet
returns-clause-meet c = meet_is_gcd
