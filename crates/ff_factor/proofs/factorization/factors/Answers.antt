use Rattle.ff_factor.proofs.Collecting.{factorization_collected}
use Rattle.ff_factor.proofs.factorization.factors.Goals as goal

pub returns-clause-factorization : goal.returns-clause-factorization
returns-clause-factorization c =
    let k = c.new-list.ensures in factorization_collected _ _ _ k c.prime-prime.ensures.whole c.collect.ensures
