use Rattle.ff_factor.proofs.Collecting.{collects_parts}
use Rattle.ff_factor.proofs.factorization.+collect.Goals as goal

pub returns-in-Some : goal.returns-in-Some
returns-in-Some t c =
    collects_parts _ _ _ _ _ _ c.cofactor-rest.ensures.characteristic c.in-Some.ensures.prime c.cofactor-rest.ensures.prime
    c.in-Some.ensures.least.factor.polynomial c.cofactor-rest.ensures.cofactor c.add.ensures c.collect.ensures

pub returns-in-Divisor : goal.returns-in-Divisor
returns-in-Divisor t c =
    collects_parts _ _ _ _ _ _ c.cofactor-quotient.ensures.characteristic c.in-Divisor.ensures.0 c.cofactor-quotient.ensures.prime
    c.in-Divisor.ensures.1.polynomial c.cofactor-quotient.ensures.cofactor c.collect-in-Divisor.ensures c.collect-in-Divisor-2.ensures
