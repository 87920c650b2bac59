use Rattle.alg_rings.proofs.PolynomialOrder.{order_by_shorter, order_by_longer, order_by_place, order_by_itself}
use Rattle.alg_rings.proofs.order_is_by_length_and_place.Goals as goal

pub returns-clause-shorter : goal.returns-clause-shorter
returns-clause-shorter g c = λ compare f h l. (order_by_shorter compare f h l, order_by_longer compare h f l)

pub returns-clause-place : goal.returns-clause-place
returns-clause-place g c = λ compare r f h zero k e l s n. order_by_place compare r f h zero k e l s n

pub returns-clause-equal : goal.returns-clause-equal
returns-clause-equal g c = λ compare r f. order_by_itself compare r f
